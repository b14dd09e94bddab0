-- Figures and sizes as JSON are read back.
use Rattle.std.proofs.Common.{◌≡◌, ◌∙◌, ◌+◌, ℕ, ◌<◌, ◌≤◌, ◌^◌, List, [], ◌∷◌, Option, Some, None, arith, ap, map, option_and_then, option_map, refl}
use Rattle.bolt_report.proofs.Words.{bytes_allocated, bytes_used, saturated, IsBytes, json_text, size_json, Stats}
use Rattle.std.specs.Prelude.{IfSome}
use Rattle.json.proofs.{Printed.Decimals.IsNumber-decimal, Printed.Trees.document-print}
use Rattle.json.specs.{Json.Json, Json.document, Json.no_members, Tree.HasNumbers, Tree.MembersHaveNumbers, Tree.depth, Tree.members_depth}
use Rattle.bolt_report.specs.FigureForms.{Named, figures_json, figures_then, json_name, number_json}
use Rattle.bolt_report.specs.FigureReadings.{HaveWords, count_of, figures_in, figures_of_json, size_of}
use Rattle.bolt_text.proofs.Exports.{Reads, numeral_back}

saturated_fits : (n : ℕ) → saturated n < 2 ^ 64
saturated_fits n = omega arith

-- what is found in turn is found together
all_found : {K U A : ℕ} {N : Option (List ℕ)} {keys used allocated : ℕ} {name : List ℕ} → K ≡ keys → U ≡ used → A ≡ allocated → N ≡ Some name
    → option_map {U = ℕ × ℕ × ℕ × List ℕ} (λ (name : List ℕ). (K, U, A, name)) N ≡ Some (keys, used, allocated, name)
all_found first second third last = rw (first, second, third, last) refl

module _ (shown : List ℕ → Json) (read : Json → Option (List ℕ)) (reads : Reads shown read) where
  pub size_back : (stats : Stats) (name : List ℕ) → stats.keys < 2 ^ 64 → IsBytes name
      → option_and_then (size_of read) (document (json_text (size_json stats (shown name)))) ≡ Some (stats.keys, bytes_used stats, bytes_allocated stats, name)
  size_back stats name fits h =
      let used = saturated_fits (stats.branch_used + stats.leaf_used + stats.inline_used) in
      let allocated = saturated_fits (stats.branch_allocated + stats.leaf_allocated + stats.inline_used) in
      let numbers : HasNumbers (size_json stats (shown name)) = (
        IsNumber-decimal stats.keys fits,
        (IsNumber-decimal (bytes_used stats) used, (IsNumber-decimal (bytes_allocated stats) allocated, (reads.numbers name, tt))),
      ) in
      ap (option_and_then (size_of read)) (document-print (size_json stats (shown name)) numbers (omega (arith, reads.shallow name)))
      ∙ all_found (numeral_back stats.keys fits) (numeral_back (bytes_used stats) used) (numeral_back (bytes_allocated stats) allocated) (reads.back name h)

named_back : (n : Option ℕ) → IfSome n (λ k. k < 2 ^ 64) → count_of (number_json n) ≡ Some n
named_back None h = refl
named_back (Some n) h = ap (λ k. Some (Some k)) (numeral_back n h)

number_fine : (n : Option ℕ) → IfSome n (λ k. k < 2 ^ 64) → HasNumbers (number_json n)
number_fine None h = tt
number_fine (Some n) h = IsNumber-decimal n h

number_flat : (n : Option ℕ) → depth (number_json n) ≤ 0
number_flat None = omega arith
number_flat (Some n) = omega arith

figures_numbers : (figures : List Named) → HaveWords figures → MembersHaveNumbers (figures_then figures no_members)
figures_numbers [] h = tt
figures_numbers (figure ∷ figures) h = (number_fine figure.1 h.0, figures_numbers figures h.1)

figures_flat : (figures : List Named) → members_depth (figures_then figures no_members) ≤ 0
figures_flat [] = omega arith
figures_flat (figure ∷ figures) = omega (arith, number_flat figure.1, figures_flat figures)

shown_figures : List Named → List Named
shown_figures figures = map (λ figure. (json_name figure.0, figure.1)) figures

figures_back : (figures : List Named) → HaveWords figures → figures_in (figures_then figures no_members) ≡ Some (shown_figures figures)
unfolding shown_figures
figures_back [] h = refl
figures_back (figure ∷ figures) h = grind (arith, option_and_then, named_back, figures_back figures h.1)

pub figures_document : (figures : List Named) → HaveWords figures
    → option_and_then figures_of_json (document (json_text (figures_json figures))) ≡ Some (map (λ figure. (json_name figure.0, figure.1)) figures)
unfolding shown_figures
figures_document figures h =
    ap (option_and_then figures_of_json) (document-print (figures_json figures) (figures_numbers figures h) (omega (arith, figures_flat figures)))
    ∙ figures_back figures h

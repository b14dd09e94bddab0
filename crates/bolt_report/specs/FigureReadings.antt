-- What a reader of figures and of sizes as JSON finds in them: docs/COMMANDS.md, "What is printed".
use Rattle.std.specs.Prelude.{◌≡◌, ℕ, ◌<◌, ◌^◌, List, [], ◌∷◌, Option, Some, None, IfSome, ⊤, codes, option_and_then, option_map}
use Rattle.std.specs.Str.Parse.{digits_value}
use Rattle.hex.specs.Hex.{IsBytes}
use Rattle.json.specs.Json.{Json, Members, document, member, no_members, null, number}
use Rattle.bolt_text.specs.{Forms.json_text, JsonReadings.object_members, JsonReadings.named, JsonReadings.number_under}
use Rattle.bolt_stats.specs.declared.figures.Stats.{Stats}
use Rattle.bolt_report.specs.{FigureForms.Named, SizeLines.bytes_allocated, SizeLines.bytes_used, SizeLines.size_json}

-- `read` reads a name
module _ (read : Json → Option (List ℕ)) where
  -- the sizes of a bucket: its keys, its bytes used and allocated, and its name, each by its name
  abbrev pub size_of_members : Members → Option (ℕ × ℕ × ℕ × List ℕ)
  size_of_members ms =
      option_and_then (λ keys. option_and_then (λ used. option_and_then (λ allocated. option_map (λ name. (keys, used, allocated, name))
      (option_and_then read (named (codes "name") ms))) (number_under (codes "allocated") ms)) (number_under (codes "used") ms))
      (number_under (codes "keys") ms)

  abbrev pub size_of : Json → Option (ℕ × ℕ × ℕ × List ℕ)
  size_of json = option_and_then size_of_members (object_members json)

-- figures by their names, in their order; `null` is no number
abbrev pub count_of : Json → Option (Option ℕ)
count_of null = Some None
count_of (number s) = Some (Some (digits_value 10 s))
count_of _ = None

abbrev pub figures_in : Members → Option (List Named)
figures_in no_members = Some []
figures_in (member name j ms) = option_and_then (λ n. option_map (λ figures. (name, n) ∷ figures) (figures_in ms)) (count_of j)

abbrev pub figures_of_json : Json → Option (List Named)
figures_of_json json = option_and_then figures_in (object_members json)

-- each figure that has a number has one of 64 bits
abbrev pub HaveWords : List Named → Type 0
HaveWords [] = ⊤
HaveWords (figure ∷ figures) = IfSome figure.1 (λ n. n < 2 ^ 64) × HaveWords figures

-- the sizes of a bucket with a name
abbrev pub named_size : Stats → List ℕ → ℕ × ℕ × ℕ × List ℕ
named_size stats name = (stats.keys, bytes_used stats, bytes_allocated stats, name)

-- sizes as JSON, with the name as `write` writes it, are read back by `read`
abbrev pub ReadsSizesBack : (read : Json → Option (List ℕ)) → (write : List ℕ → Json) → Type 0
ReadsSizesBack read write = (stats : Stats) (name : List ℕ) → stats.keys < 2 ^ 64 → IsBytes name
    → option_and_then (size_of read) (document (json_text (size_json stats (write name)))) ≡ Some (named_size stats name)

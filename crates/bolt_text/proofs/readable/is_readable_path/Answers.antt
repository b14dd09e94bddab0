-- The parts of the path are tested one after another.
use Rattle.std.proofs.Common.{◌≡◌, ◌∙◌, ◌&&◌, Bool, Bor, List, ℕ, ap, length, not, rules, sym, tests, true}
use Rattle.std.specs.Prelude.{◌==◌}
use Rattle.std.proofs.{lemmas.Iterator.YieldsList-from_slice, lemmas.Iterator.Search.all_from_yields_List, lemmas.List.length-map}
use Rattle.std.proofs.{lemmas.List.Folds.list_all-map}
use Rattle.bolt_text.proofs.Vocabulary.{list_all, path_of}
use Rattle.bolt_text.specs.NamedPaths.{is_readable_part}
use Rattle.bolt_text.proofs.readable.is_readable_path.Goals as goal

pub returns-then-not-is_empty : goal.returns-then-not-is_empty
returns-then-not-is_empty c =
    let path = c.args.path.now in
    let some : not (length (path_of path) == 0) ≡ true =
    ap (λ n. not (n == 0)) (length-map path (λ (part : Bor (List ℕ)). part.now)) ∙ ap not (sym c.if-not-is_empty.ensures) in
    all_from_yields_List (λ (part : Bor (List ℕ)). is_readable_part part.now) _ _ c.all.result c.all.ensures.ran
    (YieldsList-from_slice path c.iter.ensures.rest) (λ x b q k. search (rules, tests))
    ∙ sym (list_all-map is_readable_part (λ (part : Bor (List ℕ)). part.now) path)
    ∙ ap (λ (b : Bool). b && list_all is_readable_part (path_of path)) (sym some)

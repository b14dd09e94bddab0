-- A right text has no fault.
use Rattle.std.proofs.Common.{arith, ◌≡◌, ◌∙◌, ℕ, List, [], ◌∷◌, ◌++◌, None, ap, append_assoc, append-nil}
use Rattle.std.proofs.lemmas.Grind.{common_steps}
use Rattle.bolt_load.proofs.Words.{filter_map-append, IsListingText, IsLoadFault, line_fault, LineFault, Member, members_of_lines, RightAfter, Text}
use Rattle.bolt_load.specs.declared.load_fault.LoadFault.TheVariants.{Line}

right_at : (before : List Member) (front : List Text) (line : Text) (rest : List Text) → RightAfter before (front ++ line ∷ rest)
    → line_fault (before ++ members_of_lines front) line ≡ None
right_at before [] line rest right = ap (λ ms. line_fault ms line) (append-nil before) ∙ right.0
right_at before (first ∷ front) line rest right =
    grind (arith, filter_map-append, append_assoc, right_at (before ++ members_of_lines (first ∷ [])) front line rest right.1)

pub no_fault : (text : Text) (number : ℕ) (fault : LineFault) → IsListingText text → IsLoadFault text (Line number fault) → ⊥
no_fault text number fault right h = grind (arith, common_steps, right_at)

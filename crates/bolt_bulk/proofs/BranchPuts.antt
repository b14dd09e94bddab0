-- A branch page, written piece by piece.
use Rattle.std.proofs.Common.{◌≡◌, ℕ, ◌+◌, ◌-◌, ◌*◌, List, [], ◌∷◌, ◌++◌, length, map, refl, arith, append_assoc}
use Rattle.std.proofs.lemmas.List.{append-nil, length-append, length-map}
use Rattle.bolt_format.specs.{ElementPlaces.branch_view, declared.element.Branch.Branch, Encoded.branch_header, Encoded.header_bytes, Endings.Ending}
use Rattle.bolt_format.specs.{Wrote.Wrote, declared.sink.Sink.Ghosts}
use Rattle.bolt_layout.specs.{Layout.placed_bytes, Levels.overflow_of, PageBytes.branch_bytes, PageBytes.branch_data, PageBytes.branch_headers}
use Rattle.bolt_layout.specs.{PageBytes.page_bytes}
use Rattle.bolt_layout.proofs.Exports.{length-branch_headers}
use Rattle.bolt_format.proofs.Exports.{length-header_bytes}
use Rattle.bolt_format.specs.declared.header.Kind.TheVariants as kind
use Rattle.bolt_bulk.specs.{Private.IsSizedRun, Private.data_of, Private.data_size, Private.heads_from, Private.run_page, Private.run_view}
use Rattle.bolt_bulk.specs.{declared.branch_run.BranchRun.BranchRun}
use Rattle.bolt_bulk.proofs.FilledTexts.{zeros, filled_pieces}

abbrev pub head_of : ℕ → ℕ → ℕ → Branch → List ℕ
head_of pos key value x = branch_header pos key x.child

abbrev pub key_of : Branch → List ℕ
key_of x = x.key.now

-- an element has no value
abbrev pub no_length : Branch → ℕ
no_length x = 0

abbrev pub no_value : Branch → List ℕ
no_value x = []

branch_heads : (before : ℕ) (xs : List Branch) → heads_from head_of key_of no_length before xs ≡ branch_headers before (map branch_view xs)
branch_heads before [] = refl
branch_heads before (x ∷ xs) = grind (arith, length-map, branch_heads (before + length x.key.now) xs)

branch_datas : (xs : List Branch) → data_of key_of no_value xs ≡ branch_data (map branch_view xs)
branch_datas [] = refl
branch_datas (x ∷ xs) = grind (arith, branch_datas xs)

pub branch_size : (xs : List Branch) → data_size key_of no_length xs ≡ length (branch_data (map branch_view xs))
branch_size [] = refl
branch_size (x ∷ xs) = grind (arith, branch_size xs, length-append)

-- The page over a run, in the pieces that are written.
pub branch_run_wrote : {S : Type 0} {sink : Ghosts S} {old new : S} (page_size number : ℕ) (run : BranchRun) {end : Ending}
    → IsSizedRun (run_view run)
    → Wrote sink old new (header_bytes number kind.Branch (length run.elements.items) (overflow_of page_size run.size)
    ++ ((heads_from head_of key_of no_length 0 run.elements.items ++ data_of key_of no_value run.elements.items)
    ++ zeros ((1 + overflow_of page_size run.size) * page_size - run.size))) end
    → Wrote sink old new (placed_bytes page_size (run_page page_size (run_view run) number ∷ [])) end
unfolding page_bytes branch_bytes
branch_run_wrote page_size number run sized wrote =
    let heads = branch_heads 0 run.elements.items in
    let datas = branch_datas run.elements.items in
    grind (arith, length-map, length-header_bytes, length-branch_headers, zeros, filled_pieces, append-nil, append_assoc)

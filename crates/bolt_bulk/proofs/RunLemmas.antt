-- A run of pages that takes one more, and closes if the next one doesn't join it.
use Rattle.std.proofs.Common.{div-add-mod', add-mul, ◌≡◌, ◌∙◌, ℕ, ◌+◌, ◌*◌, ◌<◌, ◌≤◌, true, List, [], ◌∷◌, ◌++◌, length, ap}
use Rattle.std.proofs.Common.{arith}
use Rattle.std.proofs.{lemmas.Bool.leb-true, lemmas.Bool.ltb-true, lemmas.List.length-append, lemmas.List.append-nil}
use Rattle.bolt_lemmas.proofs.Exports.{few_or_fits}
use Rattle.bolt_format.specs.Elements.{BranchElement}
use Rattle.bolt_layout.specs.{Levels.overflow_of, PageBytes.branch_data}
use Rattle.bolt_bulk.specs.Private.{IsPushed, IsSizedRun, IsStanding, run_kept, run_push, run_stays, RunView}
use Rattle.bolt_layout.proofs.Exports.{overflow_room, overflow_small}

overflow_most : (page_size size : ℕ) → (1 + overflow_of page_size size) * page_size ≤ size + page_size
unfolding overflow_of
overflow_most page_size size = omega (arith, div-add-mod', add-mul)

-- a page with its further pages has room for its content, and 64 bits for its size
pub run_fits : (page_size size : ℕ) → 1024 ≤ page_size → 0 < size
    → (overflow_of page_size size ≤ size) × (size ≤ (1 + overflow_of page_size size) * page_size)
    × ((1 + overflow_of page_size size) * page_size ≤ size + page_size)
run_fits page_size size page some = (overflow_small page_size size, overflow_room page_size size (omega arith) some, overflow_most page_size size)

data_push : (es : List BranchElement) (e : BranchElement) → length (branch_data (es ++ e ∷ [])) ≡ length (branch_data es) + length e.key
data_push [] e = ap (λ (t : List ℕ). length t) (append-nil e.key) ∙ omega arith
data_push (x ∷ es) e = omega (arith, length-append x.key (branch_data (es ++ e ∷ [])), length-append x.key (branch_data es), data_push es e)

pub pushed_sized : (run : RunView) (e : BranchElement) → IsSizedRun run → IsSizedRun (run_push run e)
pushed_sized run e sized = omega (arith, data_push run.elements e, length-append run.elements (e ∷ []))

pub pushed : (run : RunView) (e : BranchElement) → IsStanding run → length e.key ≤ 1073741824 → IsPushed (run_push run e)
pushed run e is key = grind (arith, length-append, pushed_sized)

-- a run that stays open for the next page stands
pub stays_standing : (page_size k : ℕ) (run : RunView) (e : BranchElement) → page_size ≤ 33554432 → IsStanding run → length e.key ≤ 1073741824
    → run_stays page_size (run_push run e) k ≡ true
    → IsStanding (run_kept page_size (run_push run e) k)
stays_standing page_size k run e high is key stays = grind (arith, pushed, length-append, few_or_fits, ltb-true, leb-true)

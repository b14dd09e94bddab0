-- The most that a pass has held so far changes only when an item joins a leaf: then the items that are held now count.
use Rattle.std.proofs.Common.{◌≡◌, ◌∙◌, ℕ, ◌+◌, ◌≤◌, Option, List, [], ◌∷◌, ◌++◌, length, max, refl, ap, arith}
use Rattle.std.proofs.{lemmas.List.length-append, lemmas.List.length-map, lemmas.List.Sums.sum_by-cons}
use Rattle.bolt_format.specs.{ElementPlaces.branch_view, Elements.BranchElement, Elements.LeafElement}
use Rattle.bolt_layout.specs.Laid.{Laid, elements_of, held_in}
use Rattle.bolt_bulk.specs.Private.{AreOpenRuns, AreUppers, AreWaiting, bucket_runs, climb, close, end_of, BucketFrame, held_frames, held_item}
use Rattle.bolt_bulk.specs.Private.{held_on, held_open, held_over, held_so_far, items_above, items_around, items_in, Known, length_frames}
use Rattle.bolt_bulk.specs.Private.{length_open, length_over, making_room, Open, pushing, run_view, runs_above, taking, Upper}
use Rattle.bolt_bulk.specs.{declared.branch_run.BranchRun.BranchRun, declared.bucket_runs.BucketRuns.BucketRuns}
use Rattle.bolt_bulk.specs.{declared.waiting_bucket.WaitingBucket.WaitingBucket}
use Rattle.bolt_check.specs.Counts.{saturated}
use Rattle.bolt_layout.proofs.Exports.{length-elements}

-- ---- runs

-- what is held is what was held before, or what is in the runs now with what is held further in
on_max : {E : Type 0} (run : List (Laid E)) (inner : ℕ) → held_on run inner ≡ max (held_on run 0) (length run + inner)
on_max [] inner = omega arith
on_max (item ∷ run) inner = let ih = on_max run inner in omega arith

on_push : {E : Type 0} (run : List (Laid E)) (item : Laid E) (inner : ℕ) → held_on (run ++ item ∷ []) inner ≡ held_on run (max item.held (1 + inner))
on_push [] item inner = refl
on_push (first ∷ run) item inner = ap (λ (n : ℕ). max first.held (1 + n)) (on_push run item inner)

on_page : {E : Type 0} (run : List (Laid E)) → held_in run ≡ held_on run 0
on_page [] = refl
on_page (item ∷ run) = ap (λ (n : ℕ). max item.held (1 + n)) (on_page run)

over_max : (uppers : List Upper) (inner : ℕ) → held_over uppers inner ≡ max (held_over uppers 0) (length_over uppers + inner)
over_max [] inner = omega arith
over_max (upper ∷ uppers) inner = omega (arith, on_max, over_max uppers (held_on upper.run inner), over_max uppers (held_on upper.run 0))

open_max : (state : Open) (inner : ℕ) → held_open state inner ≡ max (held_open state 0) (length_open state + inner)
open_max state inner = omega (arith, over_max, on_max)

frames_max : (frames : List BucketFrame) (inner : ℕ) → held_frames frames inner ≡ max (held_frames frames 0) (length_frames frames + inner)
frames_max [] inner = omega arith
frames_max (frame ∷ frames) inner = omega (arith, open_max, frames_max frames (held_open frame.state inner), frames_max frames (held_open frame.state 0))

-- ---- pages that close

-- a page that closes holds its items no longer, and is one item of the run above, which is no more
joined : (run : List (Laid BranchElement)) (q : Laid BranchElement) → 1 ≤ q.held → held_on (run ++ q ∷ []) 0 ≡ held_on run q.held
joined run q some = on_push run q 0 ∙ ap (λ (n : ℕ). held_on run n) (let e : max q.held (1 + 0) ≡ q.held = omega arith in e)

climbed : (page_size : ℕ) (new : Option ℕ) (key : List ℕ) (q : Laid BranchElement) (uppers : List Upper) → 1 ≤ q.held
    → held_over (climb page_size new key q uppers) 0 ≡ held_over uppers q.held
climbed page_size new key q [] some = omega arith
climbed page_size new key q (upper ∷ uppers) some =
    let above = λ (up : Laid BranchElement) (high : 1 ≤ up.held). climbed page_size new key up uppers high in grind (arith, joined, on_page, on_max)

made : (page_size : ℕ) (state : Open) (key : List ℕ) (size : ℕ) → held_open (making_room page_size state key size) 0 ≡ held_open state 0
made page_size state key size = grind (arith, on_page, climbed)

-- and so does the end of a bucket
closed : (page_size : ℕ) (q : Laid BranchElement) (uppers : List Upper) → 1 ≤ q.held → (close page_size q uppers).held ≡ held_over uppers q.held
closed page_size q [] some = refl
closed page_size q (upper ∷ uppers) some =
    let above = λ (up : Laid BranchElement) (high : 1 ≤ up.held). closed page_size up uppers high in grind (arith, joined, on_page, on_max, above)

pub end_held : (page_size : ℕ) (state : Open) → (state.run ≡ [] → state.uppers ≡ []) → (end_of page_size state).held ≡ held_open state 0
end_held page_size state begun = grind (arith, on_page, closed)

-- ---- steps

-- an item joins
pushed : (frames : List BucketFrame) (state : Open) (item : Laid LeafElement)
    → held_so_far frames (pushing state item) ≡ max (held_frames frames (held_open state item.held)) (length_frames frames + length_open (pushing state item))
pushed frames state item = grind (arith, on_push, open_max, frames_max, length-append)

pub takes_held : (page_size : ℕ) (frames : List BucketFrame) (state : Open) (item : Laid LeafElement) (before after : ℕ) → item.held ≡ 0
    → before ≡ saturated (held_so_far frames state)
    → after ≡ max before (saturated (length_frames frames + length_open (taking page_size state item)))
    → after ≡ saturated (held_so_far frames (taking page_size state item))
takes_held page_size frames state item before after flat old counted =
    let room : Open = making_room page_size state item.key item.size in
    let same = made page_size state item.key item.size in
    let join = pushed frames room item in
    grind arith

-- a bucket that ended joins
pub leaves_held : (page_size : ℕ) (frame : BucketFrame) (frames : List BucketFrame) (state : Open) (before after : ℕ)
    → (state.run ≡ [] → state.uppers ≡ []) → before ≡ saturated (held_so_far (frame ∷ frames) state)
    → after ≡ max before (saturated (length_frames frames + length_open (pushing frame.state (held_item frame (end_of page_size state)))))
    → after ≡ saturated (held_so_far frames (pushing frame.state (held_item frame (end_of page_size state))))
leaves_held page_size frame frames state before after begun old counted = grind (arith, end_held, pushed)

-- a bucket is opened with items that have no pages below them, and the one around it waits with room for it
flat_run : {E : Type 0} (run : List (Laid E)) → held_in run ≤ length run → held_on run 0 ≡ length run
flat_run run flat = let e = on_page run in let m = on_max run 0 in omega arith

pub enters_held : (page_size : ℕ) (known : Known) (frame : BucketFrame) (frames : List BucketFrame) (state : Open) (key : List ℕ) (size : ℕ)
    (run : List (Laid LeafElement)) (before after : ℕ)
    → frame.state ≡ making_room page_size state key size
    → held_in run ≤ length run → before ≡ saturated (held_so_far frames state)
    → after ≡ max before (saturated (length_frames (frame ∷ frames) + length_open (record { uppers = []; run = run; known = known })))
    → after ≡ saturated (held_so_far (frame ∷ frames) (record { uppers = []; run = run; known = known }))
enters_held page_size known frame frames state key size run before after room flat old counted =
    let same = ap (λ (s : Open). held_open s 0) room ∙ made page_size state key size in
    grind (arith, flat_run, open_max, frames_max)

-- ---- what the code counts

pub run_length : (run : BranchRun) (pages : List (Laid BranchElement)) (n : ℕ) → (run_view run).elements ≡ elements_of pages n
    → length run.elements.items ≡ length pages
run_length run pages n same =
    omega (arith, length-map run.elements.items branch_view, ap (λ (es : List BranchElement). length es) same, length-elements pages n)

above_length : (runs : List BranchRun) (uppers : List Upper) (b : ℕ) → AreUppers (runs_above runs) uppers b → items_above runs ≡ length_over uppers
above_length (run ∷ runs) (upper ∷ uppers) b are = omega (arith, run_length, sum_by-cons, above_length runs uppers b are.1)
above_length runs uppers b are = grind arith

pub items_length : (bucket : BucketRuns) (next b : ℕ) (state : Open) → AreOpenRuns (bucket_runs bucket next) state b
    → items_in bucket ≡ length_open state
items_length bucket next b state runs = grind (arith, above_length, length-map, length-elements)

pub around_length : (ws : List WaitingBucket) (frames : List BucketFrame) → AreWaiting ws frames → items_around ws ≡ length_frames frames
around_length (w ∷ ws) (frame ∷ frames) waits =
    let (runs, key, sequence, others) = waits in
    let one = items_length w.bucket _ _ frame.state runs in
    let ih = around_length ws frames others in omega arith
around_length ws frames waits = grind arith

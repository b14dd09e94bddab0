-- What is open of a bucket: its leaf closes, and then runs above it.
use Rattle.std.proofs.{lemmas.Grind.common_steps, lemmas.Bool.leb-true, lemmas.Bool.ltb-true, lemmas.List.length-map}
use Rattle.std.proofs.{lemmas.Result.err_from_is_err_and, lemmas.Result.on_ok_weaker}
use Rattle.std.proofs.Common.{◌≡◌, ◌∙◌, ℕ, ◌+◌, ◌<◌, ◌≤◌, true, false, List, [], ◌∷◌, length, Result, Ok, Err, ap, arith}
use Rattle.bolt_lemmas.proofs.Exports.{few_or_fits}
use Rattle.bolt_format.specs.{Elements.BranchElement, Elements.LeafElement, declared.element.Leaf.Leaf, declared.sink.Sink.Ghosts}
use Rattle.bolt_layout.specs.Levels.{overflow_of}
use Rattle.bolt_bulk.specs.Private.{HoldsLeaves, bucket_end_next, BucketRunsView, HasRoomFor, held_views, IsLeafRun, leaf_closed, leaf_key, leaf_page}
use Rattle.bolt_bulk.specs.Private.{leaves_have_room, leaf_run_view, runs_close_put, runs_end_next, runs_end_put, runs_next, runs_push, runs_put}
use Rattle.bolt_bulk.specs.Private.{runs_room, runs_room_put, Closes, Writes, element_size, MakesRoom, Pushes, TakesItem}
use Rattle.bolt_bulk.specs.{declared.bucket_runs.BucketRuns.BucketRuns, declared.bulk_fault.BulkFault.BulkFault, declared.held.Held.Held}
use Rattle.bolt_bulk.specs.{declared.leaf_run.LeafRun.LeafRun}
use Rattle.bolt_bulk.specs.{declared.page_setup.PageSetup.PageSetup, declared.page_writer.PageWriter.PageWriter}
use Rattle.bolt_bulk.proofs.{ClimbLemmas.next_grows, ClimbLemmas.end_grows, HeldRuns.none_small}
use Rattle.bolt_bulk.proofs.PutsLemmas.{closes_stop, writes_on, writes_stop, bytes-append, short_then}
use Rattle.bolt_bulk.specs.declared.bulk_fault.BulkFault.TheVariants as fault
use Rattle.std.specs.Prelude.{IfErr, IsErrAnd, OnOk}

-- if a run has room on its page, an item can be added
pub room_fits : (page_size size : ℕ) (run : LeafRun) → page_size ≤ 33554432 → IsLeafRun run → size < 4294967280
    → leaves_have_room page_size (leaf_run_view run) size ≡ true → HasRoomFor run size
room_fits page_size size run high is small room = grind (arith, length-map, few_or_fits, ltb-true, none_small, leb-true)

first_short : (inlined : List Leaf) (items : List Held) → HoldsLeaves inlined items → length (leaf_key (held_views inlined items)) ≤ 1073741824
first_short inlined [] all = omega arith
first_short inlined (x ∷ items) all = all.0.0

-- the key of a leaf's element is one of its items' keys
pub closed_short : (inlined : List Leaf) (items : List Held) (size next : ℕ) (closed : BranchElement) → HoldsLeaves inlined items
    → closed ≡ leaf_closed (record { elements = held_views inlined items; size = size }) next → length closed.key ≤ 1073741824
closed_short inlined items size next closed all same = omega (arith, ap (λ (e : BranchElement). length e.key) same, first_short inlined items all)

module _ {S B : Type 0} {sink : Ghosts S} {old new : S} {setup : PageSetup} (runs : BucketRunsView) {result : Result B BulkFault} where
  -- a leaf that has no room for the next item closes, and then its element climbs
  pub room_stops : {A : Type 0} {after : ℕ} {e : BulkFault} (key : List ℕ) (size : ℕ) → leaves_have_room setup.page_size runs.leaves size ≡ false
      → IsErrAnd result (λ f. f ≡ e)
      → Closes {A = A} sink old new setup (leaf_page setup.page_size runs.leaves runs.next ∷ [])
      (runs.next + (1 + overflow_of setup.page_size runs.leaves.size)) after (Err e)
      → Writes sink old new setup (runs_room_put setup.page_size runs key size) (runs_room setup.page_size runs key size).next result
  room_stops key size none same one = rw none (writes_stop _ same (next_grows setup.page_size key (leaf_closed runs.leaves runs.next) _ runs.uppers) one.writes)

  pub room_made : {A : Type 0} {later : PageSetup} {after : ℕ} {mid : S} {x : A} (key : List ℕ) (size : ℕ) (closed : BranchElement)
      → leaves_have_room setup.page_size runs.leaves size ≡ false → closed ≡ leaf_closed runs.leaves runs.next → later ≡ setup
      → Closes {A = A} sink old mid setup (leaf_page setup.page_size runs.leaves runs.next ∷ [])
      (runs.next + (1 + overflow_of setup.page_size runs.leaves.size)) after (Ok x)
      → Writes sink mid new later (runs_put later.page_size key closed after runs.uppers) (runs_next later.page_size key closed after runs.uppers) result
      → Writes sink old new setup (runs_room_put setup.page_size runs key size) (runs_room setup.page_size runs key size).next result
  room_made key size closed none same later_is one two = grind (arith, common_steps, bytes-append)

  -- the end: the leaf closes, and then each run above
  pub end_stops : {A : Type 0} {after next : ℕ} {e : BulkFault} → IsErrAnd result (λ f. f ≡ e)
      → Closes {A = A} sink old new setup (leaf_page setup.page_size runs.leaves runs.next ∷ [])
      (runs.next + (1 + overflow_of setup.page_size runs.leaves.size)) after (Err e)
      → Closes sink old new setup (runs_end_put setup.page_size runs) (bucket_end_next setup.page_size runs) next result
  end_stops same one = closes_stop _ same (end_grows setup.page_size (leaf_closed runs.leaves runs.next) _ runs.uppers) one

  pub end_made : {A : Type 0} {later : PageSetup} {after next : ℕ} {mid : S} {x : A} (closed : BranchElement)
      → closed ≡ leaf_closed runs.leaves runs.next → later ≡ setup
      → Closes {A = A} sink old mid setup (leaf_page setup.page_size runs.leaves runs.next ∷ [])
      (runs.next + (1 + overflow_of setup.page_size runs.leaves.size)) after (Ok x)
      → Closes sink mid new later (runs_close_put later.page_size closed after runs.uppers) (runs_end_next later.page_size closed after runs.uppers) next result
      → Closes sink old new setup (runs_end_put setup.page_size runs) (bucket_end_next setup.page_size runs) next result
  end_made closed same later_is one two = grind (arith, common_steps, bytes-append, short_then)

-- an item was taken
module _ {S A B : Type 0} {sink : Ghosts S} {old new : PageWriter S} {before made after : BucketRuns} {size : ℕ} (e : LeafElement)
    (result : Result B BulkFault) (sized : size ≡ element_size e) where
  pub takes_item : {x : A} → MakesRoom sink old new {A = A} before e.key size made (Ok x) → IfErr result (λ f. f ≡ fault.Memory)
      → OnOk result (Pushes made after e size)
      → TakesItem sink old new before e after result
  takes_item room memory pushes =
      let here = rw sized at room in
      record {
        writes = writes_on result memory here.writes;
        runs =
            on_ok_weaker result (λ more. more new.next new.next ∙ ap (λ (made : BucketRunsView). runs_push made e (element_size e) made.next) here.runs)
            (rw sized at pushes);
      }

  -- there was no room
  pub takes_none : {f : BulkFault} → IsErrAnd result (λ g. g ≡ f) → MakesRoom sink old new {A = A} before e.key size made (Err f)
      → TakesItem sink old new before e after result
  takes_none same room = grind (arith, err_from_is_err_and)

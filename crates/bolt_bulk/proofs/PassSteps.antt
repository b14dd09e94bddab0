-- A forward pass over a tree, with a frame for each waiting bucket: in the end they become the root page, and the pages that were written are
-- those of the layout. Its steps, over the open runs and what the code keeps of them.
use Rattle.std.proofs.{lemmas.Grind.common_steps, lemmas.List.append-nil, lemmas.List.length-append, lemmas.Bool.le-leb, lemmas.Bool.lt-ltb}
use Rattle.std.proofs.{lemmas.List.Sums.sum_by_push}
use Rattle.std.proofs.Common.{◌≡◌, ℕ, ◌+◌, List, [], ◌∷◌, ◌++◌, length, refl, append_assoc, arith, subst, ◌∙◌, ◌/◌, ◌≤◌, ◌<◌, Bool, true, false, sym}
use Rattle.std.proofs.Common.{ap}
use Rattle.bolt_format.specs.Elements.{BranchElement, LeafElement}
use Rattle.bolt_tree.specs.Tree.{Tree, end}
use Rattle.bolt_layout.specs.{Items.bucket_item, Items.items_of, Items.root_of, Items.leaf_item, Items.stored_bucket, Laid.Laid, Laid.Placed}
use Rattle.bolt_layout.specs.{Laid.size_of, Levels.root_over, Limits.HaveRightLimits}
use Rattle.bolt_layout.specs.{Layout.first_page, Layout.layout_pages, Layout.layout_high_water, declared.Layout.Layout, Cut.run_size}
use Rattle.bolt_layout.specs.{PageBytes.inline_value, PageBytes.leaf_data}
use Rattle.bolt_bulk.specs.Private.{all_put, base_in, bucket_limit, end_of, end_puts, BucketFrame, held_item, BecomesRoot, IsPass, Known}
use Rattle.bolt_bulk.specs.Private.{leaves_coming, making_room, nothing_open, Open, pushing, room_puts, taking, AreOpenRuns, bucket_end_next}
use Rattle.bolt_bulk.specs.Private.{BucketRunsView, entries_size, frames_put, HasRoot, PassIsOn, onto, root_element, runs_end, runs_end_put}
use Rattle.bolt_bulk.specs.Private.{runs_push, runs_room, runs_room_put, runs_taking, StandsBefore}
use Rattle.bolt_bulk.proofs.OpenRunLemmas.{ends, opens, pushed_put, takes, climb_put, close_put}
use Rattle.bolt_bulk.proofs.Ontos.{IsValue, ends_inline, onto_items, value_items, values_elements, values_keyed, values_numbers, values_pages}
use Rattle.bolt_bulk.proofs.Ontos.{values_size}
use Rattle.bolt_bulk.proofs.{KeptRuns.runs_ended, KeptRuns.runs_have_room, KeptRuns.runs_pushed, PutBefore.pass_before}
use Rattle.std.specs.List.{AllByRecursion}

-- a run with an item isn't empty
no_push : (run : List (Laid LeafElement)) (item : Laid LeafElement) → run ++ item ∷ [] ≡ [] → ⊥
no_push run item e = grind (arith, common_steps)

-- The beginning: nothing is open, and nothing was written.
pub pass_begins : (which : Layout) (page_size : ℕ) (known : Known) (tree : Tree)
    → known.leaves ≡ leaves_coming page_size [] (items_of which page_size tree)
    → HaveRightLimits which page_size (bucket_limit known.limits) (leaves_coming page_size [] (items_of which page_size tree))
    → IsPass which page_size [] (nothing_open known) (items_of which page_size tree) (root_of which page_size tree)
unfolding root_of
pass_begins which page_size known tree leaves right = grind (arith, opens which page_size known (items_of which page_size tree) leaves right)

-- An item with no pages below it: room is made, and it is taken.
pub pass_takes : (which : Layout) (page_size : ℕ) (frames : List BucketFrame) (state : Open) (item : Laid LeafElement)
    (items : List (Laid LeafElement)) (whole : Laid BranchElement)
    → IsPass which page_size frames state (item ∷ items) whole → IsPass which page_size frames (taking page_size state item) items whole
pass_takes which page_size frames state item items whole pass = grind (arith, takes, no_push)

pub put_takes : (page_size : ℕ) (frames : List BucketFrame) (state : Open) (item : Laid LeafElement) → ((n : ℕ) → item.pages n ≡ [])
    → all_put frames (taking page_size state item) ≡ all_put frames state ++ room_puts page_size state item.key item.size (base_in frames)
put_takes page_size frames state item none = grind (arith, pushed_put, append-nil, append_assoc, climb_put)

-- A bucket with a root page: room is made, and a bucket within begins.
abbrev pub waiting : ℕ → Open → List ℕ → ℕ → Tree → BucketFrame
waiting page_size state key sequence after = record { state = making_room page_size state key (32 + length key); key = key; sequence = sequence; after = after }

pub pass_enters : (which : Layout) (page_size : ℕ) (known : Known) (frames : List BucketFrame) (state : Open) (key : List ℕ) (sequence : ℕ)
    (inner : List (Laid LeafElement)) (after : Tree) (whole : Laid BranchElement)
    → known.leaves ≡ leaves_coming page_size [] inner → HaveRightLimits which page_size (bucket_limit known.limits) (leaves_coming page_size [] inner)
    → IsPass which page_size frames state (bucket_item key sequence (root_over which page_size inner) ∷ items_of which page_size after) whole
    → IsPass which page_size (waiting page_size state key sequence after ∷ frames) (nothing_open known) inner whole
pass_enters which page_size known frames state key sequence inner after whole leaves right pass =
    let item : Laid LeafElement = bucket_item key sequence (root_over which page_size inner) in
    let size : item.size ≡ 32 + length key = omega arith in
    record {
      root = root_over which page_size inner;
      current = opens which page_size known inner leaves right;
      begun = λ none. refl;
      stack = (
        pass.root,
        subst (λ (n : ℕ). BecomesRoot which page_size (pushing (making_room page_size state key n) item) (items_of which page_size after) pass.root) size
            (takes which page_size state item (items_of which page_size after) pass.root pass.current),
        pass.stack,
      );
    }

pub put_enters : (page_size : ℕ) (known : Known) (frames : List BucketFrame) (state : Open) (key : List ℕ) (sequence : ℕ) (after : Tree)
    → all_put (waiting page_size state key sequence after ∷ frames) (nothing_open known)
    ≡ all_put frames state ++ room_puts page_size state key (32 + length key) (base_in frames)
put_enters page_size known frames state key sequence after = grind (arith, append-nil, append_assoc, climb_put)

-- The end of a bucket within: its runs close, and the bucket that waits takes its item.
pub pass_leaves : (which : Layout) (page_size : ℕ) (frame : BucketFrame) (frames : List BucketFrame) (state : Open) (whole : Laid BranchElement)
    → IsPass which page_size (frame ∷ frames) state [] whole
    → IsPass which page_size frames (pushing frame.state (held_item frame (end_of page_size state))) (items_of which page_size frame.after) whole
pass_leaves which page_size frame frames state whole pass = grind (arith, ends, no_push)

pub put_leaves : (page_size : ℕ) (frame : BucketFrame) (frames : List BucketFrame) (state : Open)
    → all_put frames (pushing frame.state (held_item frame (end_of page_size state)))
    ≡ all_put (frame ∷ frames) state ++ end_puts page_size state (base_in (frame ∷ frames))
put_leaves page_size frame frames state = grind (arith, pushed_put, append_assoc, close_put)

-- The end: what was written and what the last runs write are the pages of the layout.
pub pass_ends : (which : Layout) (page_size : ℕ) (tree : Tree) (state : Open) → IsPass which page_size [] state [] (root_of which page_size tree)
    → all_put [] state ++ end_puts page_size state first_page ≡ layout_pages which page_size tree
pass_ends which page_size tree state pass = grind (arith, ends, close_put, append_assoc)

module _ {which : Layout} {page_size : ℕ} {tree : Tree} where
  -- what was written comes before the root page, and its numbers are below the high-water mark
  pub on_before : {frames : List BucketFrame} {state : Open} {items : List (Laid LeafElement)} {runs : BucketRunsView} {put : List Placed}
      → PassIsOn which page_size tree frames state items runs put → StandsBefore put (layout_pages which page_size tree)
  on_before {frames} {state} {items} on = grind (arith, pass_before which page_size frames state items (root_of which page_size tree) on.under)

  pub on_numbers : {frames : List BucketFrame} {state : Open} {items : List (Laid LeafElement)} {runs : BucketRunsView} {put : List Placed}
      → PassIsOn which page_size tree frames state items runs put → runs.next ≤ layout_high_water which page_size tree
  on_numbers {frames} {state} {items} on =
      omega (arith, (pass_before which page_size frames state items (root_of which page_size tree) on.under).fewer, on.kept.next_is)

  -- an item without pages below it is taken
  pub on_takes : (frames : List BucketFrame) (state : Open) (key value : List ℕ) (flag : Bool) (items : List (Laid LeafElement))
      (runs : BucketRunsView) (put : List Placed)
      → PassIsOn which page_size tree frames state (leaf_item key value flag ∷ items) runs put
      → PassIsOn which page_size tree frames (taking page_size state (leaf_item key value flag)) items
      (runs_taking page_size runs (record { key = key; value = value; is_bucket = flag }) (16 + (length key + length value)))
      (put ++ runs_room_put page_size runs key (16 + (length key + length value)))
  on_takes frames state key value flag items runs put on =
      let item : Laid LeafElement = leaf_item key value flag in
      let made = runs_have_room page_size runs state (base_in frames) key item.size on.kept in
      record {
        under = pass_takes which page_size frames state item items (root_of which page_size tree) on.under;
        kept = runs_pushed _ (making_room page_size state key item.size) (base_in frames) item _ _ _ made.0 (λ n. refl) refl refl (omega arith);
        put_is = (let written = put_takes page_size frames state item (λ n. refl) in let before = on.put_is in cc);
      }

  -- a bucket with a root page is entered
  pub on_enters : (known : Known) (frames : List BucketFrame) (state : Open) (key : List ℕ) (sequence : ℕ) (inner : List (Laid LeafElement))
      (after : Tree) (runs : BucketRunsView) (put : List Placed)
      → known.leaves ≡ leaves_coming page_size [] inner → HaveRightLimits which page_size (bucket_limit known.limits) (leaves_coming page_size [] inner)
      → PassIsOn which page_size tree frames state (bucket_item key sequence (root_over which page_size inner) ∷ items_of which page_size after) runs put
      → IsPass which page_size (waiting page_size state key sequence after ∷ frames) (nothing_open known) inner (root_of which page_size tree)
      × AreOpenRuns (runs_room page_size runs key (32 + length key)) (making_room page_size state key (32 + length key)) (base_in frames)
      × (put ++ runs_room_put page_size runs key (32 + length key) ≡ all_put (waiting page_size state key sequence after ∷ frames) (nothing_open known))
  on_enters known frames state key sequence inner after runs put leaves right on =
      let made = runs_have_room page_size runs state (base_in frames) key (32 + length key) on.kept in (
        pass_enters which page_size known frames state key sequence inner after (root_of which page_size tree) leaves right on.under,
        made.0,
        (let written = put_enters page_size known frames state key sequence after in let before = on.put_is in cc),
      )

  -- it ends, and the bucket around it goes on
  pub on_leaves : (frame : BucketFrame) (frames : List BucketFrame) (state : Open) (inner outer : BucketRunsView) (put : List Placed) (key : List ℕ)
      (sequence : ℕ)
      → PassIsOn which page_size tree (frame ∷ frames) state [] inner put
      → AreOpenRuns outer frame.state (base_in frames) → outer.next ≡ base_in (frame ∷ frames) → key ≡ frame.key → sequence ≡ frame.sequence
      → PassIsOn which page_size tree frames (pushing frame.state (held_item frame (end_of page_size state))) (items_of which page_size frame.after)
      (runs_push outer (root_element key (runs_end page_size inner) sequence) (32 + length key) (bucket_end_next page_size inner))
      (put ++ runs_end_put page_size inner)
  on_leaves frame frames state inner outer put key sequence on waits base named numbered =
      let root : Laid BranchElement = end_of page_size state in
      let ended = runs_ended page_size inner state (base_in (frame ∷ frames)) on.kept in
      let child : runs_end page_size inner ≡ (root.element outer.next).child = ended.1 ∙ ap (λ (n : ℕ). (root.element n).child) (sym base) in
      let long = ap (λ (k : List ℕ). length k) named in
      let last = ended.2 in
      record {
        under = pass_leaves which page_size frame frames state (root_of which page_size tree) on.under;
        kept = runs_pushed outer frame.state (base_in frames) (held_item frame root) _ _ _ waits (λ n. refl) (cc) (omega arith) (omega arith);
        put_is = (let written = put_leaves page_size frame frames state in let before = on.put_is in cc);
      }

-- Values are taken as long as their page has room.
abbrev pub open_values : Known → List (Laid LeafElement) → Open
open_values known run = record { uppers = []; run = run; known = known }

room_left : (page_size : ℕ) (known : Known) (run : List (Laid LeafElement)) (item : Laid LeafElement) → run_size size_of run + item.size ≤ page_size
    → length run < 65534
    → taking page_size (open_values known run) item ≡ open_values known (run ++ item ∷ [])
room_left page_size known run item fits few = grind (arith, le-leb, lt-ltb)

pub pass_takes_all : (which : Layout) (page_size : ℕ) (known : Known) (frames : List BucketFrame) (run : List (Laid LeafElement))
    (entries : List LeafElement) (items : List (Laid LeafElement)) (whole : Laid BranchElement)
    → run_size size_of run + entries_size entries ≤ page_size + 16 → length run + length entries ≤ 65534
    → IsPass which page_size frames (open_values known run) (value_items entries ++ items) whole
    → IsPass which page_size frames (open_values known (run ++ value_items entries)) items whole
pass_takes_all which page_size known frames run [] items whole fits few pass =
    subst (λ (r : List (Laid LeafElement)). IsPass which page_size frames (open_values known r) items whole) (sym (append-nil run)) pass
pass_takes_all which page_size known frames run (e ∷ entries) items whole fits few pass =
    let item : Laid LeafElement = leaf_item e.key e.value false in
    let a = length-append e.key (e.value ++ leaf_data entries) in
    let b = length-append e.value (leaf_data entries) in
    let c = sum_by_push (size_of {E = LeafElement}) run item in
    let l = length-append run (item ∷ []) in
    let one = pass_takes which page_size frames (open_values known run) item (value_items entries ++ items) whole pass in
    let next =
    subst (λ (s : Open). IsPass which page_size frames s (value_items entries ++ items) whole)
    (room_left page_size known run item (omega arith) (omega arith)) one in
    let all = pass_takes_all which page_size known frames (run ++ item ∷ []) entries items whole (omega arith) (omega arith) next in
    subst (λ (r : List (Laid LeafElement)). IsPass which page_size frames (open_values known r) items whole)
    (append_assoc run (item ∷ []) (value_items entries)) all

-- they write nothing
pub values_put : (known : Known) (frames : List BucketFrame) (entries : List LeafElement)
    → all_put frames (nothing_open known) ≡ all_put frames (open_values known (value_items entries))
values_put known frames entries = ap (λ (ps : List Placed). frames_put frames ++ ps) (sym (values_pages entries (base_in frames + 0)))

-- and are in the first run
pub values_runs : (known : Known) (entries : List LeafElement) (size base next : ℕ) → AllByRecursion IsValue entries → size ≡ entries_size entries
    → next ≡ base
    → AreOpenRuns (record { leaves = record { elements = entries; size = size }; uppers = []; limits = known.limits; next = next })
    (open_values known (value_items entries)) base
values_runs known entries size base next values sized at = grind (arith, values_numbers, values_elements, values_size, values_keyed)

-- The item of an inline bucket.
pub inline_item : (which : Layout) (page_size : ℕ) (key : List ℕ) (sequence : ℕ) (entries : List LeafElement) → AllByRecursion IsValue entries
    → entries_size entries ≤ page_size / 4 → length entries ≤ 65534
    → stored_bucket which page_size key sequence (onto entries end) (items_of which page_size (onto entries end))
    ≡ leaf_item key (inline_value sequence entries) true
inline_item which page_size key sequence entries values small few = grind (arith, ends_inline, value_items, onto_items, append-nil, values_elements)

-- The item of a bucket with a root page.
pub root_item : (which : Layout) (page_size : ℕ) (key : List ℕ) (sequence : ℕ) (inside : Tree) → HasRoot which page_size inside
    → stored_bucket which page_size key sequence inside (items_of which page_size inside)
    ≡ bucket_item key sequence (root_over which page_size (items_of which page_size inside))
root_item which page_size key sequence inside not_inline = rw not_inline refl

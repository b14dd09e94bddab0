-- The steps of a pass, over what the code keeps of it.
use Rattle.std.proofs.{lemmas.Result.IfErr-weaker, lemmas.Result.on_ok_weaker, lemmas.List.append-nil, lemmas.List.length-map}
use Rattle.std.proofs.{lemmas.List.reverse-append}
use Rattle.std.proofs.Common.{Bool, ◌≡◌, ◌∙◌, ℕ, suc, ◌+◌, ◌<◌, true, false, List, [], ◌∷◌, ◌++◌, length, map, max, min, reverse, Option, Some, None}
use Rattle.std.proofs.Common.{Result, Ok, Err, Vec, Global, refl, sym, ap, subst, arith, append_assoc}
use Rattle.std.specs.Prelude.{⊤, IfErr, IsErrAnd, OnOk}
use Rattle.std.specs.List.{AllByRecursion}
use Rattle.bolt_lemmas.proofs.Exports.{on_ok_both}
use Rattle.bolt_format.specs.{ElementPlaces.leaf_view, Elements.LeafElement, declared.element.Leaf.Leaf, Wrote.Wrote, declared.sink.Sink.Ghosts}
use Rattle.bolt_tree.specs.Tree.{Tree, end, with_bucket, with_value}
use Rattle.bolt_layout.specs.{Items.items_of, Items.leaf_item, Items.root_of, Laid.Laid, Laid.Placed, Layout.placed_bytes, PageBytes.inline_value}
use Rattle.bolt_layout.specs.{Limits.HaveRightLimits}
use Rattle.bolt_layout.specs.Openings.{leaf_pages, opened_by}
use Rattle.bolt_bulk.specs.Private.{AreOpenRuns, AreWaiting, base_in, bucket_end_next, bucket_limit, bucket_runs, BucketEnds, BucketRunsView, Counts}
use Rattle.bolt_bulk.specs.Private.{end_of, BucketFrame, HasNoted, HasRoot, held_item, held_so_far, PassIsAt, PassIsOn, IsPass, IsPending}
use Rattle.bolt_bulk.specs.Private.{IsPendingSmall, IsToCome, items_around, items_in, Known, length_frames, length_open, Parent, parent_of, limit_in}
use Rattle.bolt_bulk.specs.Private.{limits_by, making_room, Notes, onto, Open, open_in, pushing, root_element, runs_end, runs_end_put, runs_push}
use Rattle.bolt_bulk.specs.Private.{runs_room, runs_room_put, pending_element, element_size, root_size, runs_taking, Writes, Steps, taking}
use Rattle.bolt_bulk.specs.Private.{value_element, Wanted}
use Rattle.bolt_bulk.specs.{BulkEndings.bulk_ending, declared.page_setup.PageSetup.PageSetup, declared.bulk_fault.BulkFault.BulkFault}
use Rattle.bolt_bulk.specs.{declared.bucket_runs.BucketRuns.BucketRuns}
use Rattle.bolt_bulk.specs.{declared.pass.Pass.Pass, declared.pending_bucket.PendingBucket.PendingBucket}
use Rattle.bolt_bulk.specs.{declared.waiting_bucket.WaitingBucket.WaitingBucket}
use Rattle.bolt_bulk.specs.declared.noted_limits.NotedLimits.{NotedLimits}
use Rattle.bolt_check.specs.Counts.{saturated}
use Rattle.bolt_bulk.specs.declared.bulk_fault.BulkFault.TheVariants as fault
use Rattle.bolt_bulk.proofs.{HeldPasses.around_reverse, HeldSteps.around_length, HeldSteps.enters_held, HeldSteps.items_length, HeldSteps.leaves_held}
use Rattle.bolt_bulk.proofs.{HeldSteps.takes_held}
use Rattle.bolt_bulk.proofs.{Ontos.IsValue, Ontos.ends_inline, Ontos.onto_items, Ontos.value_items, Ontos.values_held, Tables.noted_enters}
use Rattle.bolt_bulk.proofs.{Tables.noted_leaves}
use Rattle.bolt_bulk.proofs.{Openings.around_at, Openings.coming_at, Openings.coming_onto, Openings.opened_inline, Openings.opened_onto}
use Rattle.bolt_bulk.proofs.{Openings.opened_rooted, PassReady.small_of}
use Rattle.bolt_bulk.proofs.PassSteps.{inline_item, on_before, on_enters, on_leaves, on_numbers, on_takes, open_values, pass_takes_all, root_item}
use Rattle.bolt_bulk.proofs.PassSteps.{values_put, values_runs, waiting}
use Rattle.bolt_bulk.proofs.PutsLemmas.{bytes-append, Wrote-gave_up}
use Rattle.bolt_format.proofs.Exports.{Wrote-halt, Wrote-none}

-- ---- one step after another

module _ {S : Type 0} {wanted : Wanted} {sink : Ghosts S} {setup : PageSetup} {old new : S} {put : List Placed} where
  pub steps_then : {A B : Type 0} {later : PageSetup} {mid : S} {Mid At : List Placed → Type 0} {x : A} {result : Result B BulkFault}
      → later ≡ setup → Steps wanted sink old mid setup put Mid (Ok x) → ((all : List Placed) → Mid all → Steps wanted sink mid new later all At result)
      → Steps wanted sink old new setup put At result
  steps_then later_is one two = grind (arith, append_assoc, bytes-append)

  -- a fault is returned on
  pub steps_stop : {A B : Type 0} {Mid At : List Placed → Type 0} {e : BulkFault} {result : Result B BulkFault} → IsErrAnd result (λ f. f ≡ e)
      → Steps {A = A} wanted sink old new setup put Mid (Err e) → Steps wanted sink old new setup put At result
  steps_stop same one = grind arith

  -- memory ran out after steps that went well
  pub steps_failed : {A B : Type 0} {At : List Placed → Type 0} {x : A} → Steps wanted sink old new setup put At (Ok x)
      → Steps {A = B} wanted sink old new setup put At (Err fault.Memory)
  steps_failed one = record { more = one.more; puts = Wrote-gave_up one.puts; at = tt; before = one.before; large = λ e. absurd cc }

  -- what a step leaves, in other words
  pub steps_map : {A : Type 0} {At Then : List Placed → Type 0} {result : Result A BulkFault} → ((all : List Placed) → At all → Then all)
      → Steps wanted sink old new setup put At result → Steps wanted sink old new setup put Then result
  steps_map f steps = grind (arith, on_ok_weaker)

  -- a step in the layout
  steps_on : {A : Type 0} {At : List Placed → Type 0} {result : Result A BulkFault} {frames : List BucketFrame} {state : Open}
      {items : List (Laid LeafElement)} {runs : BucketRunsView} (more : List Placed)
      → PassIsOn wanted.which setup.page_size wanted.tree frames state items runs (put ++ more)
      → Wrote sink old new (placed_bytes setup.page_size more) (bulk_ending result)
      → IfErr result (λ e. e ≡ fault.TooLarge → setup.greatest_high_water < runs.next) → OnOk result (At (put ++ more))
      → Steps wanted sink old new setup put At result
  steps_on {result} more on puts large at = record {
    more = more;
    puts = puts;
    at = at;
    before = on_before on;
    large = IfErr-weaker result _ _ (λ e l h. let m = l h in omega (arith, m, on_numbers on)) large;
  }

-- ---- what is in a pass

come_at : (wanted : Wanted) (page_size : ℕ) (limits : ℕ → ℕ → Option ℕ) (m n : ℕ) (rest left : Tree) (frames : List BucketFrame) → m ≡ n → rest ≡ left
    → IsToCome wanted page_size limits m rest frames → IsToCome wanted page_size limits n left frames
come_at wanted page_size limits m n rest left frames same is come = grind arith

-- with nothing that may be inline
pub on_of : {wanted : Wanted} {pass : Pass} {next : ℕ} {parents : List Parent} {left : Tree} {put : List Placed}
    (is : PassIsAt wanted pass next parents left put)
    → pass.pending ≡ None
    → (parents ≡ map parent_of is.frames)
    × PassIsOn wanted.which pass.setup.page_size wanted.tree is.frames is.state (items_of wanted.which pass.setup.page_size left)
    (bucket_runs pass.bucket next) put
    × IsToCome wanted pass.setup.page_size (limits_by pass) is.opened left is.frames
on_of is none = grind (arith, come_at)

-- with a bucket that may be inline
abbrev pub HasPending : (wanted : Wanted) (pass : Pass) (next : ℕ) (parents : List Parent) (left : Tree) (put : List Placed)
    (is : PassIsAt wanted pass next parents left put) → PendingBucket → Type 0
HasPending wanted pass next parents left put is p = (after : Tree)
    × (parents ≡ record { key = p.key.now; after = after } ∷ map parent_of is.frames)
    × PassIsOn wanted.which pass.setup.page_size wanted.tree is.frames is.state
    (items_of wanted.which pass.setup.page_size (with_bucket p.key.now p.sequence (onto (map leaf_view pass.entries.items) left) after))
    (bucket_runs pass.bucket next) put
    × IsToCome wanted pass.setup.page_size (limits_by pass) is.opened
    (with_bucket p.key.now p.sequence (onto (map leaf_view pass.entries.items) left) after) is.frames

pending_of : (wanted : Wanted) (pass : Pass) (next : ℕ) (parents : List Parent) (left : Tree) (put : List Placed) (p : PendingBucket)
    (is : PassIsAt wanted pass next parents left put)
    → pass.pending ≡ Some p → HasPending wanted pass next parents left put is p
pending_of wanted pass next parents left put p is some = grind (arith, come_at)

-- a step that writes nothing
pub steps_none : {S A : Type 0} {sink : Ghosts S} {wanted : Wanted} {pass : Pass} {next : ℕ} {parents : List Parent} {left : Tree} {put : List Placed}
    {old : S} {At : List Placed → Type 0} (result : Result A BulkFault)
    → PassIsAt wanted pass next parents left put → IfErr result (λ e. e ≡ fault.Memory) → OnOk result (At put)
    → Steps wanted sink old old pass.setup put At result
steps_none {old} (Ok x) is memory at = record { more = []; puts = Wrote-none old; at = rw append-nil at; before = rw append-nil (on_before is.on); large = tt }
steps_none {old} (Err e) is memory at = record {
  more = [];
  puts = rw memory (Wrote-halt old []);
  at = tt;
  before = rw append-nil (on_before is.on);
  large = λ s. absurd (let other : fault.Memory ≡ fault.TooLarge = sym memory ∙ s in cc);
}

-- the innermost parent is that of the first frame
first_frame : (parent : Parent) (parents : List Parent) (frames : List BucketFrame) → parent ∷ parents ≡ map parent_of frames
    → (frame : BucketFrame) × (others : List BucketFrame) × (frames ≡ frame ∷ others) × ((parents ≡ map parent_of others) × (frame.after ≡ parent.after))
first_frame parent parents [] e = absurd cc
first_frame parent parents (frame ∷ frames) e =
    let first : parent ≡ parent_of frame = cc in
    let others : parents ≡ map parent_of frames = cc in
    (frame, frames, refl, (others, ap (λ (l : Parent). l.after) (sym first)))

-- entries that the code keeps as values are shown as such
shown_values : (entries : List Leaf) → AllByRecursion (λ (entry : Leaf). entry.is_bucket ≡ false) entries
    → AllByRecursion IsValue (map leaf_view entries)
shown_values [] all = tt
shown_values (e ∷ entries) all = (all.0, shown_values entries all.1)

-- what the code counts is what is in the open runs
counted_items : (frames : List BucketFrame) (state : Open) (waits : List WaitingBucket) (bucket : BucketRuns) (next : ℕ)
    → AreWaiting (reverse waits) frames → AreOpenRuns (bucket_runs bucket next) state (base_in frames)
    → items_around waits + items_in bucket ≡ length_frames frames + length_open state
counted_items frames state waits bucket next are runs = omega (arith, around_length, around_reverse, items_length)

-- a pass after it has counted
at_counted : {wanted : Wanted} {pass counted : Pass} {next : ℕ} {parents : List Parent} {rest left : Tree} {put : List Placed}
    {frames : List BucketFrame} {state : Open} {opened : ℕ}
    → Counts pass counted
    → PassIsOn wanted.which pass.setup.page_size wanted.tree frames state (items_of wanted.which pass.setup.page_size rest)
    (bucket_runs pass.bucket next) put → AreWaiting (reverse pass.waiting.items) frames
    → IsPending pass.pending pass.entries.items (map parent_of frames) rest parents left
    → (counted.most ≡ max pass.most (saturated (length_frames frames + length_open state)) → counted.most ≡ saturated (held_so_far frames state))
    → pass.opened ≡ saturated opened → IsToCome wanted pass.setup.page_size (limits_by pass) opened rest frames
    → HasNoted wanted pass.setup.page_size pass.noted opened (open_in state frames) → PassIsAt wanted counted next parents left put
at_counted {wanted} {pass} {counted} {next} {parents} {rest} {left} {put} {frames} {state} {opened} k on waits pends held opened_is coming noted =
    grind (arith, counted_items)

-- the number of the next page is `from` before the step
module _ (wanted : Wanted) (pass : Pass) (from : ℕ) where
  abbrev P : ℕ
  P = pass.setup.page_size

  abbrev runs_now : BucketRunsView
  runs_now = bucket_runs pass.bucket from

  -- ---- the open bucket takes an item with no pages below it
  abbrev pub TakesAt : {S A : Type 0} → Ghosts S → (old new : S) → LeafElement → BucketRuns → (next : ℕ) → Result A BulkFault → Type 0
  TakesAt sink old new e bucket next result =
      Writes sink old new pass.setup (runs_room_put P runs_now e.key (element_size e)) (runs_room P runs_now e.key (element_size e)).next result
      × OnOk result (bucket_runs bucket next ≡ runs_taking P runs_now e (element_size e))

  item_steps : {S A : Type 0} {sink : Ghosts S} {put : List Placed} {within parents : List Parent} {left after : Tree} {old new : S} {counted : Pass}
      (key value : List ℕ) (flag : Bool) (rest : Tree) (pending : Option PendingBucket) (bucket : BucketRuns)
      (entries : Vec Leaf Global) (next : ℕ) (result : Result A BulkFault) (is : PassIsAt wanted pass from within left put)
      → PassIsOn wanted.which P wanted.tree is.frames is.state (leaf_item key value flag ∷ items_of wanted.which P rest) runs_now put
      → IsToCome wanted P (limits_by pass) is.opened rest is.frames
      → IsPending pending entries.items (map parent_of is.frames) rest parents after
      → TakesAt sink old new (record { key = key; value = value; is_bucket = flag }) bucket next result
      → OnOk result (Counts (record pass { bucket = bucket; pending = pending; entries = entries }) counted)
      → Steps wanted sink old new pass.setup put (PassIsAt wanted counted next parents after) result
  item_steps {put = put} {counted = counted} key value flag rest pending bucket entries next result is on coming pends takes counts =
      let item : Laid LeafElement = leaf_item key value flag in
      let e : LeafElement = record { key = key; value = value; is_bucket = flag } in
      let row : List Placed = runs_room_put P runs_now key (element_size e) in
      let then = on_takes is.frames is.state key value flag (items_of wanted.which P rest) runs_now put on in
      steps_on row then takes.0.pages takes.0.large (on_ok_both result takes.1 counts (λ same k.
      at_counted k (subst
      (λ (r : BucketRunsView). PassIsOn wanted.which P wanted.tree is.frames (taking P is.state item) (items_of wanted.which P rest) r (put ++ row))
      (sym same) then)
      is.waits pends (takes_held P is.frames is.state item pass.most counted.most refl is.held) is.opened_is coming is.noted))

  -- a value
  pub value_steps : {S A : Type 0} {sink : Ghosts S} {put : List Placed} {parents : List Parent} {old new : S} {counted : Pass} (key value : List ℕ)
      (after : Tree) (bucket : BucketRuns) (next : ℕ) (result : Result A BulkFault)
      → PassIsAt wanted pass from parents (with_value key value after) put → pass.pending ≡ None
      → TakesAt sink old new (value_element key value) bucket next result
      → OnOk result (Counts (record pass { bucket = bucket }) counted)
      → Steps wanted sink old new pass.setup put (PassIsAt wanted counted next parents after) result
  value_steps key value after bucket next result is none takes counts =
      let (same, on, coming) = on_of is none in
      item_steps key value false after pass.pending bucket pass.entries next result is on (record { inside = coming.inside; around = coming.around })
      (rw none (same, refl)) takes counts

  -- the end of a bucket that is inline
  pub inline_steps : {S A : Type 0} {sink : Ghosts S} {put : List Placed} {parents : List Parent} {old new : S} {counted : Pass} (parent : Parent)
      (p : PendingBucket) (bucket : BucketRuns) (entries : Vec Leaf Global) (next : ℕ) (result : Result A BulkFault)
      → PassIsAt wanted pass from (parent ∷ parents) end put → pass.pending ≡ Some p → IsPendingSmall P pass.pending pass.entries.items
      → TakesAt sink old new (pending_element p pass.entries.items) bucket next result
      → OnOk result (Counts (record pass { bucket = bucket; pending = None; entries = entries }) counted)
      → Steps wanted sink old new pass.setup put (PassIsAt wanted counted next parents parent.after) result
  inline_steps {put = put} {parents = parents} parent p bucket entries next result is some pending takes counts =
      let small = small_of P pass.pending p pass.entries.items some pending in
      let (after, same, on, coming) = pending_of wanted pass from (parent ∷ parents) end put p is some in
      let shown : List LeafElement = map leaf_view pass.entries.items in
      let count = length-map pass.entries.items leaf_view in
      let fits = small.small in
      let item = inline_item wanted.which P p.key.now p.sequence shown (shown_values pass.entries.items small.values) (omega arith) (omega arith) in
      let unopened = opened_inline wanted.which P (onto shown end) (ends_inline wanted.which P shown (omega arith) (omega arith)) in
      let first : parent ≡ record { key = p.key.now; after = after } = cc in
      let others : parents ≡ map parent_of is.frames = cc in
      item_steps p.key.now (inline_value p.sequence shown) true after None bucket entries next result is
      (subst (λ (i : Laid LeafElement). PassIsOn wanted.which P wanted.tree is.frames is.state (i ∷ items_of wanted.which P after) runs_now put) item on)
      (come_at wanted P (limits_by pass) (is.opened + opened_by wanted.which P (onto shown end)) is.opened after after is.frames (omega arith) refl (record {
        inside = coming.inside.1;
        around = around_at wanted P (limits_by pass) _ _ is.frames (omega arith) coming.around;
      })) (others, ap (λ (l : Parent). l.after) (sym first)) takes counts

  -- ---- a bucket that has a root page is opened, and the one around it waits

  -- what is known of it
  abbrev known_now : ℕ → Tree → Known
  known_now number left = record {
    number = number;
    limits = record { all = pass.limits; bucket = pass.opened };
    leaves = leaf_pages P (items_of wanted.which P (onto (map leaf_view pass.entries.items) left));
  }

  abbrev opened_runs : PendingBucket → ℕ → BucketRunsView
  opened_runs p next = record {
    leaves = record { elements = map leaf_view pass.entries.items; size = p.size };
    uppers = [];
    limits = record { all = pass.limits; bucket = pass.opened };
    next = next;
  }

  -- where it is then
  abbrev room_for : PendingBucket → BucketRunsView
  room_for p = runs_room P runs_now p.key.now (32 + length p.key.now)

  abbrev frame_of : PendingBucket → Tree → Open → BucketFrame
  frame_of p after state = waiting P state p.key.now p.sequence after

  record HasOpened (put : List Placed) (parents : List Parent) (left : Tree) (p : PendingBucket) (is : PassIsAt wanted pass from parents left put)
      : Type 0 where
    after : Tree
    same : parents ≡ record { key = p.key.now; after = after } ∷ map parent_of is.frames
    outer : AreOpenRuns (room_for p) (making_room P is.state p.key.now (32 + length p.key.now)) (base_in is.frames)
    coming : IsToCome wanted P (limits_by pass) (suc is.opened) left (frame_of p after is.state ∷ is.frames)
    notes : Notes wanted P is.opened (known_now is.opened left).leaves
    on : PassIsOn wanted.which P wanted.tree (frame_of p after is.state ∷ is.frames)
        (open_values (known_now is.opened left) (value_items (map leaf_view pass.entries.items))) (items_of wanted.which P left)
        (opened_runs p (room_for p).next)
        (put ++ runs_room_put P runs_now p.key.now (32 + length p.key.now))

  has_opened : (put : List Placed) (parents : List Parent) (left : Tree) (p : PendingBucket) (is : PassIsAt wanted pass from parents left put)
      → pass.pending ≡ Some p → IsPendingSmall P pass.pending pass.entries.items
      → HasRoot wanted.which P (onto (map leaf_view pass.entries.items) left)
      → HasOpened put parents left p is
  has_opened put parents left p is some pending rooted =
      let small = small_of P pass.pending p pass.entries.items some pending in
      let (after, same, on, coming) = pending_of wanted pass from parents left put p is some in
      let shown : List LeafElement = map leaf_view pass.entries.items in
      let count = length-map pass.entries.items leaf_view in
      let sizes = small.sized in
      let inner : List (Laid LeafElement) = items_of wanted.which P (onto shown left) in
      let known : Known = known_now is.opened left in
      let own = coming.inside.0 rooted in
      let right : HaveRightLimits wanted.which P (bucket_limit known.limits) (leaf_pages P inner) =
      subst (λ (n : ℕ). HaveRightLimits wanted.which P (limit_in pass.limits.now n) (leaf_pages P inner)) (sym is.opened_is) own.0.right in
      let (entered, made, placed) = on_enters known is.frames is.state p.key.now p.sequence inner after runs_now put refl right
      (subst (λ (i : Laid LeafElement). PassIsOn wanted.which P wanted.tree is.frames is.state (i ∷ items_of wanted.which P after) runs_now put)
      (root_item wanted.which P p.key.now p.sequence (onto shown left) rooted) on) in
      let frames : List BucketFrame = frame_of p after is.state ∷ is.frames in
      let begun =
      subst (λ (items : List (Laid LeafElement)). IsPass wanted.which P frames (open_values known []) items (root_of wanted.which P wanted.tree))
      (onto_items wanted.which P shown left) entered in
      let by = opened_rooted wanted.which P (onto shown left) rooted in
      let same_opened = opened_onto wanted.which P shown left in
      record {
        after = after;
        same = same;
        outer = made;
        coming = record {
          inside = coming_onto wanted P (limits_by pass) (suc is.opened) shown left own.1;
          around = (
            coming_at wanted P (limits_by pass) _ _ after (omega arith) coming.inside.1,
            around_at wanted P (limits_by pass) _ _ is.frames (omega arith) coming.around,
          );
        };
        notes = own.0.notes;
        on = record {
          under =
              pass_takes_all wanted.which P known frames [] shown (items_of wanted.which P left) (root_of wanted.which P wanted.tree) (omega arith)
              (omega arith) begun;
          kept = values_runs known shown p.size (base_in frames) (room_for p).next (shown_values pass.entries.items small.values) sizes made.next_is;
          put_is = placed ∙ values_put known frames shown;
        };
      }

  -- a fault on the way
  pub open_stops : {S B C : Type 0} {sink : Ghosts S} {put : List Placed} {parents : List Parent} {left : Tree} {old new : S}
      {At : List Placed → Type 0} {e : BulkFault} {result : Result C BulkFault} (p : PendingBucket)
      → IsErrAnd result (λ f. f ≡ e)
      → PassIsAt wanted pass from parents left put → pass.pending ≡ Some p → IsPendingSmall P pass.pending pass.entries.items
      → HasRoot wanted.which P (onto (map leaf_view pass.entries.items) left)
      → Writes {A = B} sink old new pass.setup (runs_room_put P runs_now p.key.now (32 + length p.key.now)) (room_for p).next (Err e)
      → Steps wanted sink old new pass.setup put At result
  open_stops {put = put} {parents = parents} {left = left} p same is some pending rooted writes =
      steps_stop {A = ⊤} {Mid = λ _. ⊤} same
      (steps_on (runs_room_put P runs_now p.key.now (32 + length p.key.now)) (has_opened put parents left p is some pending rooted).on writes.pages
      writes.large tt)

  -- all went well
  pub open_steps : {S : Type 0} {sink : Ghosts S} {put : List Placed} {parents : List Parent} {left : Tree} {old new : S} {counted : Pass}
      (p : PendingBucket) (bucket : BucketRuns) (w : WaitingBucket) (around : Vec WaitingBucket Global) (entries : Vec Leaf Global) (next opened held : ℕ)
      → PassIsAt wanted pass from parents left put → pass.pending ≡ Some p → IsPendingSmall P pass.pending pass.entries.items
      → HasRoot wanted.which P (onto (map leaf_view pass.entries.items) left)
      → Writes {A = ⊤} sink old new pass.setup (runs_room_put P runs_now p.key.now (root_size p.key.now)) (room_for p).next (Ok tt)
      → bucket_runs w.bucket next ≡ room_for p → w.key.now ≡ p.key.now → w.sequence ≡ p.sequence
      → around.items ≡ pass.waiting.items ++ w ∷ [] → bucket_runs bucket next ≡ opened_runs p next
      → opened ≡ min (pass.opened + 1) 18446744073709551615
      → Counts (record pass { waiting = around; bucket = bucket; pending = None; entries = entries; opened = opened; around = held }) counted
      → Steps {A = ⊤} wanted sink old new pass.setup put (PassIsAt wanted counted next parents left) (Ok tt)
  open_steps {put = put} {parents = parents} {left = left} {counted = counted} p bucket w around entries next opened held is some pending rooted writes made key_is sequence_is items values_are one_more k =
      let then = has_opened put parents left p is some pending rooted in
      let frame : BucketFrame = frame_of p then.after is.state in
      let frames : List BucketFrame = frame ∷ is.frames in
      let known : Known = known_now is.opened left in
      let values : List (Laid LeafElement) = value_items (map leaf_view pass.entries.items) in
      let next_is : next ≡ (room_for p).next = ap (λ (r : BucketRunsView). r.next) made in
      let at : bucket_runs w.bucket (base_in frames) ≡ room_for p = ap (λ (n : ℕ). bucket_runs w.bucket n) (sym (next_is ∙ then.outer.next_is)) ∙ made in
      let waits : AreWaiting (reverse around.items) frames =
      subst (λ (ws : List WaitingBucket). AreWaiting ws frames) (sym (ap reverse items ∙ reverse-append pass.waiting.items (w ∷ [])))
      (subst (λ (r : BucketRunsView). AreOpenRuns r frame.state (base_in is.frames)) (sym at) then.outer, key_is, sequence_is, is.waits) in
      let on =
      subst (λ (r : BucketRunsView).
      PassIsOn wanted.which P wanted.tree frames (open_values known values) (items_of wanted.which P left) r
      (put ++ runs_room_put P runs_now p.key.now (32 + length p.key.now)))
      (sym (values_are ∙ ap (opened_runs p) next_is)) then.on in
      steps_on (runs_room_put P runs_now p.key.now (32 + length p.key.now)) then.on writes.pages tt
      (at_counted k on waits (then.same, refl)
      (enters_held P known frame is.frames is.state p.key.now (32 + length p.key.now) values pass.most counted.most refl
      (values_held (map leaf_view pass.entries.items)) is.held)
      (let o = is.opened_is in omega arith) then.coming (noted_enters wanted P pass.noted known (open_in is.state is.frames) is.opened_is then.notes is.noted))

  -- ---- the open bucket ends, and the one around it goes on
  pub leave_steps : {S A : Type 0} {sink : Ghosts S} {put : List Placed} {parents : List Parent} {old new : S} {counted : Pass} (parent : Parent)
      (w : WaitingBucket) (bucket : BucketRuns) (around : Vec WaitingBucket Global) (next held : ℕ) (noted : NotedLimits) (result : Result A BulkFault)
      → PassIsAt wanted pass from (parent ∷ parents) end put → pass.pending ≡ None → pass.waiting.items ≡ around.items ++ w ∷ []
      → BucketEnds pass.noted noted pass.bucket.uppers
      → Writes sink old new pass.setup (runs_end_put P runs_now) (bucket_end_next P runs_now) result
      → OnOk result ((before : ℕ)
      → bucket_runs bucket next
      ≡ runs_push (bucket_runs w.bucket before) (root_element w.key.now (runs_end P runs_now) w.sequence) (32 + length w.key.now) (bucket_end_next P runs_now))
      → OnOk result (Counts (record pass { waiting = around; bucket = bucket; around = held; noted = noted }) counted)
      → Steps wanted sink old new pass.setup put (PassIsAt wanted counted next parents parent.after) result
  leave_steps {put = put} {parents = parents} {counted = counted} parent w bucket around next held noted result is none popped ended writes runs counts =
      let (same, on, coming) = on_of is none in
      let (frame, frames, more_frames, top) = first_frame parent parents is.frames same in
      let ws : reverse pass.waiting.items ≡ w ∷ reverse around.items = ap reverse popped ∙ reverse-append around.items (w ∷ []) in
      let (outer, key, sequence, others) =
      subst (λ (l : List WaitingBucket). AreWaiting l (frame ∷ frames)) ws
      (subst (λ (fs : List BucketFrame). AreWaiting (reverse pass.waiting.items) fs) more_frames is.waits) in
      let to_come = subst (λ (fs : List BucketFrame). IsToCome wanted P (limits_by pass) is.opened end fs) more_frames coming in
      let made : Open = pushing frame.state (held_item frame (end_of P is.state)) in
      let base : ℕ = base_in (frame ∷ frames) in
      let On : BucketRunsView → Type 0 =
      λ r. PassIsOn wanted.which P wanted.tree frames made (items_of wanted.which P frame.after) r (put ++ runs_end_put P runs_now) in
      let then =
      on_leaves frame frames is.state runs_now (bucket_runs w.bucket base) put w.key.now w.sequence
      (subst (λ (fs : List BucketFrame). PassIsOn wanted.which P wanted.tree fs is.state [] runs_now put) more_frames on) outer refl key sequence in
      steps_on (runs_end_put P runs_now) then writes.pages writes.large (on_ok_both result runs counts (λ e k.
      at_counted k (subst On (sym (e base)) then) others
      (subst (λ (p : Option PendingBucket). IsPending p pass.entries.items (map parent_of frames) frame.after parents parent.after) (sym none) top)
      (leaves_held P frame frames is.state pass.most counted.most is.on.under.begun
      (is.held ∙ ap (λ (fs : List BucketFrame). saturated (held_so_far fs is.state)) more_frames)) is.opened_is
      (come_at wanted P (limits_by pass) (is.opened + 0) is.opened frame.after frame.after frames (omega arith) refl
      (record { inside = to_come.around.0; around = to_come.around.1 }))
      (noted_leaves pass.bucket (open_in frame.state frames)
      (subst (λ (fs : List BucketFrame). HasNoted wanted P pass.noted is.opened (open_in is.state fs)) more_frames is.noted) coming on ended)))

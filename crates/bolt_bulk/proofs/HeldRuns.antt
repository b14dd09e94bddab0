-- A run of items that takes one more, and the entries of the inline buckets among them.
use Rattle.std.proofs.{lemmas.Grind.common_steps, Math.Seq.drop-append_seam, Math.Seq.take-length}
use Rattle.std.proofs.lemmas.List.{drop-append-le, length-append, length-drop, length-map, take-append-le, map-append}
use Rattle.std.proofs.Common.{Bor, ◌∙◌, Global, Vec, subst, ◌≡◌, ℕ, ◌+◌, ◌<◌, ◌≤◌, false, List, [], ◌∷◌, ◌++◌, length, map, refl, sym, ap, arith}
use Rattle.std.specs.List.{AllByRecursion}
use Rattle.bolt_lemmas.proofs.Exports.{all_append}
use Rattle.bolt_format.specs.{ElementPlaces.leaf_view, Elements.LeafElement, declared.element.Leaf.Leaf}
use Rattle.bolt_layout.specs.PageBytes.{inline_value, leaf_data}
use Rattle.bolt_bulk.specs.Private.{HoldsLeaves, entries_in, entries_size, HasRoomFor, held_view, held_views, inline_element, inline_size, inlined_by}
use Rattle.bolt_bulk.specs.Private.{inlined_in, IsHeld, IsInlined, IsOpenBucket, IsStored, page_size_of, stored_value, value_item}
use Rattle.bolt_bulk.specs.{declared.bucket_runs.BucketRuns.BucketRuns, declared.leaf_run.LeafRun.LeafRun, declared.held.Held.Held}
use Rattle.bolt_bulk.specs.{declared.held.StoredItem.StoredItem}
use Rattle.bolt_bulk.specs.declared.held.StoredItem.TheVariants as stored
use Rattle.bolt_layout.proofs.Exports.{length-leaf_bytes}
use Rattle.bolt_format.proofs.Exports.{length-header_bytes, length-head_bytes}

-- what is known of a run of items
pub record IsRun (inlined : List Leaf) (items : List Held) (size : ℕ) : Type 0 where
  pub held : HoldsLeaves inlined items
  pub sized : size ≡ page_size_of inlined items
  pub small : size < 4294967296
  pub few : length items < 65535

pub data_push : (es : List LeafElement) (e : LeafElement)
    → length (leaf_data (es ++ e ∷ [])) ≡ length (leaf_data es) + (length e.key + length e.value)
data_push [] e = omega (arith, length-append e.key (e.value ++ []), length-append e.value [])
data_push (x ∷ es) e = grind (arith, length-append, data_push es e)

pub none_small : (inlined : List Leaf) (xs : List Held) (size : ℕ) → length xs < 1 → size ≡ page_size_of inlined xs → size ≡ 16
none_small inlined xs size h e = grind (arith, common_steps)

run_pushed : (size more : ℕ) (inlined : List Leaf) (xs : List Held) (x : Held) → IsRun inlined xs size → IsHeld inlined x
    → more ≡ 16 + (length x.key.now + length (stored_value inlined x.stored))
    → size + more < 4294967296 → length xs < 65534 → IsRun inlined (xs ++ x ∷ []) (size + more)
run_pushed size more inlined xs x is held same small few = grind (arith, data_push, map-append, length-append, all_append)

inlined_push : (xs : List Held) (x : Held) → inlined_in (xs ++ x ∷ []) ≡ inlined_in xs + inlined_by x.stored
inlined_push [] x = omega arith
inlined_push (y ∷ xs) x = let ih = inlined_push xs x in omega arith

-- its inline buckets have as many more entries as the item has
counted : (before after : ℕ) (xs more : List Held) (x : Held) → before ≡ inlined_in xs → more ≡ xs ++ x ∷ [] → after ≡ before + inlined_by x.stored
    → after ≡ inlined_in more
counted before after xs more x old same grown = omega (arith, ap (λ (items : List Held). inlined_in items) same, inlined_push xs x)

-- one more item, which isn't an inline bucket
pub item_pushed : (bucket : BucketRuns) (items : Vec Held Global) (x : Held) (more : ℕ) → IsOpenBucket bucket
    → items.items ≡ bucket.leaves.items.items ++ x ∷ [] → IsHeld bucket.leaves.inlined.items x → inlined_by x.stored ≡ 0
    → more ≡ 16 + (length x.key.now + length (stored_value bucket.leaves.inlined.items x.stored)) → HasRoomFor bucket.leaves more
    → IsOpenBucket (record { leaves = record { items = items; inlined = bucket.leaves.inlined; size = bucket.leaves.size + more }; uppers = bucket.uppers })
item_pushed bucket items x more is_open pushed held apart size room =
    let run : LeafRun = bucket.leaves in
    let old = is_open.leaves in
    let is : IsRun run.inlined.items items.items (run.size + more) = subst (λ (xs : List Held). IsRun run.inlined.items xs (run.size + more)) (sym pushed)
    (run_pushed run.size more run.inlined.items run.items.items x (record { held = old.held; sized = old.sized; small = old.small; few = old.few }) held
    size room.small room.few) in
    let none : length run.inlined.items ≡ length run.inlined.items + inlined_by x.stored = omega arith in
    record {
      leaves = record { held = is.held; sized = is.sized; small = is.small; few = is.few; inlined = counted _ _ run.items.items _ x old.inlined pushed none };
      uppers = is_open.uppers;
    }

stored_more : (inlined more : List Leaf) (x : StoredItem) → IsStored inlined x → IsStored (inlined ++ more) x
stored_more inlined more x is = grind (arith, length-append, length-drop, drop-append-le, take-append-le)

view_more : (inlined more : List Leaf) (x : Held) → IsHeld inlined x → held_view (inlined ++ more) x ≡ held_view inlined x
view_more inlined more x is = grind (arith, length-drop, drop-append-le, take-append-le)

pub views_more : (inlined more : List Leaf) (items : List Held) → HoldsLeaves inlined items
    → held_views (inlined ++ more) items ≡ held_views inlined items
views_more inlined more [] all = refl
views_more inlined more (x ∷ items) all = grind (arith, view_more, views_more inlined more items all.1)

pub held_more : (inlined more : List Leaf) (items : List Held) → HoldsLeaves inlined items → HoldsLeaves (inlined ++ more) items
held_more inlined more [] all = tt
held_more inlined more (x ∷ items) all = ((all.0.0, stored_more inlined more x.stored all.0.1), held_more inlined more items all.1)

run_more : (size : ℕ) (inlined more : List Leaf) (items : List Held) → IsRun inlined items size → IsRun (inlined ++ more) items size
run_more size inlined more items is = grind (arith, views_more, held_more)

-- the entries of an inline bucket that was just added
entries_at : (inlined entries run : List Leaf) (first : ℕ) → run ≡ inlined ++ entries → first ≡ length inlined
    → entries_in run first (length entries) ≡ map leaf_view entries
entries_at inlined entries run first behind at = grind (arith, drop-append_seam, take-length)

pub length-inline_value : (sequence : ℕ) (entries : List LeafElement) → length (inline_value sequence entries) ≡ inline_size entries
unfolding inline_value
length-inline_value sequence entries = grind (arith, length-head_bytes, length-header_bytes, length-leaf_bytes, length-append)

-- such a bucket is an item,
added_held : (inlined entries run : List Leaf) (first size : ℕ) → run ≡ inlined ++ entries → first ≡ length inlined → length entries < 65535
    → size ≡ inline_size (map leaf_view entries) → size < 4294967296
    → IsInlined run first (length entries) size
added_held inlined entries run first size behind at few same small = grind (arith, length-append, length-map, entries_at)

-- of this size,
added_size : (inlined entries run : List Leaf) (first sequence key size : ℕ) → run ≡ inlined ++ entries → first ≡ length inlined
    → size ≡ inline_size (map leaf_view entries)
    → 16 + (key + size) ≡ 16 + (key + length (inline_value sequence (entries_in run first (length entries))))
added_size inlined entries run first sequence key size behind at same = grind (arith, entries_at, length-inline_value)

-- and these are the elements then.
pub added_views : (inlined entries run : List Leaf) (first sequence : ℕ) (key : List ℕ) (items more : List Held) (x : Held) → run ≡ inlined ++ entries
    → first ≡ length inlined → HoldsLeaves inlined items
    → more ≡ items ++ x ∷ [] → held_view run x ≡ inline_element key sequence (entries_in run first (length entries))
    → held_views run more ≡ held_views inlined items ++ inline_element key sequence (map leaf_view entries) ∷ []
added_views inlined entries run first sequence key items more x behind at all same view = grind (arith, views_more, entries_at, map-append)

-- The items of values are these values,
pub values_view : (entries : List Leaf) → AllByRecursion (λ (entry : Leaf). entry.is_bucket ≡ false) entries
    → held_views [] (map value_item entries) ≡ map leaf_view entries
values_view [] all = refl
values_view (x ∷ entries) all = grind (arith, values_view entries all.1)

values_held : (entries : List Leaf) → AllByRecursion (λ (entry : Leaf). length entry.key.now ≤ 1073741824) entries
    → HoldsLeaves [] (map value_item entries)
values_held [] all = tt
values_held (x ∷ entries) all = ((all.0, tt), values_held entries all.1)

pub values_none : (entries : List Leaf) → inlined_in (map value_item entries) ≡ 0
values_none [] = refl
values_none (x ∷ entries) = let ih = values_none entries in omega arith

-- and make a run.
pub values_run : (entries : List Leaf) (size : ℕ) → AllByRecursion (λ (entry : Leaf). length entry.key.now ≤ 1073741824) entries
    → AllByRecursion (λ (entry : Leaf). entry.is_bucket ≡ false) entries → size ≡ entries_size (map leaf_view entries) → size < 4294967296
    → length entries < 65535 → IsRun [] (map value_item entries) size
values_run entries size keys values same small few = grind (arith, values_view, length-map, values_held)

-- one more item, which is an inline bucket with these entries
pub inline_pushed : (bucket : BucketRuns) (items : Vec Held Global) (inlined : Vec Leaf Global) (entries : List Leaf) (key : Bor (List ℕ))
    (sequence first size : ℕ)
    → IsOpenBucket bucket → inlined.items ≡ bucket.leaves.inlined.items ++ entries
    → first ≡ length bucket.leaves.inlined.items
    → items.items ≡ bucket.leaves.items.items ++ record { key = key; stored = stored.Inline sequence first (length entries) size } ∷ []
    → length key.now ≤ 1073741824
    → length entries < 65535 → size ≡ inline_size (map leaf_view entries) → size < 4294967296 → HasRoomFor bucket.leaves (16 + (length key.now + size))
    → IsOpenBucket (record {
      leaves = record { items = items; inlined = inlined; size = bucket.leaves.size + (16 + (length key.now + size)) };
      uppers = bucket.uppers;
    })
inline_pushed bucket items inlined entries key sequence first size is_open behind at pushed short few sized small room =
    let run : LeafRun = bucket.leaves in
    let old = is_open.leaves in
    let held : Held = record { key = key; stored = stored.Inline sequence first (length entries) size } in
    let grown =
    subst (λ (r : List Leaf). IsRun r run.items.items run.size) (sym behind)
    (run_more run.size run.inlined.items entries run.items.items (record { held = old.held; sized = old.sized; small = old.small; few = old.few })) in
    let added = added_held run.inlined.items entries inlined.items first size behind at few sized small in
    let long = added_size run.inlined.items entries inlined.items first sequence (length key.now) size behind at sized in
    let is =
    subst (λ (xs : List Held). IsRun inlined.items xs (run.size + (16 + (length key.now + size)))) (sym pushed)
    (run_pushed run.size _ inlined.items run.items.items held grown (short, added) long room.small room.few) in
    let count = ap (λ (r : List Leaf). length r) behind ∙ length-append run.inlined.items entries in
    record {
      leaves =
          record { held = is.held; sized = is.sized; small = is.small; few = is.few; inlined = counted _ _ run.items.items _ held old.inlined pushed count };
      uppers = is_open.uppers;
    }

-- An item of an open leaf, as the code keeps it, and the element that it is.
use Rattle.std.specs.Prelude.{◌≡◌, ◌<◌, ◌≤◌, ℕ, ◌+◌, ◌*◌, Bool, true, false, List, [], ◌∷◌, drop, length, map, take}
use Rattle.std.specs.List.{AllByRecursion}
use Rattle.bolt_format.specs.{ElementPlaces.leaf_view, Elements.LeafElement, declared.element.Leaf.Leaf, Encoded.head_bytes}
use Rattle.bolt_layout.specs.PageBytes.{inline_value, leaf_data}
use Rattle.bolt_bulk.specs.{declared.held.Held.Held, declared.held.StoredItem.StoredItem, Private.FormatLimits.length_end, Private.FormatLimits.longest_key}
use Rattle.bolt_bulk.specs.declared.held.StoredItem.TheVariants as stored

-- the entries of the inline buckets of a run are in one list
abbrev pub entries_in : List Leaf → (first count : ℕ) → List LeafElement
entries_in inlined first count = map leaf_view (take count (drop first inlined))

abbrev pub stored_value : List Leaf → StoredItem → List ℕ
stored_value inlined (stored.Value value) = value.now
stored_value inlined (stored.Root page sequence) = head_bytes page sequence
stored_value inlined (stored.Inline sequence first count size) = inline_value sequence (entries_in inlined first count)

abbrev pub stored_length : StoredItem → ℕ
stored_length (stored.Value value) = length value.now
stored_length (stored.Root page sequence) = 16
stored_length (stored.Inline sequence first count size) = size

abbrev pub is_stored_bucket : StoredItem → Bool
is_stored_bucket (stored.Value value) = false
is_stored_bucket (stored.Root page sequence) = true
is_stored_bucket (stored.Inline sequence first count size) = true

abbrev pub held_view : List Leaf → Held → LeafElement
held_view inlined held = record { key = held.key.now; value = stored_value inlined held.stored; is_bucket = is_stored_bucket held.stored }

abbrev pub held_views : List Leaf → List Held → List LeafElement
held_views inlined items = map (held_view inlined) items

-- the item of an entry that is a value
abbrev pub value_item : Leaf → Held
value_item entry = record { key = entry.key; stored = stored.Value entry.value }

-- the entries of an inline bucket are in the list, no more than a page may have, and the size of its value is known
pub record IsInlined (inlined : List Leaf) (first count size : ℕ) : Type 0 where
  pub there : first + count ≤ length inlined
  pub few : count < 65535
  pub sized : size ≡ 32 + (16 * count + length (leaf_data (entries_in inlined first count)))
  pub small : size < length_end

abbrev pub IsStored : List Leaf → StoredItem → Type 0
IsStored inlined (stored.Value value) = Unit {0}
IsStored inlined (stored.Root page sequence) = Unit {0}
IsStored inlined (stored.Inline sequence first count size) = IsInlined inlined first count size

-- an item of an open leaf has a key that the format allows
abbrev pub IsHeld : List Leaf → Held → Type 0
IsHeld inlined held = (length held.key.now ≤ longest_key) × IsStored inlined held.stored

abbrev pub HoldsLeaves : List Leaf → List Held → Type 0
HoldsLeaves inlined items = AllByRecursion (IsHeld inlined) items

-- the size of an item on its page
abbrev pub held_size : List Leaf → Held → ℕ
held_size inlined held = 16 + (length held.key.now + length (stored_value inlined held.stored))

-- how many entries of inline buckets belong to an item, and to all
abbrev pub inlined_by : StoredItem → ℕ
inlined_by (stored.Value value) = 0
inlined_by (stored.Root page sequence) = 0
inlined_by (stored.Inline sequence first count size) = count

abbrev pub inlined_in : List Held → ℕ
inlined_in [] = 0
inlined_in (held ∷ items) = inlined_by held.stored + inlined_in items

-- the size of the page over items
abbrev pub page_size_of : List Leaf → List Held → ℕ
page_size_of inlined items = 16 + (16 * length items + length (leaf_data (held_views inlined items)))

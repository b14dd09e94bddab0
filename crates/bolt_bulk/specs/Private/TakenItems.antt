-- The items that a bucket takes, as elements of its leaf, and what is open of it then.
use Rattle.std.specs.Prelude.{ℕ, ◌+◌, ◌*◌, true, false, List, length, map}
use Rattle.bolt_format.specs.{ElementPlaces.leaf_view, declared.element.Leaf.Leaf, Elements.LeafElement, Encoded.head_bytes}
use Rattle.bolt_bulk.specs.{declared.pending_bucket.PendingBucket.PendingBucket, Private.RunViews.BucketRunsView, Private.RunViews.LeafRunView}
use Rattle.bolt_bulk.specs.{Private.RunViews.runs_push, Private.RunViews.runs_room}
use Rattle.bolt_layout.specs.PageBytes.{inline_value, leaf_data}

abbrev pub value_element : (key value : List ℕ) → LeafElement
value_element key value = record { key = key; value = value; is_bucket = false }

abbrev pub inline_element : (key : List ℕ) → (sequence : ℕ) → List LeafElement → LeafElement
inline_element key sequence entries = record { key = key; value = inline_value sequence entries; is_bucket = true }

abbrev pub root_element : (key : List ℕ) → (root sequence : ℕ) → LeafElement
root_element key root sequence = record { key = key; value = head_bytes root sequence; is_bucket = true }

-- the size of an item, and that of a bucket with a root page
abbrev pub element_size : LeafElement → ℕ
element_size e = 16 + (length e.key + length e.value)

abbrev pub root_size : (key : List ℕ) → ℕ
root_size key = 32 + length key

abbrev pub pending_element : PendingBucket → List Leaf → LeafElement
pending_element pending entries = inline_element pending.key.now pending.sequence (map leaf_view entries)

-- a run of entries that are values, and of this size
abbrev pub values_run : List Leaf → (size : ℕ) → LeafRunView
values_run entries size = record { elements = map leaf_view entries; size = size }

-- the sizes of a page over entries, and of the value of an inline bucket that has them
abbrev pub entries_size : List LeafElement → ℕ
entries_size entries = 16 + (16 * length entries + length (leaf_data entries))

abbrev pub inline_size : List LeafElement → ℕ
inline_size entries = 32 + (16 * length entries + length (leaf_data entries))

-- room is made for an item of this size, and it is added
abbrev pub runs_taking : (page_size : ℕ) → BucketRunsView → LeafElement → (size : ℕ) → BucketRunsView
runs_taking page_size runs e size = runs_push (runs_room page_size runs e.key size) e size (runs_room page_size runs e.key size).next

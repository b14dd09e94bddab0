-- The items of a bucket: its entries as they are stored, and which buckets are inline: docs/LAYOUT.md, "Stored values" and "Inline buckets".
use Rattle.std.specs.Prelude.{ℕ, ◌+◌, ◌/◌, Bool, true, false, not, ◌&&◌, nat_le, List, [], ◌∷◌, length, if◌then◌else◌}
use Rattle.bolt_format.specs.{Elements.BranchElement, Elements.LeafElement, Encoded.head_bytes}
use Rattle.bolt_tree.specs.Tree.{Tree, end, with_value, with_bucket}
use Rattle.bolt_layout.specs.{Cut.max_items, Cut.run_size, Laid.Laid, Laid.elements_of, Laid.size_of, Levels.root_over, PageBytes.inline_value}
use Rattle.bolt_layout.specs.{declared.Layout.Layout}

-- a value, or a bucket within its own value, has no pages below it
abbrev pub leaf_item : (key value : List ℕ) → (is_bucket : Bool) → Laid LeafElement
leaf_item key value is_bucket = record {
  key = key;
  size = 16 + (length key + length value);
  numbers = 0;
  held = 0;
  pages = λ number. [];
  element = λ number. record { key = key; value = value; is_bucket = is_bucket };
}

-- a bucket with a root page: its pages are below the item, and its value of 16 bytes has the number of its root page
abbrev pub bucket_item : (key : List ℕ) → (sequence : ℕ) → (root : Laid BranchElement) → Laid LeafElement
bucket_item key sequence root = record {
  key = key;
  size = 16 + (length key + 16);
  numbers = root.numbers;
  held = root.held;
  pages = root.pages;
  element = λ number. record { key = key; value = head_bytes (root.element number).child sequence; is_bucket = true };
}

abbrev pub holds_bucket : Tree → Bool
holds_bucket end = false
holds_bucket (with_value key value after) = holds_bucket after
holds_bucket (with_bucket key sequence inside after) = true

-- A bucket is inline if it holds no bucket, its one leaf page has at most a quarter of the page size, and it has at most 65,534 items.
abbrev pub is_inline : (page_size : ℕ) → Tree → List (Laid LeafElement) → Bool
is_inline page_size inside items =
    not (holds_bucket inside) && (nat_le (run_size size_of items) (page_size / 4) && nat_le (length items) max_items)

abbrev pub stored_bucket : (which : Layout) (page_size : ℕ) → (key : List ℕ) → (sequence : ℕ) → Tree → List (Laid LeafElement) → Laid LeafElement
stored_bucket which page_size key sequence inside items =
    if is_inline page_size inside items then leaf_item key (inline_value sequence (elements_of items 0)) true
    else bucket_item key sequence (root_over which page_size items)

-- the entries of a bucket in order, as items
abbrev pub items_of : (which : Layout) (page_size : ℕ) → Tree → List (Laid LeafElement)
items_of which page_size end = []
items_of which page_size (with_value key value after) = leaf_item key value false ∷ items_of which page_size after
items_of which page_size (with_bucket key sequence inside after) =
    stored_bucket which page_size key sequence inside (items_of which page_size inside) ∷ items_of which page_size after

-- the root page of the root bucket, which is never inline
unfoldable pub root_of : (which : Layout) (page_size : ℕ) → Tree → Laid BranchElement
root_of which page_size tree = root_over which page_size (items_of which page_size tree)

-- What a bucket has: the elements of the leaves that its addresses lead to, or those in its own value: docs/LISTING.md, "Entries".
use Rattle.std.specs.Prelude.{◌≡◌, ◌==◌, ◌↔◌, ℕ, IsTrue, List, [], Some, Contains, if◌then◌else◌}
use Rattle.std.specs.declared.cmp.Ordering.{Ordering}
use Rattle.bolt_lemmas.specs.Order.{Rises}
use Rattle.bolt_format.specs.{Elements.LeafElement, Elements.head_root, Elements.head_sequence, Elements.inline_elements, Pages.PageView}
use Rattle.bolt_format.specs.{Pages.page_at, declared.meta.Meta.Meta}
use Rattle.bolt_format.specs.declared.header.Kind.TheVariants as kind
use Rattle.bolt_check.specs.{Keys.Key, Keys.key_cmp, Nodes.node_at, OnWays.IsOnWay, Shape.leads}

-- where a bucket's tree begins: at a root page, or with the elements in its own value
pub data Start : Type 0 where
  Root_page : ℕ → Start
  Inline_page : List LeafElement → Start

-- the bucket of an element with this value
abbrev pub start_of : List ℕ → Start
start_of value = if head_root value == 0 then Inline_page (inline_elements value) else Root_page (head_root value)

-- page n is a leaf that shows e
abbrev pub ShowsEntry : List ℕ → Meta → ℕ → LeafElement → Type 0
ShowsEntry file meta n e = (view : PageView) × (page_at file meta n ≡ Some view) × (view.kind ≡ kind.Leaf) × Contains view.leaves e

-- e is an entry of a bucket: an element of a leaf that an address leads to, or one in the bucket's own value
abbrev pub IsEntry : List ℕ → Meta → Start → LeafElement → Type 0
IsEntry file meta (Root_page root) e = (address : List ℕ) × (n : ℕ) × (leads (node_at file meta) (Some root) address ≡ Some n) × ShowsEntry file meta n e
IsEntry file meta (Inline_page elements) e = Contains elements e

-- A bucket of the tree begins so: with a root page that a way leads to, or in the value of a bucket on a leaf that a way leads to.
abbrev pub IsStart : List ℕ → Meta → Start → Type 0
IsStart file meta (Root_page root) = IsOnWay file meta root 1
IsStart file meta (Inline_page elements) =
    (n : ℕ) × (depth : ℕ) × (e : LeafElement) × IsOnWay file meta n depth × ShowsEntry file meta n e × IsTrue e.is_bucket
    × (start_of e.value ≡ Inline_page elements)

-- what is under a key: a value, or a bucket with its sequence
pub data Item : Type 0 where
  Value : List ℕ → Item
  Bucket : (sequence : ℕ) → Item

-- the bytes of a value; a bucket has none
abbrev pub item_bytes : Item → List ℕ
item_bytes (Value value) = value
item_bytes (Bucket sequence) = []

abbrev pub item_of : LeafElement → Item
item_of e = if e.is_bucket then Bucket (head_sequence e.value) else Value e.value

-- what an entry shows
pub record EntryView : Type 0 where
  pub key : Key
  pub item : Item

abbrev pub entry_view : LeafElement → EntryView
entry_view e = record { key = e.key; item = item_of e }

-- entries by their keys
abbrev pub entry_cmp : LeafElement → LeafElement → Ordering
entry_cmp a b = key_cmp a.key b.key

-- the entries of a bucket, exactly, their keys rising
pub record AreEntries (Entry : Start → LeafElement → Type 0) (bucket : Start) (entries : List LeafElement) : Type 0 where
  pub rises : Rises entry_cmp entries
  pub exact : (e : LeafElement) → Contains entries e ↔ Entry bucket e

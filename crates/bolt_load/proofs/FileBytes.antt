-- What a file lists has bytes of the file in its keys and its values.
use Rattle.std.proofs.{lemmas.Grind.common_steps, lemmas.Bool.both_ways}
use Rattle.std.proofs.Common.{◌≡◌, ℕ, true, List, [], ◌∷◌, sym, subst, arith}
use Rattle.bolt_load.proofs.Words.{ArePartsBytes, Contains, IsFitItem, Item, Member, Path}
use Rattle.bolt_format.specs.Bytes.{IsBytes}
use Rattle.bolt_format.specs.Elements.{IsBucketValue, LeafElement, head_root, inline_bytes, inline_elements, leaf_element, leaf_key_start}
use Rattle.bolt_format.specs.Elements.{leaf_value_start}
use Rattle.bolt_format.specs.{Pages.span_bytes, declared.meta.Meta.Meta}
use Rattle.bolt_format.proofs.Exports.{drop_bytes, range_bytes, bucket_value, flat_inline, in_inline, on_leaf}
use Rattle.bolt_text.specs.JsonReadings.{IsItemOfBytes}
use Rattle.bolt_tree.specs.{Entries.Inline_page, Entries.IsEntry, Entries.Root_page, Entries.Start, Entries.start_of, Listing.IsListing, Paths.Holds}
use Rattle.bolt_layout.specs.Storable.{IsFitMember}
use Rattle.bolt_load.specs.ByteMembers.{AreOfBytes}

record AreBytes (e : LeafElement) : Type 0 where
  key : IsBytes e.key
  value : IsBytes e.value

element_bytes : (bytes : List ℕ) (i : ℕ) → IsBytes bytes → AreBytes (leaf_element bytes i)
element_bytes bytes i are = grind (arith, common_steps, range_bytes, leaf_key_start, leaf_value_start)

-- a bucket begins at a root page, or in a good value of bytes
abbrev IsOfBytes : Start → Type 0
IsOfBytes (Root_page root) = Unit {0}
IsOfBytes (Inline_page elements) = (value : List ℕ) × IsBucketValue value × (head_root value ≡ 0) × (inline_elements value ≡ elements) × IsBytes value

module _ (file : List ℕ) (meta : Meta) (bytes : IsBytes file) where
  record IsGood (e : LeafElement) : Type 0 where
    bytes_are : AreBytes e
    start : e.is_bucket ≡ true → IsOfBytes (start_of e.value)

  start_bytes : (value : List ℕ) → IsBucketValue value → IsBytes value → IsOfBytes (start_of value)
  start_bytes value good are = grind arith

  entry_good : (bucket : Start) (e : LeafElement) → IsOfBytes bucket → IsEntry file meta bucket e → IsGood e
  entry_good (Root_page root) e start (address, n, leading, (view, at, is, has)) =
      let on = on_leaf file meta n view e at is has in
      let are : AreBytes e = subst AreBytes (sym on.same) (element_bytes (span_bytes file meta n) on.i (range_bytes file _ _ bytes)) in
      record { bytes_are = are; start = λ b. start_bytes e.value (bucket_value file meta n view e at is has b) are.value }
  entry_good (Inline_page elements) e (value, good, root, same, value_bytes) has =
      let within = subst (λ (es : List LeafElement). Contains es e) (sym same) has in
      let on = in_inline value e good root within in
      record {
        bytes_are = subst AreBytes (sym on.same) (element_bytes (inline_bytes value) on.i (drop_bytes value 16 value_bytes));
        start = λ b. absurd (both_ways e.is_bucket (flat_inline value e good root within) b);
      }

  held_bytes : (path : Path) (item : Item) (from : Start) → IsOfBytes from → Holds (IsEntry file meta) from path item → IsFitItem item
      → ArePartsBytes path × IsItemOfBytes item
  held_bytes [] item from start held fits = absurd held
  held_bytes (key ∷ []) item from start (e, is, same, of) fits = grind (arith, common_steps, entry_good)
  held_bytes (key ∷ next ∷ path) item from start (e, is, same, b, more) fits =
      let good = entry_good from e start is in
      let later = held_bytes (next ∷ path) item (start_of e.value) (good.start b) more fits in
      ((subst IsBytes same good.bytes_are.key, later.0), later.1)

  pub listing_of_bytes : ((path : Path) (item : Item) → Holds (IsEntry file meta) (Root_page meta.root) path item → IsFitMember path item)
      → (listing : List Member) → IsListing file meta listing → AreOfBytes listing
  listing_of_bytes fits listing lists member has =
      let held = (lists.exact member.0 member.1).0 has in held_bytes member.0 member.1 (Root_page meta.root) tt held (fits member.0 member.1 held).1

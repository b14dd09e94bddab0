-- The elements of good pages have lengths that the format allows, and their values are bytes of the file.
use Rattle.std.proofs.Common.{◌≡◌, ℕ, ◌+◌, ◌-◌, ◌<◌, ◌≤◌, nat_lt, List, length, take, drop, Option, None, Some, sym, ap, subst, arith}
use Rattle.std.proofs.lemmas.Bool.{cases_lt, eqb-false, ltb-false, or_parts}
use Rattle.std.proofs.lemmas.List.{get_or-drop, get_or-take, get_or_past, length-drop, length-take}
use Rattle.std.specs.List.{Contains, slice_range}
use Rattle.bolt_format.specs.{Bytes.IsBytes, ElementLengths.HasFitLengths, ElementLengths.IsKeyLength, ElementLengths.IsValueLength}
use Rattle.bolt_format.specs.Elements.{IsBucketValue, LeafElement, element_at, head_root, inline_bytes, inline_elements, key_length_fault}
use Rattle.bolt_format.specs.Elements.{leaf_element, leaf_end, leaf_flags, leaf_flags_fault, leaf_key_length, leaf_key_start, leaf_value_length}
use Rattle.bolt_format.specs.Elements.{leaf_value_start, leaves_fault, plain_leaf_fault, table_fault, value_length_fault}
use Rattle.bolt_format.specs.{Pages.PageView, Pages.page_at, Pages.span_bytes, declared.meta.Meta.Meta}
use Rattle.bolt_format.specs.declared.header.Kind.TheVariants as kind
use Rattle.bolt_format.proofs.{FaultLemmas.first_of-none, GoodPages.faults_from-none, GoodPages.guard-none, GoodPages.plain-none, PageFacts.in_inline}
use Rattle.bolt_format.proofs.{PageFacts.on_leaf}

key_fits : (n : ℕ) → key_length_fault n ≡ None → IsKeyLength n
key_fits n e = grind (arith, or_parts, guard-none, eqb-false, ltb-false, cases_lt)

value_fits : (n : ℕ) → value_length_fault n ≡ None → IsValueLength n
value_fits n e = let most = ltb-false 0x7FFFFFFE n (guard-none (nat_lt 0x7FFFFFFE n) _ None e).0 in omega (arith, most)

-- a range of bytes that are there
length-range : (bytes : List ℕ) (a b : ℕ) → b ≤ length bytes → length (slice_range bytes a b) ≡ b - a
length-range bytes a b h = grind (arith, length-drop, length-take)

-- element i of good leaves
leaf_fits : (bucket_fault : List ℕ → Option ℕ) (bytes : List ℕ) (count i : ℕ) → leaves_fault bucket_fault bytes count ≡ None → i < count
    → HasFitLengths (leaf_element bytes i)
unfolding leaves_fault plain_leaf_fault
leaf_fits bucket_fault bytes count i e low =
    let both = first_of-none (table_fault bytes count) _ e in
    let (before, one) = faults_from-none _ _ (element_at count) 0 count both.1 i (omega (arith)) (omega (arith, low)) in
    let plain = (first_of-none (plain_leaf_fault bytes before i) _ one).0 in
    let end = plain-none bytes before i plain in
    let flags = first_of-none (leaf_flags_fault (leaf_flags bytes i)) _ plain in
    let key = first_of-none (key_length_fault (leaf_key_length bytes i)) _ flags.1 in
    let value = first_of-none (value_length_fault (leaf_value_length bytes i)) _ key.1 in
    let k = key_fits (leaf_key_length bytes i) key.0 in
    let v = value_fits (leaf_value_length bytes i) value.0 in
    let key_long = length-range bytes (leaf_key_start bytes i) (leaf_value_start bytes i) (omega (arith, end)) in
    let value_long = length-range bytes (leaf_value_start bytes i) (leaf_end bytes i) end in
    record { key = (omega (arith, key_long, k), omega (arith, key_long, k)); value = omega (arith, value_long, v) }

-- an entry of a good leaf, and one of an inline bucket
pub entry_fits : (file : List ℕ) (meta : Meta) (id : ℕ) (view : PageView) (e : LeafElement) → page_at file meta id ≡ Some view → view.kind ≡ kind.Leaf
    → Contains view.leaves e → HasFitLengths e
entry_fits file meta id view e shows leaf has =
    let on = on_leaf file meta id view e shows leaf has in
    subst HasFitLengths (sym on.same) (leaf_fits _ (span_bytes file meta id) _ on.i on.good on.low)

pub inline_fits : (value : List ℕ) (e : LeafElement) → IsBucketValue value → head_root value ≡ 0 → Contains (inline_elements value) e
    → HasFitLengths e
inline_fits value e good root has =
    let on = in_inline value e good root has in
    subst HasFitLengths (sym on.same) (leaf_fits _ (inline_bytes value) _ on.i on.good on.low)

-- Bytes of bytes.
pub drop_bytes : (bytes : List ℕ) (a : ℕ) → IsBytes bytes → IsBytes (drop a bytes)
drop_bytes bytes a h i = subst (λ (x : ℕ). x < 256) (sym (get_or-drop a bytes i 0)) (h (a + i))

take_bytes : (bytes : List ℕ) (n : ℕ) → IsBytes bytes → IsBytes (take n bytes)
take_bytes bytes n h i = grind (arith, cases_lt, get_or-take, get_or_past, length-take)

pub range_bytes : (bytes : List ℕ) (a b : ℕ) → IsBytes bytes → IsBytes (slice_range bytes a b)
range_bytes bytes a b h = take_bytes (drop a bytes) (b - a) (drop_bytes bytes a h)

-- an entry's value has bytes of the file
pub value_bytes : (file : List ℕ) (meta : Meta) (id : ℕ) (view : PageView) (e : LeafElement) → IsBytes file → page_at file meta id ≡ Some view
    → view.kind ≡ kind.Leaf → Contains view.leaves e
    → IsBytes e.value
value_bytes file meta id view e bytes shows leaf has =
    let on = on_leaf file meta id view e shows leaf has in
    let span : List ℕ = span_bytes file meta id in
    subst IsBytes (sym (ap (λ (x : LeafElement). x.value) on.same))
    (range_bytes span (leaf_value_start span on.i) (leaf_end span on.i) (range_bytes file _ _ bytes))

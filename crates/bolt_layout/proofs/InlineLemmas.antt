-- The value of an inline bucket that was written is read back, and passes its tests.
use Rattle.std.proofs.Common.{◌≡◌, ◌∙◌, ℕ, suc, ◌+◌, ◌*◌, ◌^◌, ◌<◌, ◌≤◌, nat_lt, false, List, [], ◌∷◌, ◌++◌, length, map, drop, Option, None, refl}
use Rattle.std.proofs.Common.{sym, ap, arith}
use Rattle.bolt_layout.proofs.Words.{AllByRecursion, append-nil, count_field, eq-eqb, head_root, head_sequence, head_written, header_bytes}
use Rattle.bolt_layout.proofs.Words.{header_written, inline_elements, inline_value, le-ltb, leaf_bytes, leaf_data, leaf_element, leaf_elements}
use Rattle.bolt_layout.proofs.Words.{LeafElement, length-append, length-header_bytes, range_with_len, value_fault}
use Rattle.std.specs.List.{list_any}
use Rattle.bolt_format.specs.Elements.{head_fault, inline_bytes, inline_fault, inline_number, is_bucket_element}
use Rattle.bolt_format.specs.Gaps.{inline_gap, leaf_gap}
use Rattle.bolt_format.specs.declared.header.Kind.TheVariants as kind
use Rattle.bolt_layout.proofs.LeafLemmas.{IsLeafFit, leaves_written}

-- An inline bucket's value. Its elements are values, so they pass with any test of buckets.
pub record IsFlat (e : LeafElement) : Type 0 where
  pub some : 1 ≤ length e.key
  pub key : length e.key ≤ 0x40000000
  pub value : length e.value ≤ 0x7FFFFFFE
  pub flat : e.is_bucket ≡ false

flat_fits : (bucket_fault : List ℕ → Option ℕ) (es : List LeafElement) → AllByRecursion IsFlat es → AllByRecursion (IsLeafFit bucket_fault) es
flat_fits bucket_fault [] h = tt
flat_fits bucket_fault (e ∷ es) h = grind (arith, flat_fits bucket_fault es h.1)

-- none of the elements that are read is a bucket
no_bucket_in : (bytes : List ℕ) (from n : ℕ) (es : List LeafElement) → map (leaf_element bytes) (range_with_len from n) ≡ es
    → AllByRecursion IsFlat es
    → list_any (is_bucket_element bytes) (range_with_len from n) ≡ false
no_bucket_in bytes from (suc n) (x ∷ es) e flat =
    let first : leaf_element bytes from ≡ x = cc in
    let rest : map (leaf_element bytes) (range_with_len (from + 1) n) ≡ es = cc in
    let one : is_bucket_element bytes from ≡ false = ap (λ (y : LeafElement). y.is_bucket) first ∙ flat.0.flat in
    rw (one, no_bucket_in bytes (from + 1) n es rest flat.1) refl
no_bucket_in bytes from n es e flat = grind arith

pub inline_written : (sequence : ℕ) (es : List LeafElement) → sequence < 256 ^ 8 → AllByRecursion IsFlat es → length es < 256 ^ 2
    → 16 * length es + length (leaf_data es) < 0x100000000
    → (value_fault (inline_value sequence es) ≡ None) × (head_root (inline_value sequence es) ≡ 0) × (head_sequence (inline_value sequence es) ≡ sequence)
    × (inline_elements (inline_value sequence es) ≡ es) × (inline_gap (inline_value sequence es) ≡ None)
unfolding value_fault inline_value inline_fault inline_gap leaf_elements
inline_written sequence es sized flat few small =
    let value = inline_value sequence es in
    let bytes = inline_bytes value in
    let head = head_written value (header_bytes 0 kind.Leaf (length es) 0 ++ leaf_bytes es) 0 sequence refl (omega arith) sized in
    let header =
    header_written bytes (leaf_bytes es) 0 kind.Leaf (length es) 0 head.inline (record { id = omega arith; count = few; overflow = omega arith }) in
    let behind : drop 16 bytes ≡ leaf_bytes es ++ [] = header.1 ∙ sym (append-nil (leaf_bytes es)) in
    let l = ap (λ (xs : List ℕ). length xs) head.inline in
    let h = length-header_bytes 0 kind.Leaf (length es) 0 in
    let long : length bytes ≡ 16 + length (leaf_bytes es) = l ∙ simp length-append (omega (arith, h)) in
    let written = leaves_written head_fault bytes es [] behind (omega arith) (flat_fits head_fault es flat) small in
    let elements : leaf_elements bytes (count_field bytes) ≡ es = ap (leaf_elements bytes) header.0.count ∙ written.0 in
    let room : nat_lt (length bytes) 16 ≡ false = le-ltb (length bytes) 16 (omega arith) in
    let passes : (value_fault value ≡ None) × (head_root value ≡ 0) × (head_sequence value ≡ sequence) × (inline_elements value ≡ es) =
    grind (arith, eq-eqb, no_bucket_in) in
    (passes.0, passes.1, passes.2, passes.3, ap (leaf_gap bytes) header.0.count ∙ written.2)

-- its page has no number
pub inline_unnumbered : (sequence : ℕ) (es : List LeafElement) → sequence < 256 ^ 8 → length es < 256 ^ 2
    → inline_number (inline_value sequence es) ≡ 0
unfolding inline_value inline_number
inline_unnumbered sequence es sized few =
    let value = inline_value sequence es in
    let head = head_written value (header_bytes 0 kind.Leaf (length es) 0 ++ leaf_bytes es) 0 sequence refl (omega arith) sized in
    (header_written (inline_bytes value) (leaf_bytes es) 0 kind.Leaf (length es) 0 head.inline
    (record { id = omega arith; count = few; overflow = omega arith })).0.id

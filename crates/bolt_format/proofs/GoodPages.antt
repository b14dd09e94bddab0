-- What follows of the elements of a page that passed its tests.
use Rattle.std.proofs.Common.{◌≡◌, ◌∙◌, ℕ, zero, suc, ◌+◌, ◌-◌, ◌<◌, ◌≤◌, List, Bool, true, false, Option, None, Some, IsSome, is_some, length}
use Rattle.std.proofs.Common.{zero-add, eq-eqb, nat_le, map, arith, ap, refl, sym, subst, cond, nat_lt, slice_get, inl, inr, take, drop}
use Rattle.std.proofs.{lemmas.Bool.cases_lt, lemmas.Bool.ltb-false, lemmas.Bool.not-false, lemmas.Bool.or_parts, lemmas.Bool.Decides.nat_tests}
use Rattle.std.proofs.lemmas.List.FromFn.{get_or-map-range_with_len, get_or-range_with_len, length-map-range_with_len, length-range_with_len}
use Rattle.std.proofs.{lemmas.List.take_rest, lemmas.List.Folds.list_any_at, lemmas.Option.slice_get-get_or}
use Rattle.std.specs.List.{list_any, range_with_len}
use Rattle.bolt_format.specs.Elements.{IsBucketValue, branch_element, branch_elements, branch_end, branch_fault, branch_key_length, branch_key_start}
use Rattle.bolt_format.specs.Elements.{branches_fault, data_fault, element_at, faults_from, page_has_bucket, head_fault, head_root, inline_bytes}
use Rattle.bolt_format.specs.Elements.{inline_fault, first_of, is_bucket_element, key_length_fault, leaf_element, leaf_fault, leaf_elements, leaf_end}
use Rattle.bolt_format.specs.Elements.{leaf_value, leaves_fault, plain_leaf_fault, table_fault, value_fault}
use Rattle.bolt_format.specs.Headers.{count_field}
use Rattle.bolt_format.specs.Pages.{content_fault, fault_as, from_page, page_at, page_fault, shown_as, span_bytes, span_fault}
use Rattle.bolt_format.specs.{Private.Spans.IsSpan, Private.Spans.IsWithin, declared.meta.Meta.Meta, declared.open_page.Span.Span}
use Rattle.bolt_format.specs.{declared.header.Kind.Kind}
use Rattle.bolt_format.proofs.FaultLemmas.{first_of-none}

-- a test that found nothing
pub guard-none : (test : Bool) (fault : ℕ) (next : Option ℕ) → cond test (Some fault) next ≡ None → (test ≡ false) × (next ≡ None)
guard-none true fault next e = absurd (cc)
guard-none false fault next e = (refl, e)

-- none of n elements from i on has a fault
pub faults_from-none : (fault : ℕ → ℕ → Option ℕ) (end : ℕ → ℕ) (free i n : ℕ) → faults_from fault end free i n ≡ None
    → (k : ℕ) → i ≤ k → k < i + n → (before : ℕ) × (fault before k ≡ None)
faults_from-none fault end free i zero e k low high = absurd (omega arith)
faults_from-none fault end free i (suc n) e k low high =
    let both = first_of-none (fault free i) (faults_from fault end (end i) (suc i) n) e in
    elim (cases_lt i k) [
      | inl later ↦ faults_from-none fault end (end i) (suc i) n both.1 k (omega arith) (omega arith)
      | inr here ↦ (free, let same : k ≡ i = omega arith in ap (fault free) same ∙ both.0)
    ]

pub table-none : (bytes : List ℕ) (count : ℕ) → table_fault bytes count ≡ None → element_at count ≤ length bytes
table-none bytes count e = grind (arith, ltb-false, guard-none)

data-none : (bytes : List ℕ) (free start end : ℕ) → data_fault bytes free start end ≡ None → end ≤ length bytes
data-none bytes free start end e = grind (arith, guard-none, ltb-false)

-- element i of a good branch
pub good_branch : (bytes : List ℕ) (count i : ℕ) → branches_fault bytes count ≡ None → i < count
    → (element_at (i + 1) ≤ length bytes) × (branch_end bytes i ≤ length bytes)
unfolding branches_fault branch_fault
good_branch bytes count i e h =
    let both = first_of-none (table_fault bytes count) _ e in
    let table = table-none bytes count both.0 in
    let (before, one) = faults_from-none _ _ (element_at count) 0 count both.1 i (omega arith) (omega arith) in
    (omega (arith, table), data-none bytes before (branch_key_start bytes i) _ (first_of-none (key_length_fault (branch_key_length bytes i)) _ one).1)

-- a plain element ends within the bytes
pub plain-none : (bytes : List ℕ) (free i : ℕ) → plain_leaf_fault bytes free i ≡ None → leaf_end bytes i ≤ length bytes
unfolding plain_leaf_fault
plain-none bytes free i e = grind (arith, first_of-none, data-none)

pub chosen-none : (test : Bool) (fault : Option ℕ) → cond test fault None ≡ None → test ≡ true → fault ≡ None
chosen-none true fault e h = e
chosen-none false fault e h = absurd (cc)

-- element i of a good leaf
pub good_leaf : (bucket_fault : List ℕ → Option ℕ) (bytes : List ℕ) (count i : ℕ) → leaves_fault bucket_fault bytes count ≡ None → i < count
    → (element_at (i + 1) ≤ length bytes) × (leaf_end bytes i ≤ length bytes) × (is_bucket_element bytes i ≡ true → bucket_fault (leaf_value bytes i) ≡ None)
unfolding leaves_fault
good_leaf bucket_fault bytes count i e h =
    let both = first_of-none (table_fault bytes count) _ e in
    let table = table-none bytes count both.0 in
    let (before, one) = faults_from-none _ _ (element_at count) 0 count both.1 i (omega arith) (omega arith) in
    let parts = first_of-none (plain_leaf_fault bytes before i) _ one in
    (omega (arith, table), plain-none bytes before i parts.0, chosen-none (is_bucket_element bytes i) _ parts.1)

-- what is good of a page of a known kind
pub good_content : (k l : Kind) (count : ℕ) (bytes : List ℕ) → content_fault k count bytes ≡ None → k ≡ l → content_fault l count bytes ≡ None
good_content k l count bytes e same = subst (λ (x : Kind). content_fault x count bytes ≡ None) same e

-- element i of a list that is made of a function
pub slice_get-made : {X : Type 0} (f : ℕ → X) (count i : ℕ) → i < count → slice_get (map f (range_with_len 0 count)) i ≡ Some (f i)
slice_get-made f count i h =
    slice_get-get_or (map f (range_with_len 0 count)) i (f i) (let n = length-map-range_with_len f 0 count in omega (arith, n))
    ∙ ap Some (get_or-map-range_with_len f 0 count i i (f i) h (omega arith))

below-of : {m n : ℕ} → nat_le m n ≡ false → n < m
below-of e = grind (arith, nat_tests)

pub good_span : (file : List ℕ) (meta : Meta) (id : ℕ) → span_fault file meta id ≡ None → IsWithin file meta id
unfolding span_fault
good_span file meta id e = grind (arith, guard-none, is_some, ltb-false, not-false, below-of)

-- A page that shows something passed all tests.
shown-passed : (fault : Option ℕ) (kind : Option Kind) (count overflow : ℕ) (bytes : List ℕ) → IsSome (shown_as fault kind count overflow bytes)
    → fault ≡ None
shown-passed None kind count overflow bytes e = refl
shown-passed (Some fault) kind count overflow bytes e = absurd (cc)

pub good_fault : (file : List ℕ) (meta : Meta) (id : ℕ) → IsSome (page_at file meta id) → page_fault file meta id ≡ None
unfolding page_at
good_fault file meta id e = shown-passed (page_fault file meta id) _ _ _ _ e

-- so its span is within the file
pub good_within : (file : List ℕ) (meta : Meta) (id : ℕ) → IsSome (page_at file meta id) → IsWithin file meta id
unfolding page_fault
good_within file meta id e = good_span file meta id (first_of-none (span_fault file meta id) _ (good_fault file meta id e)).0

-- and what its span holds is good
pub good_content_at : (file : List ℕ) (meta : Meta) (id : ℕ) (span : Span) → IsSome (page_at file meta id) → IsSpan file meta id span
    → content_fault span.kind span.count span.bytes.now ≡ None
unfolding page_fault
good_content_at file meta id span e is =
    let fault = (first_of-none (span_fault file meta id) _ (good_fault file meta id e)).1 in
    subst (λ (bytes : List ℕ). content_fault span.kind span.count bytes ≡ None) (sym is.bytes)
    (subst (λ (count : ℕ). content_fault span.kind count (span_bytes file meta id) ≡ None) (sym is.count)
    (subst (λ (kind : Option Kind). fault_as kind (count_field (from_page file meta id)) (span_bytes file meta id) ≡ None) is.kind fault))

-- A bucket's value has its head,
pub good_head : (value : List ℕ) → IsBucketValue value → 16 ≤ length value
unfolding value_fault
good_head value e = let short = ltb-false _ _ (guard-none (nat_lt (length value) 16) _ None (first_of-none (head_fault value) _ e).0).0 in omega (arith, short)

-- and where its root is 0, a good page with no bucket in it.
pub record IsInlinePage (bytes : List ℕ) : Type 0 where
  pub header : 16 ≤ length bytes
  pub good : leaves_fault head_fault bytes (count_field bytes) ≡ None
  pub flat : page_has_bucket bytes (count_field bytes) ≡ false

not-some : (o : Option ℕ) → is_some o ≡ false → o ≡ None
not-some None e = refl
not-some (Some x) e = absurd (cc)

good_inline_fault : (bytes : List ℕ) → inline_fault bytes ≡ None → IsInlinePage bytes
unfolding inline_fault
good_inline_fault bytes e = grind (arith, first_of-none, or_parts, guard-none, is_some, ltb-false, not-some)

pub good_inline : (value bytes : List ℕ) → bytes ≡ inline_bytes value → IsBucketValue value → head_root value ≡ 0 → IsInlinePage bytes
unfolding value_fault
good_inline value bytes same e root = grind (arith, good_inline_fault, chosen-none, first_of-none, eq-eqb)

-- what a bucket's value has after its head, as the code cuts it
abbrev after_head : List ℕ → List ℕ
after_head value = take (length value - 16) (drop 16 value)

pub good_elements : (value : List ℕ) (count : ℕ) → count ≡ count_field (after_head value) → IsBucketValue value → head_root value ≡ 0
    → leaves_fault head_fault (after_head value) count ≡ None
good_elements value count is e root = rw is (good_inline value (after_head value) (take_rest value 16) e root).good

pub flat_elements : (value : List ℕ) (count : ℕ) → count ≡ count_field (after_head value) → IsBucketValue value → head_root value ≡ 0
    → page_has_bucket (after_head value) count ≡ false
flat_elements value count is e root = rw is (good_inline value (after_head value) (take_rest value 16) e root).flat

-- The elements of an inline page: how many they are, and that none is a bucket.
pub length-leaf_elements : (bytes : List ℕ) (count : ℕ) → length (leaf_elements bytes count) ≡ count
unfolding leaf_elements
length-leaf_elements bytes count = length-map-range_with_len (leaf_element bytes) 0 count

none-at : (test : ℕ → Bool) (count i : ℕ) (b : Bool) → list_any test (range_with_len 0 count) ≡ false → i < count → test i ≡ b → b ≡ false
none-at test count i false none h is = refl
none-at test count i true none h is =
    let at = get_or-range_with_len 0 count i 0 h in
    let found = list_any_at test (range_with_len 0 count) i 0 (omega (arith, length-range_with_len 0 count)) (ap test (at ∙ zero-add i) ∙ is) in
    absurd (cc)

pub no_bucket-at : (bytes : List ℕ) (count i : ℕ) → page_has_bucket bytes count ≡ false → i < count → is_bucket_element bytes i ≡ false
no_bucket-at bytes count i none h = none-at (is_bucket_element bytes) count i (is_bucket_element bytes i) none h refl

-- So the tests of all buckets' values find nothing either.
same-faults : (bytes : List ℕ) (free i n : ℕ) → ((k : ℕ) → i ≤ k → k < i + n → is_bucket_element bytes k ≡ false)
    → faults_from (leaf_fault value_fault bytes) (leaf_end bytes) free i n ≡ faults_from (leaf_fault head_fault bytes) (leaf_end bytes) free i n
same-faults bytes free i zero flat = refl
same-faults bytes free i (suc n) flat =
    let here : leaf_fault value_fault bytes free i ≡ leaf_fault head_fault bytes free i = rw (flat i (omega arith) (omega arith)) refl in
    rw here (ap (first_of (leaf_fault head_fault bytes free i))
    (same-faults bytes (leaf_end bytes i) (suc i) n (λ k low high. flat k (omega arith) (omega arith))))

pub flat_leaves : (bytes : List ℕ) (count : ℕ) → leaves_fault head_fault bytes count ≡ None → page_has_bucket bytes count ≡ false
    → leaves_fault value_fault bytes count ≡ None
unfolding leaves_fault
flat_leaves bytes count good flat = grind (arith, same-faults, no_bucket-at)

pub length-branch_elements : (bytes : List ℕ) (count : ℕ) → length (branch_elements bytes count) ≡ count
unfolding branch_elements
length-branch_elements bytes count = length-map-range_with_len (branch_element bytes) 0 count

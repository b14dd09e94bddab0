-- What holds of each page that shows something, for the crates above.
use Rattle.std.proofs.Common.{◌≡◌, ◌∙◌, ◌<◌, ◌≤◌, ◌+◌, ◌*◌, ℕ, List, true, false, Option, Some, None, IsSome, length, map, get_or, arith, ap, refl}
use Rattle.std.proofs.Common.{sym, subst}
use Rattle.std.proofs.lemmas.List.FromFn.{get_or-map-range_with_len, length-map-range_with_len}
use Rattle.std.specs.List.{Contains, range_with_len}
use Rattle.bolt_format.specs.Elements.{IsBucketValue, LeafElement, head_fault, head_root, inline_bytes, inline_elements, leaf_element, leaf_elements}
use Rattle.bolt_format.specs.Elements.{leaves_fault, value_fault}
use Rattle.bolt_format.specs.Headers.{count_field, flags_field, kind_of}
use Rattle.bolt_format.specs.Pages.{PageView, fault_as, from_page, page_at, page_fault, page_overflow, shown_as, span_bytes, span_fault}
use Rattle.bolt_format.specs.{declared.meta.Meta.Meta, declared.header.Kind.Kind}
use Rattle.bolt_format.specs.declared.header.Kind.TheVariants as kind
use Rattle.bolt_format.proofs.{FaultLemmas.first_of-none, GoodPages.good_fault, GoodPages.good_inline, GoodPages.good_leaf, GoodPages.good_within}
use Rattle.bolt_format.proofs.{GoodPages.no_bucket-at, GoodPages.good_span}

-- its number is below the high-water mark
pub below_mark : (file : List ℕ) (meta : Meta) (id : ℕ) → IsSome (page_at file meta id) → id < meta.high_water
below_mark file meta id e = let within = good_within file meta id e in omega (arith, within.below)

-- an element of a list that is made of a function
made_at : (f : ℕ → LeafElement) (count k : ℕ) (e : LeafElement) → k < length (map f (range_with_len 0 count))
    → get_or (map f (range_with_len 0 count)) k e ≡ e → (k < count) × (e ≡ f k)
made_at f count k e h at = grind (arith, length-map-range_with_len, get_or-map-range_with_len)

element_of : (bytes : List ℕ) (count : ℕ) (e : LeafElement) → Contains (leaf_elements bytes count) e
    → (i : ℕ) × (i < count) × (e ≡ leaf_element bytes i)
unfolding leaf_elements
element_of bytes count e (k, h, at) = let (low, same) = made_at (leaf_element bytes) count k e h at in (k, low, same)

-- a leaf that shows something has good leaves
leaves_good : (fault : Option ℕ) (k : Option Kind) (count overflow : ℕ) (bytes : List ℕ) (view : PageView)
    → shown_as fault k count overflow bytes ≡ Some view → view.kind ≡ kind.Leaf
    → fault_as k count bytes ≡ None → (view.leaves ≡ leaf_elements bytes count) × (leaves_fault value_fault bytes count ≡ None)
leaves_good (Some fault) k count overflow bytes view e leaf good = absurd (let c : None ≡ Some view = e in cc)
leaves_good None None count overflow bytes view e leaf good = absurd (let c : None ≡ Some view = e in cc)
leaves_good None (Some kind.Leaf) count overflow bytes view e leaf good = grind arith
leaves_good None (Some kind.Branch) count overflow bytes view e leaf good = grind arith
leaves_good None (Some kind.Meta) count overflow bytes view e leaf good = grind arith
leaves_good None (Some kind.Freelist) count overflow bytes view e leaf good = grind arith

is_some_of : (o : Option PageView) (view : PageView) → o ≡ Some view → IsSome o
is_some_of o view e = rw e refl

-- a span that passed its tests lies below the mark and in the file
pub span_within : (file : List ℕ) (meta : Meta) (id : ℕ) → span_fault file meta id ≡ None
    → (id + page_overflow file meta id < meta.high_water) × ((id + page_overflow file meta id + 1) * meta.page_size ≤ length file)
span_within file meta id passed = omega (arith, good_span file meta id passed)

pub span_passes : (file : List ℕ) (meta : Meta) (id : ℕ) (view : PageView) → page_at file meta id ≡ Some view → span_fault file meta id ≡ None
unfolding page_fault
span_passes file meta id view shows = (first_of-none (span_fault file meta id) _ (good_fault file meta id (is_some_of (page_at file meta id) view shows))).0

-- an element on it is one of good elements
pub record IsOnLeaf (file : List ℕ) (meta : Meta) (id : ℕ) (e : LeafElement) : Type 0 where
  pub i : ℕ
  pub low : i < count_field (from_page file meta id)
  pub same : e ≡ leaf_element (span_bytes file meta id) i
  pub good : leaves_fault value_fault (span_bytes file meta id) (count_field (from_page file meta id)) ≡ None

pub on_leaf : (file : List ℕ) (meta : Meta) (id : ℕ) (view : PageView) (e : LeafElement) → page_at file meta id ≡ Some view → view.kind ≡ kind.Leaf
    → Contains view.leaves e
    → IsOnLeaf file meta id e
unfolding page_at page_fault
on_leaf file meta id view e shows leaf has =
    let none = good_fault file meta id (is_some_of (page_at file meta id) view shows) in
    let content = (first_of-none (span_fault file meta id) _ none).1 in
    let bytes : List ℕ = span_bytes file meta id in
    let count : ℕ = count_field (from_page file meta id) in
    let (leaves, good) =
    leaves_good (page_fault file meta id) (kind_of (flags_field (from_page file meta id))) count (page_overflow file meta id) bytes view shows leaf content in
    let (i, low, same) = element_of bytes count e (subst (λ (ls : List LeafElement). Contains ls e) leaves has) in
    record { i = i; low = low; same = same; good = good }

-- a bucket on it has a good value
pub bucket_value : (file : List ℕ) (meta : Meta) (id : ℕ) (view : PageView) (e : LeafElement) → page_at file meta id ≡ Some view
    → view.kind ≡ kind.Leaf → Contains view.leaves e
    → e.is_bucket ≡ true → IsBucketValue e.value
bucket_value file meta id view e shows leaf has bucket =
    let on = on_leaf file meta id view e shows leaf has in
    subst (λ (v : List ℕ). value_fault v ≡ None) (sym (ap (λ (x : LeafElement). x.value) on.same))
    ((good_leaf value_fault (span_bytes file meta id) (count_field (from_page file meta id)) on.i on.good on.low).2
    (sym (ap (λ (x : LeafElement). x.is_bucket) on.same) ∙ bucket))

-- an element of an inline bucket is one of good elements, and no bucket
pub record IsInInline (value : List ℕ) (e : LeafElement) : Type 0 where
  pub i : ℕ
  pub low : i < count_field (inline_bytes value)
  pub same : e ≡ leaf_element (inline_bytes value) i
  pub good : leaves_fault head_fault (inline_bytes value) (count_field (inline_bytes value)) ≡ None
  pub flat : e.is_bucket ≡ false

pub in_inline : (value : List ℕ) (e : LeafElement) → IsBucketValue value → head_root value ≡ 0 → Contains (inline_elements value) e
    → IsInInline value e
in_inline value e good root has =
    let page = good_inline value (inline_bytes value) refl good root in
    let (i, low, same) = element_of (inline_bytes value) (count_field (inline_bytes value)) e has in
    let flat = ap (λ (x : LeafElement). x.is_bucket) same ∙ no_bucket-at (inline_bytes value) (count_field (inline_bytes value)) i page.flat low in
    record { i = i; low = low; same = same; good = page.good; flat = flat }

pub flat_inline : (value : List ℕ) (e : LeafElement) → IsBucketValue value → head_root value ≡ 0 → Contains (inline_elements value) e
    → e.is_bucket ≡ false
flat_inline value e good root has = (in_inline value e good root has).flat

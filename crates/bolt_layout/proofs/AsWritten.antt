-- A page without a gap begins with what is written for its elements.
use Rattle.std.proofs.Common.{◌≡◌, ◌∙◌, ℕ, ◌+◌, ◌*◌, ◌≤◌, ◌==◌, true, List, [], ◌∷◌, ◌++◌, length, drop, take, Option, None, Some}
use Rattle.std.proofs.Common.{not, nat_lt, refl, sym, ap, subst, arith, append_assoc}
use Rattle.std.proofs.lemmas.Bool.{eq-eqb, eqb-true, ltb-false, not-false, or_parts}
use Rattle.std.proofs.lemmas.List.{length-drop, take-append-drop, take-take, take_at}
use Rattle.std.proofs.lemmas.List.FromFn.{length-map-range_with_len}
use Rattle.std.proofs.lemmas.Option.{same_Some}
use Rattle.std.specs.List.{Contains}
use Rattle.bolt_format.proofs.Exports.{chosen-none, guard-none}
use Rattle.bolt_lemmas.proofs.Exports.{has_at, has_from_contains, is_absent}
use Rattle.bolt_check.proofs.Exports.{inline_reached, node_is}
use Rattle.bolt_check.specs.Nodes.{node_at}
use Rattle.bolt_check.specs.{OnWays.IsOnWay, Sound.HasSoundTrees, Ways.At_page, Ways.PageSpot, Ways.reached}
use Rattle.bolt_format.proofs.Exports.{bucket_value, drop_bytes, first_of-none, length-header_bytes, range_bytes, size_bounds, value_bytes}
use Rattle.bolt_format.specs.{Bytes.IsBytes, Encoded.header_bytes, Metas.IsPageSize, declared.header.Kind.Kind, declared.meta.Meta.Meta}
use Rattle.bolt_format.specs.Elements.{IsBucketValue, LeafElement, head_fault, head_root, inline_bytes, inline_elements, inline_fault, inline_number}
use Rattle.bolt_format.specs.Elements.{leaf_element, leaf_elements, leaves_fault, value_fault}
use Rattle.bolt_format.specs.{Gaps.gap_of_kind, Gaps.inline_gap, Gaps.page_gap, Headers.count_field, Headers.flags_field, Headers.id_field}
use Rattle.bolt_format.specs.{Headers.kind_of, Headers.overflow_field}
use Rattle.bolt_format.specs.Pages.{PageView, fault_as, from_page, page_at, page_fault, page_overflow, shown_as, span_bytes, span_fault, view_of}
use Rattle.bolt_format.specs.declared.header.Kind.TheVariants as kind
use Rattle.bolt_layout.proofs.{ElementsThere.branches_there, ElementsThere.leaves_there, NumbersThere.header_there}
use Rattle.bolt_layout.specs.AsWritten.{BeginsAsWritten, IsAsWritten, IsInlineAsWritten, IsPageAsWritten}
use Rattle.bolt_layout.specs.{NoGaps.HasNoGaps, PageBytes.content_bytes, PageBytes.leaf_bytes}

-- ---- a header, and what is written after it

after_header : (bytes header content rest : List ℕ) → bytes ≡ header ++ drop 16 bytes → drop 16 bytes ≡ content ++ rest
    → bytes ≡ (header ++ content) ++ rest
after_header bytes header content rest head behind = head ∙ ap (λ (xs : List ℕ). header ++ xs) behind ∙ sym (append_assoc header content rest)

-- what a page shows that has this header
shown_there : (id : ℕ) (fault : Option ℕ) (k : Option Kind) (count overflow : ℕ) (bytes : List ℕ) (view : PageView) → IsBytes bytes
    → shown_as fault k count overflow bytes ≡ Some view → fault_as k count bytes ≡ None → gap_of_kind k count bytes ≡ None
    → ((is : Kind) → k ≡ Some is → bytes ≡ header_bytes id is count overflow ++ drop 16 bytes)
    → BeginsAsWritten bytes (content_bytes view.kind id view)
shown_there id (Some fault) k count overflow bytes view are shows good none header = absurd (let c : None ≡ Some view = shows in cc)
shown_there id None None count overflow bytes view are shows good none header = absurd (let c : None ≡ Some view = shows in cc)
shown_there id None (Some kind.Leaf) count overflow bytes view are shows good none header =
    let same : view_of kind.Leaf count overflow bytes ≡ view = same_Some _ view shows in
    let (rest, behind) = leaves_there value_fault bytes count are good none in
    subst (λ (v : PageView). BeginsAsWritten bytes (content_bytes v.kind id v)) same
    (rest, after_header bytes (header_bytes id kind.Leaf count overflow) (leaf_bytes (leaf_elements bytes count)) rest (header kind.Leaf refl) behind)
shown_there id None (Some kind.Branch) count overflow bytes view are shows good none header =
    let same : view_of kind.Branch count overflow bytes ≡ view = same_Some _ view shows in
    let (rest, behind) = branches_there bytes count are good none in
    subst (λ (v : PageView). BeginsAsWritten bytes (content_bytes v.kind id v)) same
    (rest, after_header bytes (header_bytes id kind.Branch count overflow) _ rest (header kind.Branch refl) behind)
shown_there id None (Some kind.Meta) count overflow bytes view are shows good none header =
    let same : view_of kind.Meta count overflow bytes ≡ view = same_Some _ view shows in
    subst (λ (v : PageView). BeginsAsWritten bytes (content_bytes v.kind id v)) same (drop 16 bytes, header kind.Meta refl)
shown_there id None (Some kind.Freelist) count overflow bytes view are shows good none header =
    let same : view_of kind.Freelist count overflow bytes ≡ view = same_Some _ view shows in
    subst (λ (v : PageView). BeginsAsWritten bytes (content_bytes v.kind id v)) same (drop 16 bytes, header kind.Freelist refl)

-- ---- a page of a file

-- its header is there, and has its number
pub record HasHeader (file : List ℕ) (meta : Meta) (id : ℕ) : Type 0 where
  pub number : id_field (from_page file meta id) ≡ id
  pub room : id * meta.page_size + 16 ≤ length file

has_header : (file : List ℕ) (meta : Meta) (id : ℕ) → span_fault file meta id ≡ None → HasHeader file meta id
unfolding span_fault
has_header file meta id e =
    let below = guard-none _ _ _ e in
    let room = guard-none _ _ _ below.1 in
    let number = guard-none _ _ _ room.1 in
    record { number = eqb-true _ _ (not-false _ number.0); room = ltb-false (length file) (id * meta.page_size + 16) room.0 }

-- a list that begins with 16 bytes, and is cut after them
cut_after : (all header : List ℕ) (n : ℕ) → all ≡ header ++ drop 16 all → length header ≡ 16 → 16 ≤ n → take n all ≡ header ++ drop 16 (take n all)
cut_after all header n is long room =
    let first : take 16 (take n all) ≡ header = take-take 16 n all room ∙ ap (take 16) is ∙ take_at header (drop 16 all) 16 long in
    sym (take-append-drop 16 (take n all)) ∙ ap (λ (xs : List ℕ). xs ++ drop 16 (take n all)) first

-- the span of a page has its header
span_header : (file : List ℕ) (meta : Meta) (id : ℕ) (is : Kind) → IsBytes file → 16 ≤ meta.page_size → HasHeader file meta id
    → kind_of (flags_field (from_page file meta id)) ≡ Some is
    → span_bytes file meta id ≡ header_bytes id is (count_field (from_page file meta id)) (page_overflow file meta id) ++ drop 16 (span_bytes file meta id)
span_header file meta id is are room has known =
    let from : List ℕ = from_page file meta id in
    let left = length-drop (id * meta.page_size) file in
    let in_file = has.room in
    let head = header_there from is (drop_bytes file (id * meta.page_size) are) (omega (arith, left, in_file)) known in
    let numbered : from ≡ header_bytes id is (count_field from) (overflow_field from) ++ drop 16 from =
    head ∙ ap (λ (n : ℕ). header_bytes n is (count_field from) (overflow_field from) ++ drop 16 from) has.number in
    cut_after from (header_bytes id is (count_field from) (overflow_field from)) _ numbered (length-header_bytes id is _ _) (omega arith)

passed : (fault : Option ℕ) (k : Option Kind) (count overflow : ℕ) (bytes : List ℕ) (view : PageView)
    → shown_as fault k count overflow bytes ≡ Some view → fault ≡ None
passed None k count overflow bytes view e = refl
passed (Some fault) k count overflow bytes view e = absurd (let c : None ≡ Some view = e in cc)

page_there : (file : List ℕ) (meta : Meta) (id : ℕ) → IsBytes file → 16 ≤ meta.page_size → page_gap file meta id ≡ None → IsPageAsWritten file meta id
unfolding page_at page_fault page_gap
page_there file meta id are room none view shows =
    let from : List ℕ = from_page file meta id in
    let bytes : List ℕ = span_bytes file meta id in
    let k = kind_of (flags_field from) in
    let fault = passed (page_fault file meta id) k (count_field from) (page_overflow file meta id) bytes view shows in
    let both = first_of-none (span_fault file meta id) _ fault in
    shown_there id (page_fault file meta id) k (count_field from) (page_overflow file meta id) bytes view (range_bytes file _ _ are) shows both.1 none
    (λ is known. span_header file meta id is are room (has_header file meta id both.0) known)

size_room : (n : ℕ) → IsPageSize n → 16 ≤ n
size_room n size = let bounds = size_bounds n size in omega (arith, bounds.0)

pub page_written : (file : List ℕ) (meta : Meta) (id : ℕ) → IsBytes file → IsPageSize meta.page_size → page_gap file meta id ≡ None
    → IsPageAsWritten file meta id
page_written file meta id are size none = page_there file meta id are (size_room meta.page_size size) none

-- ---- the page of an inline bucket

-- what is known of one that passes its tests
pub record IsInline (bytes : List ℕ) : Type 0 where
  pub room : 16 ≤ length bytes
  pub leaf : flags_field bytes ≡ 2
  pub good : leaves_fault head_fault bytes (count_field bytes) ≡ None

inline_passes : (bytes : List ℕ) → inline_fault bytes ≡ None → IsInline bytes
unfolding inline_fault
inline_passes bytes e =
    let page = guard-none _ _ None (first_of-none _ _ e).0 in
    let (short, others) = or_parts (nat_lt (length bytes) 16) _ page.0 in
    let (flags, bad) = or_parts (not (flags_field bytes == 2)) _ others in
    record { room = ltb-false (length bytes) 16 short; leaf = eqb-true (flags_field bytes) 2 (not-false _ flags); good = is_absent _ bad }

value_passes : (value : List ℕ) → IsBucketValue value → head_root value ≡ 0 → IsInline (inline_bytes value)
unfolding value_fault
value_passes value good root =
    inline_passes (inline_bytes value) (chosen-none (head_root value == 0) _ (first_of-none _ _ good).1 (eq-eqb (head_root value) 0 root))

length-elements : (bytes : List ℕ) (count : ℕ) → length (leaf_elements bytes count) ≡ count
unfolding leaf_elements
length-elements bytes count = length-map-range_with_len (leaf_element bytes) 0 count

pub inline_there : (value : List ℕ) → IsBytes value → IsBucketValue value → head_root value ≡ 0 → inline_gap value ≡ None → IsInlineAsWritten value
unfolding inline_gap inline_number
inline_there value are good root none =
    let bytes : List ℕ = inline_bytes value in
    let inner : IsBytes bytes = drop_bytes value 16 are in
    let page = value_passes value good root in
    let (rest, behind) = leaves_there head_fault bytes (count_field bytes) inner page.good none in
    let known : kind_of (flags_field bytes) ≡ Some kind.Leaf = ap kind_of page.leaf in
    let head = header_there bytes kind.Leaf inner page.room known in
    let many = length-elements bytes (count_field bytes) in
    (rest, rw many (after_header bytes _ (leaf_bytes (inline_elements value)) rest head behind))

-- ---- all pages that ways lead to

-- a page with such elements is a leaf
leaf_shown : (fault : Option ℕ) (k : Option Kind) (count overflow : ℕ) (bytes : List ℕ) (view : PageView) (e : LeafElement)
    → shown_as fault k count overflow bytes ≡ Some view
    → Contains view.leaves e → view.kind ≡ kind.Leaf
leaf_shown (Some fault) k count overflow bytes view e shows has = absurd (let c : None ≡ Some view = shows in cc)
leaf_shown None None count overflow bytes view e shows has = absurd (let c : None ≡ Some view = shows in cc)
leaf_shown None (Some kind.Leaf) count overflow bytes view e shows has =
    ap (λ (v : PageView). v.kind) (sym (same_Some (view_of kind.Leaf count overflow bytes) view shows))
leaf_shown None (Some k) count overflow bytes view e shows has =
    let none : view.leaves ≡ [] = ap (λ (v : PageView). v.leaves) (sym (same_Some _ view shows)) in
    let (i, within, is) = subst (λ (ls : List LeafElement). Contains ls e) none has in absurd (omega (arith, within))

is_leaf : (file : List ℕ) (meta : Meta) (id : ℕ) (view : PageView) (e : LeafElement) → page_at file meta id ≡ Some view → Contains view.leaves e
    → view.kind ≡ kind.Leaf
unfolding page_at
is_leaf file meta id view e shows has = leaf_shown _ _ _ _ _ view e shows has

module _ (file : List ℕ) (meta : Meta) (are : IsBytes file) (size : IsPageSize meta.page_size) (trees : HasSoundTrees file meta)
    (none : HasNoGaps file meta) where
  abbrev on_way : (way : List ℕ) (s : PageSpot) → reached (node_at file meta) meta.root way ≡ Some (At_page s) → IsOnWay file meta s.number s.depth
  on_way way s led = record { way = way; spot = s; led = led; is = refl; deep = refl }

  -- an inline bucket on a leaf
  inline_gap_none : (way : List ℕ) (s : PageSpot) (view : PageView) (e : LeafElement) → reached (node_at file meta) meta.root way ≡ Some (At_page s)
      → page_at file meta s.number ≡ Some view
      → view.kind ≡ kind.Leaf → Contains view.leaves e → e.is_bucket ≡ true → head_root e.value ≡ 0 → inline_gap e.value ≡ None
  inline_gap_none way s view e led at leaf has bucket root =
      let (i, there) = has_at view.leaves e (has_from_contains view.leaves e has) in
      let node = node_is file meta s.number view kind.Leaf at leaf in
      none (way ++ i ∷ []) _ (inline_reached file meta s.number s.depth i view e (on_way way s led) node there bucket (eq-eqb (head_root e.value) 0 root))

  pub all_there : IsAsWritten file meta
  all_there = record {
    pages = λ way s led. page_written file meta s.number are size (none way (At_page s) led);
    inline = λ way s view e led at has bucket root.
        let leaf = is_leaf file meta s.number view e at has in
        inline_there e.value (value_bytes file meta s.number view e are at leaf has) (bucket_value file meta s.number view e at leaf has bucket) root
        (inline_gap_none way s view e led at leaf has bucket root);
  }

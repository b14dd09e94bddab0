-- A page that was written at its place in a file shows what was written.
use Rattle.std.proofs.Common.{◌≡◌, ◌∙◌, ℕ, ◌+◌, ◌-◌, ◌*◌, ◌^◌, ◌<◌, ◌≤◌, ◌==◌, is_some, nat_lt, nat_le, true, false, List, [], ◌++◌, length, drop}
use Rattle.std.proofs.Common.{replicate, Option, Some, None, refl, sym, ap, arith, append_assoc}
use Rattle.std.proofs.{lemmas.Bool.lt-leb, lemmas.List.drop_at}
use Rattle.bolt_layout.proofs.Words.{add-mul, AllByRecursion, append-nil, branch_bytes, branch_data, branch_headers, branch_page_view, BranchElement}
use Rattle.bolt_layout.proofs.Words.{count_field, eq-eqb, first_of-both, flags_field, freelist_page, header_bytes, header_written, IsHeaderFit, Kind}
use Rattle.bolt_layout.proofs.Words.{le-ltb, leaf_bytes, leaf_data, leaf_headers, leaf_page_view, LeafElement, length-append, length-header_bytes}
use Rattle.bolt_layout.proofs.Words.{length-replicate, Meta, page_at, page_bytes, page_fault, PageView, part_read, part_within, span_fault}
use Rattle.bolt_layout.proofs.Words.{value_fault}
use Rattle.bolt_layout.proofs.LeafLemmas.{IsLeafFit, leaves_written, length-leaf_headers}
use Rattle.bolt_layout.proofs.BranchLemmas.{IsBranchFit, branches_written, length-branch_headers}
use Rattle.bolt_format.specs.Gaps.{gap_of_kind, page_gap}
use Rattle.bolt_format.specs.{Headers.id_field, Headers.kind_of, Freelists.freelist_fault, Freelists.free_ids_at, Freelists.ids_fault}
use Rattle.bolt_format.specs.Pages.{content_fault, from_page, page_overflow, span_bytes, view_of}
use Rattle.bolt_format.specs.declared.header.Kind.TheVariants as kind
use Rattle.bolt_layout.specs.PageBytes.{filled}

pub length-filled : (n : ℕ) (bytes : List ℕ) → length bytes ≤ n → length (filled n bytes) ≡ n
length-filled n bytes h = let l = length-replicate {A = ℕ} (n - length bytes) 0 in length-append bytes (replicate (n - length bytes) 0) ∙ omega (arith, l)

-- what a page's span shows before its elements are looked at
pub record IsSpanRead (file : List ℕ) (meta : Meta) (id : ℕ) (is : Kind) (n more : ℕ) (content rest : List ℕ) : Type 0 where
  pub fault : span_fault file meta id ≡ None
  pub kind : kind_of (flags_field (from_page file meta id)) ≡ Some is
  pub count : count_field (from_page file meta id) ≡ n
  pub overflow : page_overflow file meta id ≡ more
  pub behind : drop 16 (span_bytes file meta id) ≡ content ++ rest
  pub long : length (span_bytes file meta id) ≡ (1 + more) * meta.page_size
  pub end : (id + 1 + more) * meta.page_size ≤ length file

pub span_written : (file : List ℕ) (meta : Meta) (id : ℕ) (is : Kind) (n more : ℕ) (content rest : List ℕ)
    → drop (id * meta.page_size) file ≡ filled ((1 + more) * meta.page_size) (header_bytes id is n more ++ content) ++ rest
    → 16 + length content ≤ (1 + more) * meta.page_size → IsHeaderFit id n more
    → id + more < meta.high_water → id * meta.page_size ≤ length file
    → IsSpanRead file meta id is n more content (replicate ((1 + more) * meta.page_size - length (header_bytes id is n more ++ content)) 0)
unfolding span_fault
span_written file meta id is n more content rest h room fit below within =
    let size : ℕ = meta.page_size in
    let zeros : List ℕ = replicate ((1 + more) * size - length (header_bytes id is n more ++ content)) 0 in
    let written : List ℕ = filled ((1 + more) * size) (header_bytes id is n more ++ content) in
    let l = length-header_bytes id is n more in
    let content_long : length (header_bytes id is n more ++ content) ≡ 16 + length content =
    length-append (header_bytes id is n more) content ∙ omega (arith, l) in
    let long : length written ≡ (1 + more) * size = length-filled ((1 + more) * size) (header_bytes id is n more ++ content) (omega arith) in
    let here : from_page file meta id ≡ header_bytes id is n more ++ (content ++ (zeros ++ rest)) =
    h ∙ (append_assoc (header_bytes id is n more ++ content) zeros rest ∙ append_assoc (header_bytes id is n more) content (zeros ++ rest)) in
    let header = (header_written (from_page file meta id) (content ++ (zeros ++ rest)) id is n more here fit).0 in
    let end_is : (id + 1 + more) * size ≡ id * size + (1 + more) * size =
    (let a : id + 1 + more ≡ id + (1 + more) = omega arith in ap (λ (x : ℕ). x * size) a) ∙ add-mul id (1 + more) size in
    let same : page_overflow file meta id ≡ more = header.overflow in
    let end_at : (id + 1 + page_overflow file meta id) * size ≡ id * size + (1 + more) * size = ap (λ (x : ℕ). (id + 1 + x) * size) same ∙ end_is in
    let within_end = part_within file written rest (id * size) h within in
    let span : span_bytes file meta id ≡ written =
    part_read file written rest (id * size) ((id + 1 + page_overflow file meta id) * size - id * size) h (omega arith) in
    let t1 : nat_le meta.high_water id ≡ false = lt-leb meta.high_water id (omega arith) in
    let t2 : nat_lt (length file) (id * size + 16) ≡ false = le-ltb (length file) (id * size + 16) (omega arith) in
    let t3 : (id_field (from_page file meta id) == id) ≡ true = eq-eqb (id_field (from_page file meta id)) id header.id in
    let kind_is = header.kind in
    let t4 : is_some (kind_of (flags_field (from_page file meta id))) ≡ true = ap (λ (o : Option Kind). is_some o) kind_is in
    let t5 : nat_le meta.high_water (id + page_overflow file meta id) ≡ false = lt-leb meta.high_water (id + page_overflow file meta id) (omega arith) in
    let t6 : nat_lt (length file) ((id + 1 + page_overflow file meta id) * size) ≡ false =
    le-ltb (length file) ((id + 1 + page_overflow file meta id) * size) (omega arith) in
    record {
      fault = rw (t1, t2, t3, t4, t5, t6) refl;
      kind = kind_is;
      count = header.count;
      overflow = same;
      behind =
          ap (λ (xs : List ℕ). drop 16 xs) (span ∙ append_assoc (header_bytes id is n more) content zeros)
          ∙ drop_at (header_bytes id is n more) (content ++ zeros) 16 l;
      long = ap (λ (xs : List ℕ). length xs) span ∙ long;
      end = omega arith;
    }

-- a page of a file passes its tests, shows this and has no gap
pub record IsShown (file : List ℕ) (meta : Meta) (id : ℕ) (view : PageView) : Type 0 where
  pub passes : page_fault file meta id ≡ None
  pub shows : page_at file meta id ≡ Some view
  pub whole : page_gap file meta id ≡ None

-- with the elements of its kind
shown_with : (file : List ℕ) (meta : Meta) (id n more : ℕ) (is : Kind) (content rest : List ℕ) (view : PageView)
    → IsSpanRead file meta id is n more content rest
    → content_fault is n (span_bytes file meta id) ≡ None → view_of is n more (span_bytes file meta id) ≡ view
    → gap_of_kind (Some is) n (span_bytes file meta id) ≡ None → IsShown file meta id view
unfolding page_fault page_at page_gap
shown_with file meta id n more is content rest view span good same no_gap =
    record { passes = grind arith; shows = grind arith; whole = rw (span.kind, span.count) no_gap }

-- what a page needs to be written: its number and its overflow have room, and it stands in the file and below the mark
pub record IsPlaceFit (file : List ℕ) (meta : Meta) (id more : ℕ) : Type 0 where
  pub number : id < 256 ^ 8
  pub further : more < 256 ^ 4
  pub below : id + more < meta.high_water
  pub within : id * meta.page_size ≤ length file

pub length-leaf_bytes : (es : List LeafElement) → length (leaf_bytes es) ≡ 16 * length es + length (leaf_data es)
unfolding leaf_bytes
length-leaf_bytes es = let h = length-leaf_headers 0 es in length-append (leaf_headers 0 es) (leaf_data es) ∙ omega (arith, h)

pub length-branch_bytes : (es : List BranchElement) → length (branch_bytes es) ≡ 16 * length es + length (branch_data es)
unfolding branch_bytes
length-branch_bytes es = let h = length-branch_headers 0 es in length-append (branch_headers 0 es) (branch_data es) ∙ omega (arith, h)

abbrev leaf_view_of : ℕ → List LeafElement → List LeafElement → PageView
leaf_view_of more es leaves = record { kind = kind.Leaf; count = length es; overflow = more; branches = []; leaves = leaves }

abbrev branch_view_of : ℕ → List BranchElement → List BranchElement → PageView
branch_view_of more es branches = record { kind = kind.Branch; count = length es; overflow = more; branches = branches; leaves = [] }

-- a leaf page
pub leaf_shown : (file : List ℕ) (meta : Meta) (id more : ℕ) (es : List LeafElement) (rest : List ℕ)
    → drop (id * meta.page_size) file ≡ page_bytes meta.page_size id (leaf_page_view more es) ++ rest
    → IsPlaceFit file meta id more → length es < 256 ^ 2
    → 16 + (16 * length es + length (leaf_data es)) ≤ (1 + more) * meta.page_size → 16 * length es + length (leaf_data es) < 0x100000000
    → AllByRecursion (IsLeafFit value_fault) es → IsShown file meta id (leaf_page_view more es)
unfolding page_bytes
leaf_shown file meta id more es rest h place few room small fits =
    let l = length-leaf_bytes es in
    let fit : IsHeaderFit id (length es) more = record { id = place.number; count = few; overflow = place.further } in
    let span = span_written file meta id kind.Leaf (length es) more (leaf_bytes es) rest h (omega arith) fit place.below place.within in
    let written = leaves_written value_fault (span_bytes file meta id) es _ span.behind (omega arith) fits small in
    shown_with file meta id (length es) more kind.Leaf (leaf_bytes es) _ (leaf_page_view more es) span written.1 (ap (leaf_view_of more es) written.0) written.2

-- a branch page
pub branch_shown : (file : List ℕ) (meta : Meta) (id more : ℕ) (es : List BranchElement) (rest : List ℕ)
    → drop (id * meta.page_size) file ≡ page_bytes meta.page_size id (branch_page_view more es) ++ rest
    → IsPlaceFit file meta id more → length es < 256 ^ 2
    → 16 + (16 * length es + length (branch_data es)) ≤ (1 + more) * meta.page_size → 16 * length es + length (branch_data es) < 0x100000000
    → AllByRecursion IsBranchFit es → IsShown file meta id (branch_page_view more es)
unfolding page_bytes
branch_shown file meta id more es rest h place few room small fits =
    let l = length-branch_bytes es in
    let fit : IsHeaderFit id (length es) more = record { id = place.number; count = few; overflow = place.further } in
    let span = span_written file meta id kind.Branch (length es) more (branch_bytes es) rest h (omega arith) fit place.below place.within in
    let written = branches_written (span_bytes file meta id) es _ span.behind (omega arith) fits small in
    shown_with file meta id (length es) more kind.Branch (branch_bytes es) _ (branch_page_view more es) span written.1
    (ap (branch_view_of more es) written.0) written.2

-- the freelist without ids
pub record IsEmptyFreelist (file : List ℕ) (meta : Meta) (id : ℕ) : Type 0 where
  pub good : freelist_fault file meta id ≡ None
  pub alone : page_overflow file meta id ≡ 0
  pub empty : free_ids_at file meta id ≡ []

pub freelist_shown : (file : List ℕ) (meta : Meta) (id : ℕ) (rest : List ℕ)
    → drop (id * meta.page_size) file ≡ freelist_page meta.page_size id ++ rest
    → IsPlaceFit file meta id 0 → 16 ≤ meta.page_size → IsEmptyFreelist file meta id
unfolding freelist_page freelist_fault ids_fault free_ids_at
freelist_shown file meta id rest h place room =
    let size : ℕ = meta.page_size in
    let one : (1 + 0) * size ≡ size = omega arith in
    let written : drop (id * size) file ≡ filled ((1 + 0) * size) (header_bytes id kind.Freelist 0 0 ++ []) ++ rest =
    h ∙ ap (λ (xs : List ℕ). filled size xs ++ rest) (sym (append-nil (header_bytes id kind.Freelist 0 0)))
    ∙ ap (λ (n : ℕ). filled n (header_bytes id kind.Freelist 0 0 ++ []) ++ rest) (sym one) in
    let fit : IsHeaderFit id 0 0 = record { id = place.number; count = omega arith; overflow = omega arith } in
    let span = span_written file meta id kind.Freelist 0 0 [] rest written (omega arith) fit place.below place.within in
    grind (arith, first_of-both)

-- Elements without a gap are on their page as they are written: first their headers, and then their data.
use Rattle.std.proofs.Common.{◌≡◌, ◌∙◌, ◌⊎◌, ℕ, zero, suc, ◌+◌, ◌≤◌, ◌==◌, ◌||◌, Bool, true, false, cond, List, ◌∷◌, ◌++◌, length, map, drop, Option}
use Rattle.std.proofs.Common.{None, Some, inl, inr, refl, sym, ap, subst, arith, append_assoc, add-one}
use Rattle.std.proofs.lemmas.Bool.{eqb-true, ltb-false, not-false}
use Rattle.std.proofs.lemmas.List.FromFn.{length-map-range_with_len}
use Rattle.std.specs.{List.find, List.range_with_len, Option.option_map}
use Rattle.bolt_format.proofs.Exports.{guard-none}
use Rattle.bolt_lemmas.proofs.Exports.{length-range, range_there}
use Rattle.bolt_format.proofs.Exports.{first_of-none}
use Rattle.bolt_format.specs.{Bytes.IsBytes, Encoded.branch_header, Encoded.leaf_flag, Encoded.leaf_header}
use Rattle.bolt_format.specs.Elements.{BranchElement, LeafElement, branch_element, branch_elements, branch_end, branch_fault, branch_key_length}
use Rattle.bolt_format.specs.Elements.{branch_key_start, branches_fault, data_fault, element_at, faults_from}
use Rattle.bolt_format.specs.Elements.{is_bucket_element, key_length_fault, leaf_element, leaf_elements, leaf_end, leaf_fault, leaf_flags}
use Rattle.bolt_format.specs.Elements.{leaf_flags_fault, leaf_key_length, leaf_key_start, leaf_value_length, leaf_value_start, leaves_fault}
use Rattle.bolt_format.specs.Elements.{plain_leaf_fault, table_fault, value_length_fault}
use Rattle.bolt_format.specs.Gaps.{GapView, branch_gap, first_elsewhere, is_elsewhere, leaf_gap, written_start}
use Rattle.bolt_layout.proofs.{Chains.Follows, NumbersThere.branch_header_there, NumbersThere.leaf_header_there}
use Rattle.bolt_layout.specs.PageBytes.{branch_bytes, branch_data, branch_headers, key_pos, leaf_bytes, leaf_data, leaf_headers}

-- ---- a test that found nothing

data_within : (bytes : List ℕ) (free start end : ℕ) → data_fault bytes free start end ≡ None → end ≤ length bytes
data_within bytes free start end e = ltb-false (length bytes) end (guard-none _ _ _ (guard-none _ _ _ e).1).0

pub table_within : (bytes : List ℕ) (count : ℕ) → table_fault bytes count ≡ None → element_at count ≤ length bytes
table_within bytes count e = ltb-false (length bytes) (element_at count) (guard-none _ _ None e).0

either : (a b : Bool) (fault : ℕ) → cond (a || b) None (Some fault) ≡ None → (a ≡ true) ⊎ (b ≡ true)
either true b fault e = inl refl
either false true fault e = inr refl
either false false fault e = absurd (cc)

flag_known : (flags : ℕ) → leaf_flags_fault flags ≡ None → flags ≡ leaf_flag (flags == 1)
flag_known flags e = elim (either (flags == 0) (flags == 1) _ e) [
  | inl none ↦ (let zero_is : flags ≡ 0 = eqb-true flags 0 none in rw zero_is refl)
  | inr one ↦ (let one_is : flags ≡ 1 = eqb-true flags 1 one in rw one_is refl)
]

-- ---- no gap: the data of each element begins where that of the one before ends

no_first : (f : ℕ → GapView) (o : Option ℕ) → option_map f o ≡ None → o ≡ None
no_first f None e = refl
no_first f (Some i) e = absurd (cc)

follows_on : (start end : ℕ → ℕ) (count i n free : ℕ) → free ≡ written_start end count i
    → find (is_elsewhere start end count) (range_with_len i n) ≡ None → Follows start end free i n
follows_on start end count i zero free same none = tt
follows_on start end count i (suc n) free same none =
    let test = is_elsewhere start end count in
    let both = guard-none (test i) i (find test (range_with_len (i + 1) n)) none in
    let here : start i ≡ written_start end count i = eqb-true (start i) (written_start end count i) (not-false _ both.0) in
    let rest : find test (range_with_len (suc i) n) ≡ None = ap (λ (k : ℕ). find test (range_with_len k n)) (sym (add-one i)) ∙ both.1 in
    (here ∙ sym same, follows_on start end count (suc i) n (end i) refl rest)

-- ---- the elements of a leaf

-- what the tests of element i find out
leaf_known : (bucket_fault : List ℕ → Option ℕ) (bytes : List ℕ) (free i : ℕ) → leaf_fault bucket_fault bytes free i ≡ None
    → (leaf_flags bytes i ≡ leaf_flag (is_bucket_element bytes i)) × (leaf_end bytes i ≤ length bytes)
unfolding plain_leaf_fault
leaf_known bucket_fault bytes free i e =
    let plain = (first_of-none (plain_leaf_fault bytes free i) _ e).0 in
    let flags = first_of-none (leaf_flags_fault (leaf_flags bytes i)) _ plain in
    let key = first_of-none (key_length_fault (leaf_key_length bytes i)) _ flags.1 in
    let value = first_of-none (value_length_fault (leaf_value_length bytes i)) _ key.1 in
    (flag_known (leaf_flags bytes i) flags.0, data_within bytes free (leaf_key_start bytes i) (leaf_end bytes i) value.1)

-- its data, and what follows it
leaf_text : (bytes : List ℕ) (i : ℕ) → leaf_end bytes i ≤ length bytes
    → (length (leaf_element bytes i).key ≡ leaf_key_length bytes i) × (length (leaf_element bytes i).value ≡ leaf_value_length bytes i)
    × (drop (leaf_key_start bytes i) bytes ≡ (leaf_element bytes i).key ++ ((leaf_element bytes i).value ++ drop (leaf_end bytes i) bytes))
leaf_text bytes i end =
    let start : ℕ = leaf_key_start bytes i in
    let middle : ℕ = leaf_value_start bytes i in
    let a = length-range bytes start middle (omega arith) in
    let b = length-range bytes middle (leaf_end bytes i) end in
    let key = range_there bytes start middle (omega arith) in
    let value = range_there bytes middle (leaf_end bytes i) (omega arith) in
    (omega (arith, a), omega (arith, b), key ∙ ap (λ (xs : List ℕ). (leaf_element bytes i).key ++ xs) value)

abbrev AreLeavesThere : List ℕ → (i end before : ℕ) → List LeafElement → Type 0
AreLeavesThere bytes i end before es =
    (drop (element_at i) bytes ≡ leaf_headers before es ++ drop (element_at end) bytes)
    × (rest : List ℕ) × (drop (element_at end + before) bytes ≡ leaf_data es ++ rest)

-- n elements from i on, where those before them have this much data
leaf_run : (bucket_fault : List ℕ → Option ℕ) (bytes : List ℕ) (n i end before free : ℕ) → IsBytes bytes → i + n ≡ end → element_at end ≤ length bytes
    → faults_from (leaf_fault bucket_fault bytes) (leaf_end bytes) free i n ≡ None
    → Follows (leaf_key_start bytes) (leaf_end bytes) (element_at end + before) i n
    → AreLeavesThere bytes i end before (map (leaf_element bytes) (range_with_len i n))
leaf_run bucket_fault bytes zero i end before free are last within good follows =
    (let same : i ≡ end = omega arith in ap (λ (k : ℕ). drop (element_at k) bytes) same, drop (element_at end + before) bytes, refl)
leaf_run bucket_fault bytes (suc n) i end before free are last within good follows =
    let e : LeafElement = leaf_element bytes i in
    let es : List LeafElement = map (leaf_element bytes) (range_with_len (suc i) n) in
    let both = first_of-none (leaf_fault bucket_fault bytes free i) _ good in
    let (flags, ends) = leaf_known bucket_fault bytes free i both.0 in
    let (long, more, text) = leaf_text bytes i ends in
    let many : length es ≡ n = length-map-range_with_len (leaf_element bytes) (suc i) n in
    let pos : ℕ = key_pos (e ∷ es) before in
    let first : leaf_key_start bytes i ≡ element_at end + before = follows.0 in
    let start : leaf_key_start bytes i ≡ element_at i + pos = omega (arith, first, many, last) in
    let header = leaf_header_there bytes i e.is_bucket pos (length e.key) (length e.value) are (omega arith) flags start (sym long) (sym more) in
    let further : ℕ = before + (length e.key + length e.value) in
    let free_is : leaf_end bytes i ≡ element_at end + further = omega (arith, first, long, more) in
    let later = subst (λ (k : ℕ). Follows (leaf_key_start bytes) (leaf_end bytes) k (suc i) n) free_is follows.1 in
    let (heads, rest, texts) = leaf_run bucket_fault bytes n (suc i) end further (leaf_end bytes i) are (omega arith) within both.1 later in
    let all_heads : drop (element_at i) bytes ≡ leaf_headers before (e ∷ es) ++ drop (element_at end) bytes =
    header ∙ ap (λ (xs : List ℕ). leaf_header e.is_bucket pos (length e.key) (length e.value) ++ xs) heads
    ∙ sym (append_assoc (leaf_header e.is_bucket pos (length e.key) (length e.value)) (leaf_headers further es) _) in
    let next : drop (leaf_end bytes i) bytes ≡ leaf_data es ++ rest = ap (λ (k : ℕ). drop k bytes) free_is ∙ texts in
    let here : drop (element_at end + before) bytes ≡ e.key ++ (e.value ++ (leaf_data es ++ rest)) =
    ap (λ (k : ℕ). drop k bytes) (sym first) ∙ text ∙ ap (λ (xs : List ℕ). e.key ++ (e.value ++ xs)) next in
    let all_texts : drop (element_at end + before) bytes ≡ leaf_data (e ∷ es) ++ rest =
    here ∙ sym (append_assoc e.key (e.value ++ leaf_data es) rest ∙ ap (λ (xs : List ℕ). e.key ++ xs) (append_assoc e.value (leaf_data es) rest)) in
    let same : e ∷ es ≡ map (leaf_element bytes) (range_with_len i (suc n)) =
    ap (λ (k : ℕ). e ∷ map (leaf_element bytes) (range_with_len k n)) (sym (add-one i)) in
    subst (AreLeavesThere bytes i end before) same (all_heads, rest, all_texts)

-- the table, and the data after it
joined : (bytes heads texts rest : List ℕ) (count : ℕ) → drop 16 bytes ≡ heads ++ drop (element_at count) bytes
    → drop (element_at count + 0) bytes ≡ texts ++ rest
    → drop 16 bytes ≡ (heads ++ texts) ++ rest
joined bytes heads texts rest count head text =
    let at : element_at count + 0 ≡ element_at count = omega arith in
    head ∙ ap (λ (xs : List ℕ). heads ++ xs) (ap (λ (k : ℕ). drop k bytes) (sym at) ∙ text) ∙ sym (append_assoc heads texts rest)

pub leaves_there : (bucket_fault : List ℕ → Option ℕ) (bytes : List ℕ) (count : ℕ) → IsBytes bytes → leaves_fault bucket_fault bytes count ≡ None
    → leaf_gap bytes count ≡ None
    → (rest : List ℕ) × (drop 16 bytes ≡ leaf_bytes (leaf_elements bytes count) ++ rest)
unfolding leaf_bytes leaf_elements leaves_fault leaf_gap
leaves_there bucket_fault bytes count are good none =
    let both = first_of-none (table_fault bytes count) _ good in
    let first : first_elsewhere (leaf_key_start bytes) (leaf_end bytes) count ≡ None = no_first _ _ none in
    let start : element_at count ≡ element_at count + 0 = omega arith in
    let follows =
    subst (λ (k : ℕ). Follows (leaf_key_start bytes) (leaf_end bytes) k 0 count) start
    (follows_on (leaf_key_start bytes) (leaf_end bytes) count 0 count (element_at count) refl first) in
    let (heads, rest, texts) =
    leaf_run bucket_fault bytes count 0 count 0 (element_at count) are (omega arith) (table_within bytes count both.0) both.1 follows in
    (rest, joined bytes _ _ rest count heads texts)

-- ---- those of a branch

branch_known : (bytes : List ℕ) (free i : ℕ) → branch_fault bytes free i ≡ None → branch_end bytes i ≤ length bytes
unfolding branch_fault
branch_known bytes free i e =
    data_within bytes free (branch_key_start bytes i) (branch_end bytes i) (first_of-none (key_length_fault (branch_key_length bytes i)) _ e).1

branch_text : (bytes : List ℕ) (i : ℕ) → branch_end bytes i ≤ length bytes
    → (length (branch_element bytes i).key ≡ branch_key_length bytes i)
    × (drop (branch_key_start bytes i) bytes ≡ (branch_element bytes i).key ++ drop (branch_end bytes i) bytes)
branch_text bytes i end =
    let a = length-range bytes (branch_key_start bytes i) (branch_end bytes i) end in
    (omega (arith, a), range_there bytes (branch_key_start bytes i) (branch_end bytes i) (omega arith))

abbrev AreBranchesThere : List ℕ → (i end before : ℕ) → List BranchElement → Type 0
AreBranchesThere bytes i end before es =
    (drop (element_at i) bytes ≡ branch_headers before es ++ drop (element_at end) bytes)
    × (rest : List ℕ) × (drop (element_at end + before) bytes ≡ branch_data es ++ rest)

branch_run : (bytes : List ℕ) (n i end before free : ℕ) → IsBytes bytes → i + n ≡ end → element_at end ≤ length bytes
    → faults_from (branch_fault bytes) (branch_end bytes) free i n ≡ None
    → Follows (branch_key_start bytes) (branch_end bytes) (element_at end + before) i n
    → AreBranchesThere bytes i end before (map (branch_element bytes) (range_with_len i n))
branch_run bytes zero i end before free are last within good follows =
    (let same : i ≡ end = omega arith in ap (λ (k : ℕ). drop (element_at k) bytes) same, drop (element_at end + before) bytes, refl)
branch_run bytes (suc n) i end before free are last within good follows =
    let e : BranchElement = branch_element bytes i in
    let es : List BranchElement = map (branch_element bytes) (range_with_len (suc i) n) in
    let both = first_of-none (branch_fault bytes free i) _ good in
    let ends = branch_known bytes free i both.0 in
    let (long, text) = branch_text bytes i ends in
    let many : length es ≡ n = length-map-range_with_len (branch_element bytes) (suc i) n in
    let pos : ℕ = key_pos (e ∷ es) before in
    let first : branch_key_start bytes i ≡ element_at end + before = follows.0 in
    let start : branch_key_start bytes i ≡ element_at i + pos = omega (arith, first, many, last) in
    let header = branch_header_there bytes i pos (length e.key) e.child are (omega arith) start (sym long) refl in
    let further : ℕ = before + length e.key in
    let free_is : branch_end bytes i ≡ element_at end + further = omega (arith, first, long) in
    let later = subst (λ (k : ℕ). Follows (branch_key_start bytes) (branch_end bytes) k (suc i) n) free_is follows.1 in
    let (heads, rest, texts) = branch_run bytes n (suc i) end further (branch_end bytes i) are (omega arith) within both.1 later in
    let all_heads : drop (element_at i) bytes ≡ branch_headers before (e ∷ es) ++ drop (element_at end) bytes =
    header ∙ ap (λ (xs : List ℕ). branch_header pos (length e.key) e.child ++ xs) heads
    ∙ sym (append_assoc (branch_header pos (length e.key) e.child) (branch_headers further es) _) in
    let next : drop (branch_end bytes i) bytes ≡ branch_data es ++ rest = ap (λ (k : ℕ). drop k bytes) free_is ∙ texts in
    let all_texts : drop (element_at end + before) bytes ≡ branch_data (e ∷ es) ++ rest =
    ap (λ (k : ℕ). drop k bytes) (sym first) ∙ text ∙ ap (λ (xs : List ℕ). e.key ++ xs) next ∙ sym (append_assoc e.key (branch_data es) rest) in
    let same : e ∷ es ≡ map (branch_element bytes) (range_with_len i (suc n)) =
    ap (λ (k : ℕ). e ∷ map (branch_element bytes) (range_with_len k n)) (sym (add-one i)) in
    subst (AreBranchesThere bytes i end before) same (all_heads, rest, all_texts)

pub branches_there : (bytes : List ℕ) (count : ℕ) → IsBytes bytes → branches_fault bytes count ≡ None → branch_gap bytes count ≡ None
    → (rest : List ℕ) × (drop 16 bytes ≡ branch_bytes (branch_elements bytes count) ++ rest)
unfolding branch_bytes branch_elements branches_fault branch_gap
branches_there bytes count are good none =
    let both = first_of-none (table_fault bytes count) _ good in
    let first : first_elsewhere (branch_key_start bytes) (branch_end bytes) count ≡ None = no_first _ _ none in
    let start : element_at count ≡ element_at count + 0 = omega arith in
    let follows =
    subst (λ (k : ℕ). Follows (branch_key_start bytes) (branch_end bytes) k 0 count) start
    (follows_on (branch_key_start bytes) (branch_end bytes) count 0 count (element_at count) refl first) in
    let (heads, rest, texts) = branch_run bytes count 0 count 0 (element_at count) are (omega arith) (table_within bytes count both.0) both.1 follows in
    (rest, joined bytes _ _ rest count heads texts)

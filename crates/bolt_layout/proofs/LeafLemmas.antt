-- The elements of a leaf page that was written are read back, and pass their tests.
use Rattle.std.proofs.Common.{◌≡◌, ◌∙◌, ℕ, suc, ◌+◌, ◌*◌, ◌<◌, ◌≤◌, nat_lt, Bool, true, false, cond, List, [], ◌∷◌, ◌++◌, length, map, drop, Option}
use Rattle.std.proofs.Common.{None, refl, sym, ap, arith, append_assoc, add-one}
use Rattle.bolt_layout.proofs.Words.{AllByRecursion, element_at, faults_from, first_of-both, key_pos, le-ltb, leaf_bytes, leaf_data, leaf_element}
use Rattle.bolt_layout.proofs.Words.{leaf_elements, leaf_header, leaf_headers, LeafElement, leaves_fault, length-append, part_next, part_read}
use Rattle.bolt_layout.proofs.Words.{part_within, range_with_len}
use Rattle.bolt_format.specs.Elements.{data_fault, key_length_fault, leaf_end, leaf_fault, leaf_flags_fault, leaf_key_start, plain_leaf_fault}
use Rattle.bolt_format.specs.Elements.{value_length_fault}
use Rattle.std.specs.Option.{option_map}
use Rattle.bolt_layout.proofs.Chains.{Follows, none_elsewhere}
use Rattle.bolt_format.specs.Gaps.{gap_at, leaf_gap}
use Rattle.bolt_format.specs.{Encoded.leaf_flag, ReadBack.IsLeafHeader}
use Rattle.bolt_format.proofs.Exports.{leaf_header_written, length-leaf_header}

-- an element whose numbers pass the tests
pub record IsLeafFit (bucket_fault : List ℕ → Option ℕ) (e : LeafElement) : Type 0 where
  pub some : 1 ≤ length e.key
  pub key : length e.key ≤ 0x40000000
  pub value : length e.value ≤ 0x7FFFFFFE
  pub bucket : e.is_bucket ≡ true → bucket_fault e.value ≡ None

-- its tests
flags_pass : (b : Bool) → leaf_flags_fault (leaf_flag b) ≡ None
flags_pass b = grind arith

pub key_passes : (n : ℕ) → 1 ≤ n → n ≤ 0x40000000 → key_length_fault n ≡ None
key_passes n some most = grind arith

value_passes : (n : ℕ) → n ≤ 0x7FFFFFFE → value_length_fault n ≡ None
value_passes n most = let b : nat_lt 0x7FFFFFFE n ≡ false = le-ltb 0x7FFFFFFE n most in rw b refl

pub data_passes : (bytes : List ℕ) (free start end : ℕ) → free ≤ start → end ≤ length bytes → data_fault bytes free start end ≡ None
data_passes bytes free start end first last = grind arith

chosen_none : (b : Bool) (fault : Option ℕ) → (b ≡ true → fault ≡ None) → cond b fault None ≡ None
chosen_none b fault h = grind arith

-- What is known of element i: it is e, its data starts and ends there, and after `free` it passes.
record IsLeafRead (bucket_fault : List ℕ → Option ℕ) (bytes : List ℕ) (i start end : ℕ) (e : LeafElement) : Type 0 where
  pub element : leaf_element bytes i ≡ e
  pub starts : leaf_key_start bytes i ≡ start
  pub ends : leaf_end bytes i ≡ end
  pub passes : (free : ℕ) → free ≤ leaf_key_start bytes i → leaf_fault bucket_fault bytes free i ≡ None

same_leaf : (a b : LeafElement) → a.key ≡ b.key → a.value ≡ b.value → a.is_bucket ≡ b.is_bucket → a ≡ b
same_leaf a b p q r = grind arith

leaf_read : (bucket_fault : List ℕ → Option ℕ) (bytes rest : List ℕ) (i pos : ℕ) (e : LeafElement)
    → IsLeafHeader bytes i e.is_bucket pos (length e.key) (length e.value) → IsLeafFit bucket_fault e
    → drop (element_at i + pos) bytes ≡ e.key ++ (e.value ++ rest) → element_at i + pos ≤ length bytes
    → IsLeafRead bucket_fault bytes i (element_at i + pos) (element_at i + pos + (length e.key + length e.value)) e
unfolding plain_leaf_fault
leaf_read bucket_fault bytes rest i pos e head fit text within =
    grind (arith, part_next, part_within, part_read, same_leaf, first_of-both, flags_pass, key_passes, value_passes, data_passes, chosen_none)

pub length-leaf_headers : (before : ℕ) (es : List LeafElement) → length (leaf_headers before es) ≡ 16 * length es
length-leaf_headers before [] = refl
length-leaf_headers before (e ∷ es) = grind (arith, length-leaf_header, length-append, length-leaf_headers (before + (length e.key + length e.value)) es)

-- Elements es from number i on, where those before them have this much data: they are read, and pass.
leaf_run : (bucket_fault : List ℕ → Option ℕ) (bytes : List ℕ) (es : List LeafElement) (i before free : ℕ) (tail rest : List ℕ)
    → drop (element_at i) bytes ≡ leaf_headers before es ++ tail
    → drop (element_at (i + length es) + before) bytes ≡ leaf_data es ++ rest
    → AllByRecursion (IsLeafFit bucket_fault) es
    → 16 * length es + (before + length (leaf_data es)) < 0x100000000
    → element_at (i + length es) + before ≤ length bytes
    → free ≤ element_at (i + length es) + before
    → (map (leaf_element bytes) (range_with_len i (length es)) ≡ es) × (faults_from (leaf_fault bucket_fault bytes) (leaf_end bytes) free i (length es) ≡ None)
    × (free ≡ element_at (i + length es) + before → Follows (leaf_key_start bytes) (leaf_end bytes) free i (length es))
leaf_run bucket_fault bytes [] i before free tail rest heads text fits small within first = (refl, refl, λ same. tt)
leaf_run bucket_fault bytes (e ∷ es) i before free tail rest heads text fits small within first =
    let pos : ℕ = key_pos (e ∷ es) before in
    let fit : IsLeafFit bucket_fault e = fits.0 in
    let regrouped : drop (element_at i) bytes
    ≡ leaf_header e.is_bucket pos (length e.key) (length e.value) ++ (leaf_headers (before + (length e.key + length e.value)) es ++ tail) =
    heads ∙ append_assoc (leaf_header e.is_bucket pos (length e.key) (length e.value)) _ tail in
    let data_length : length (leaf_data (e ∷ es)) ≡ length e.key + (length e.value + length (leaf_data es)) =
    length-append e.key (e.value ++ leaf_data es) ∙ ap (λ (n : ℕ). length e.key + n) (length-append e.value (leaf_data es)) in
    let key = fit.key in
    let value = fit.value in
    let head =
    leaf_header_written bytes _ i e.is_bucket pos (length e.key) (length e.value) regrouped
    (record { start = omega arith; key = omega arith; value = omega arith }) in
    let next : drop (element_at (suc i)) bytes ≡ leaf_headers (before + (length e.key + length e.value)) es ++ tail =
    ap (λ (k : ℕ). drop (element_at k) bytes) (sym (add-one i)) ∙ head.1 in
    let place : element_at (i + length (e ∷ es)) + before ≡ element_at i + pos = omega arith in
    let here : drop (element_at i + pos) bytes ≡ e.key ++ (e.value ++ (leaf_data es ++ rest)) =
    ap (λ (n : ℕ). drop n bytes) (sym place)
    ∙ (text ∙ (append_assoc e.key (e.value ++ leaf_data es) rest ∙ ap (λ (xs : List ℕ). e.key ++ xs) (append_assoc e.value (leaf_data es) rest))) in
    let one = leaf_read bucket_fault bytes (leaf_data es ++ rest) i pos e head.0 fit here (omega arith) in
    let behind_key = part_next bytes e.key (e.value ++ (leaf_data es ++ rest)) (element_at i + pos) (element_at i + pos + length e.key) here refl in
    let within_key = part_within bytes e.key (e.value ++ (leaf_data es ++ rest)) (element_at i + pos) here (omega arith) in
    let within_value = part_within bytes e.value (leaf_data es ++ rest) (element_at i + pos + length e.key) behind_key within_key in
    let behind : drop (element_at (suc i + length es) + (before + (length e.key + length e.value))) bytes ≡ leaf_data es ++ rest =
    part_next bytes e.value (leaf_data es ++ rest) (element_at i + pos + length e.key) _ behind_key (omega arith) in
    let more =
    leaf_run bucket_fault bytes es (suc i) (before + (length e.key + length e.value)) (leaf_end bytes i) tail rest next behind fits.1 (omega arith)
    (omega arith) (omega arith) in
    let elements : map (leaf_element bytes) (range_with_len (i + 1) (length es)) ≡ es =
    ap (λ (k : ℕ). map (leaf_element bytes) (range_with_len k (length es))) (add-one i) ∙ more.0 in
    let passes : (map (leaf_element bytes) (range_with_len i (length (e ∷ es))) ≡ e ∷ es)
    × (faults_from (leaf_fault bucket_fault bytes) (leaf_end bytes) free i (length (e ∷ es)) ≡ None) =
    grind (arith, first_of-both) in
    let ends = one.ends in
    (passes.0, passes.1, λ same. (one.starts ∙ sym (same ∙ place), more.2 (omega (arith, ends, place))))

-- the elements of a leaf page after a header
pub leaves_written : (bucket_fault : List ℕ → Option ℕ) (bytes : List ℕ) (es : List LeafElement) (rest : List ℕ)
    → drop 16 bytes ≡ leaf_bytes es ++ rest → 16 ≤ length bytes → AllByRecursion (IsLeafFit bucket_fault) es
    → 16 * length es + length (leaf_data es) < 0x100000000
    → (leaf_elements bytes (length es) ≡ es) × (leaves_fault bucket_fault bytes (length es) ≡ None) × (leaf_gap bytes (length es) ≡ None)
unfolding leaf_bytes leaf_elements leaves_fault leaf_gap
leaves_written bucket_fault bytes es rest h within fits small =
    let heads : drop (element_at 0) bytes ≡ leaf_headers 0 es ++ (leaf_data es ++ rest) = h ∙ append_assoc (leaf_headers 0 es) (leaf_data es) rest in
    let long = length-leaf_headers 0 es in
    let table = part_within bytes (leaf_headers 0 es) (leaf_data es ++ rest) 16 heads within in
    let text : drop (element_at (0 + length es) + 0) bytes ≡ leaf_data es ++ rest =
    part_next bytes (leaf_headers 0 es) (leaf_data es ++ rest) 16 _ heads (omega arith) in
    let run =
    leaf_run bucket_fault bytes es 0 0 (element_at (length es)) (leaf_data es ++ rest) rest heads text fits (omega arith) (omega arith) (omega arith) in
    let passes : (leaf_elements bytes (length es) ≡ es) × (leaves_fault bucket_fault bytes (length es) ≡ None) = grind (arith, le-ltb, first_of-both) in (
      passes.0,
      passes.1,
      ap (option_map (gap_at (λ (i : ℕ). (leaf_element bytes i).key)))
          (none_elsewhere (leaf_key_start bytes) (leaf_end bytes) (length es) 0 (length es) (element_at (length es)) refl (run.2 (omega arith))),
    )

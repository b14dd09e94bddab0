-- The elements of a branch page that was written are read back, and pass their tests.
use Rattle.std.proofs.Common.{◌≡◌, ◌∙◌, ℕ, suc, ◌+◌, ◌*◌, ◌^◌, ◌<◌, ◌≤◌, List, [], ◌∷◌, ◌++◌, length, map, drop, None, refl, sym, ap, arith}
use Rattle.std.proofs.Common.{append_assoc, add-one}
use Rattle.bolt_layout.proofs.Words.{AllByRecursion, branch_bytes, branch_data, branch_header, branch_headers, BranchElement, element_at, faults_from}
use Rattle.bolt_layout.proofs.Words.{first_of-both, key_pos, le-ltb, length-append, part_next, part_read, part_within, range_with_len}
use Rattle.bolt_format.specs.Elements.{branch_element, branch_elements, branch_end, branch_fault, branch_key_start, branches_fault}
use Rattle.std.specs.Option.{option_map}
use Rattle.bolt_layout.proofs.Chains.{Follows, none_elsewhere}
use Rattle.bolt_format.specs.Gaps.{branch_gap, gap_at}
use Rattle.bolt_format.specs.ReadBack.{IsBranchHeader}
use Rattle.bolt_format.proofs.Exports.{branch_header_written, length-branch_header}

pub record IsBranchFit (e : BranchElement) : Type 0 where
  pub some : 1 ≤ length e.key
  pub key : length e.key ≤ 0x40000000
  pub child : e.child < 256 ^ 8

record IsBranchRead (bytes : List ℕ) (i start end : ℕ) (e : BranchElement) : Type 0 where
  pub element : branch_element bytes i ≡ e
  pub starts : branch_key_start bytes i ≡ start
  pub ends : branch_end bytes i ≡ end
  pub passes : (free : ℕ) → free ≤ branch_key_start bytes i → branch_fault bytes free i ≡ None

-- elements with the same key and child are the same
pub same_branch : (a b : BranchElement) → a.key ≡ b.key → a.child ≡ b.child → a ≡ b
same_branch a b p q = grind arith

branch_read : (bytes rest : List ℕ) (i pos : ℕ) (e : BranchElement) → IsBranchHeader bytes i pos (length e.key) e.child → IsBranchFit e
    → drop (element_at i + pos) bytes ≡ e.key ++ rest → element_at i + pos ≤ length bytes
    → IsBranchRead bytes i (element_at i + pos) (element_at i + pos + length e.key) e
unfolding branch_fault
branch_read bytes rest i pos e head fit text within = grind (arith, part_within, part_read, same_branch, first_of-both)

pub length-branch_headers : (before : ℕ) (es : List BranchElement) → length (branch_headers before es) ≡ 16 * length es
length-branch_headers before [] = refl
length-branch_headers before (e ∷ es) = grind (arith, length-branch_header, length-append, length-branch_headers (before + length e.key) es)

branch_run : (bytes : List ℕ) (es : List BranchElement) (i before free : ℕ) (tail rest : List ℕ)
    → drop (element_at i) bytes ≡ branch_headers before es ++ tail
    → drop (element_at (i + length es) + before) bytes ≡ branch_data es ++ rest
    → AllByRecursion IsBranchFit es
    → 16 * length es + (before + length (branch_data es)) < 0x100000000
    → element_at (i + length es) + before ≤ length bytes
    → free ≤ element_at (i + length es) + before
    → (map (branch_element bytes) (range_with_len i (length es)) ≡ es) × (faults_from (branch_fault bytes) (branch_end bytes) free i (length es) ≡ None)
    × (free ≡ element_at (i + length es) + before → Follows (branch_key_start bytes) (branch_end bytes) free i (length es))
branch_run bytes [] i before free tail rest heads text fits small within first = (refl, refl, λ same. tt)
branch_run bytes (e ∷ es) i before free tail rest heads text fits small within first =
    let pos : ℕ = key_pos (e ∷ es) before in
    let fit : IsBranchFit e = fits.0 in
    let regrouped : drop (element_at i) bytes ≡ branch_header pos (length e.key) e.child ++ (branch_headers (before + length e.key) es ++ tail) =
    heads ∙ append_assoc (branch_header pos (length e.key) e.child) _ tail in
    let data_length : length (branch_data (e ∷ es)) ≡ length e.key + length (branch_data es) = length-append e.key (branch_data es) in
    let key = fit.key in
    let head = branch_header_written bytes _ i pos (length e.key) e.child regrouped (record { start = omega arith; key = omega arith; child = fit.child }) in
    let next : drop (element_at (suc i)) bytes ≡ branch_headers (before + length e.key) es ++ tail =
    ap (λ (k : ℕ). drop (element_at k) bytes) (sym (add-one i)) ∙ head.1 in
    let place : element_at (i + length (e ∷ es)) + before ≡ element_at i + pos = omega arith in
    let here : drop (element_at i + pos) bytes ≡ e.key ++ (branch_data es ++ rest) =
    ap (λ (n : ℕ). drop n bytes) (sym place) ∙ (text ∙ append_assoc e.key (branch_data es) rest) in
    let one = branch_read bytes (branch_data es ++ rest) i pos e head.0 fit here (omega arith) in
    let within_key = part_within bytes e.key (branch_data es ++ rest) (element_at i + pos) here (omega arith) in
    let behind : drop (element_at (suc i + length es) + (before + length e.key)) bytes ≡ branch_data es ++ rest =
    part_next bytes e.key (branch_data es ++ rest) (element_at i + pos) _ here (omega arith) in
    let more =
    branch_run bytes es (suc i) (before + length e.key) (branch_end bytes i) tail rest next behind fits.1 (omega arith) (omega arith) (omega arith) in
    let passes : (map (branch_element bytes) (range_with_len i (length (e ∷ es))) ≡ e ∷ es)
    × (faults_from (branch_fault bytes) (branch_end bytes) free i (length (e ∷ es)) ≡ None) =
    grind (arith, range_with_len, add-one, first_of-both) in
    let ends = one.ends in
    (passes.0, passes.1, λ same. (one.starts ∙ sym (same ∙ place), more.2 (omega (arith, ends, place))))

-- the elements of a branch page after a header
pub branches_written : (bytes : List ℕ) (es : List BranchElement) (rest : List ℕ)
    → drop 16 bytes ≡ branch_bytes es ++ rest → 16 ≤ length bytes → AllByRecursion IsBranchFit es
    → 16 * length es + length (branch_data es) < 0x100000000
    → (branch_elements bytes (length es) ≡ es) × (branches_fault bytes (length es) ≡ None) × (branch_gap bytes (length es) ≡ None)
unfolding branch_bytes branch_elements branches_fault branch_gap
branches_written bytes es rest h within fits small =
    let heads : drop (element_at 0) bytes ≡ branch_headers 0 es ++ (branch_data es ++ rest) = h ∙ append_assoc (branch_headers 0 es) (branch_data es) rest in
    let long = length-branch_headers 0 es in
    let table = part_within bytes (branch_headers 0 es) (branch_data es ++ rest) 16 heads within in
    let text : drop (element_at (0 + length es) + 0) bytes ≡ branch_data es ++ rest =
    part_next bytes (branch_headers 0 es) (branch_data es ++ rest) 16 _ heads (omega arith) in
    let run = branch_run bytes es 0 0 (element_at (length es)) (branch_data es ++ rest) rest heads text fits (omega arith) (omega arith) (omega arith) in
    let passes : (branch_elements bytes (length es) ≡ es) × (branches_fault bytes (length es) ≡ None) = grind (arith, le-ltb, first_of-both) in (
      passes.0,
      passes.1,
      ap (option_map (gap_at (λ (i : ℕ). (branch_element bytes i).key)))
          (none_elsewhere (branch_key_start bytes) (branch_end bytes) (length es) 0 (length es) (element_at (length es)) refl (run.2 (omega arith))),
    )

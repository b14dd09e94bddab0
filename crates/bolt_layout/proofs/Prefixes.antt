-- A layout that is cut short is refused.
use Rattle.std.proofs.Common.{◌≡◌, ◌∙◌, ℕ, ◌+◌, ◌*◌, ◌^◌, ◌<◌, ◌≤◌, List, [], ◌∷◌, ◌++◌, length, drop, take, Some, Err, refl, ap, subst, inl}
use Rattle.std.proofs.Common.{inr, arith}
use Rattle.std.proofs.lemmas.List.{length-take}
use Rattle.bolt_lemmas.proofs.Exports.{cut_front}
use Rattle.bolt_layout.proofs.Words.{AllByRecursion, At_page, cases_lt, chosen_of, copy_meta, eq-eqb, header_bytes, header_written, IsAsked, IsActive}
use Rattle.bolt_layout.proofs.Words.{IsHeaderFit, IsMeta, IsPageSize, Kind, Layout, layout_high_water, layout_of, layout_root, le-ltb}
use Rattle.bolt_layout.proofs.Words.{length-header_bytes, length-meta_bytes, Meta, meta_bytes, meta_written, node_at, One, page_at, page_fault}
use Rattle.bolt_layout.proofs.Words.{Placed, placed_bytes, root_spot, span_fault, Tree, Zero}
use Rattle.bolt_layout.proofs.{PageRows.IsInARow, PageRows.IsPageFit, PageRows.last_written, PageRows.page_headed, PageRows.row_last}
use Rattle.bolt_layout.proofs.{Soundness.IsLaidOut, Soundness.laid_out}
use Rattle.bolt_format.specs.{Metas.IsInOne, Metas.IsInSlot, declared.page_fault.TheConstants.PageFault.CUT, declared.meta.Slot.Slot}
use Rattle.bolt_check.specs.{Findings.PageTests, Findings.finding, Sound.IsFirstFinding, Sound.IsRefused}
use Rattle.bolt_check.specs.{declared.check_fault.CheckFault.TheVariants.Structure}
use Rattle.bolt_layout.specs.Copies.{RefusesPrefixes}

-- The tests of a page whose span passes the file's end.
cut_short : (file : List ℕ) (meta : Meta) (id : ℕ) → id < meta.high_water → length file < id * meta.page_size + 16
    → span_fault file meta id ≡ Some CUT
unfolding span_fault
cut_short file meta id below short = grind arith

cut_late : (file : List ℕ) (meta : Meta) (id : ℕ) (is : Kind) (n more : ℕ) (behind : List ℕ)
    → drop (id * meta.page_size) file ≡ header_bytes id is n more ++ behind
    → IsHeaderFit id n more → id + more < meta.high_water → id * meta.page_size + 16 ≤ length file
    → length file < (id + 1 + more) * meta.page_size → span_fault file meta id ≡ Some CUT
unfolding span_fault
cut_late file meta id is n more behind h fit below header short = grind (arith, header_written, le-ltb, eq-eqb)

-- So it is no node,
cut_node : (file : List ℕ) (meta : Meta) (id : ℕ) → span_fault file meta id ≡ Some CUT → node_at file meta id ≡ Err CUT
unfolding node_at page_at page_fault
cut_node file meta id h = rw h refl

-- and where it is the root page it is the first finding.
cut_first : (file : List ℕ) (meta : Meta) → node_at file meta meta.root ≡ Err CUT → IsFirstFinding file meta (finding CUT meta.root)
cut_first file meta h = record {
  way = [];
  spot = At_page (root_spot meta.root);
  leads = refl;
  reported = PageTests.early (rw h refl);
  none_before = λ v s y less. absurd less;
}

-- Before the first meta ends there is none.
no_slot : (file : List ℕ) → length file < 80 → (slot : Slot) (meta : Meta) → IsInSlot file slot meta → ⊥
no_slot file short slot meta valid = grind arith

-- Which meta is active in a layout that is cut short.
not_second : (file : List ℕ) (page_size root sequence high_water : ℕ) (other : Meta) → IsMeta file 0 (copy_meta page_size root sequence high_water 0)
    → length file < page_size + 80
    → IsInOne file other → ⊥
not_second file page_size root sequence high_water other first short (inl (before, zeroth, second)) = grind arith
not_second file page_size root sequence high_water other first short (inr (none, lone)) = none (copy_meta page_size root sequence high_water 0) first

only_first : (file : List ℕ) (page_size root sequence high_water : ℕ) → IsMeta file 0 (copy_meta page_size root sequence high_water 0)
    → length file < page_size + 80
    → IsActive file Zero (copy_meta page_size root sequence high_water 0)
only_first file page_size root sequence high_water first short = record {
  valid = first;
  newest = λ other valid. absurd (not_second file page_size root sequence high_water other first short valid);
}

-- the root page of a layout that is cut short
root_cut : (which : Layout) (page_size : ℕ) (tree : Tree) (sequence n txid : ℕ) → IsPageSize page_size → IsLaidOut which page_size tree sequence
    → n < length (layout_of which page_size tree sequence)
    → node_at (take n (layout_of which page_size tree sequence))
    (copy_meta page_size (layout_root which page_size tree) sequence (layout_high_water which page_size tree) txid) (layout_root which page_size tree) ≡ Err CUT
root_cut which page_size tree sequence n txid size laid less =
    let file : List ℕ = layout_of which page_size tree sequence in
    let torn : List ℕ = take n file in
    let root : ℕ = layout_root which page_size tree in
    let high_water : ℕ = layout_high_water which page_size tree in
    let meta : Meta = copy_meta page_size root sequence high_water txid in
    let cut : length torn ≡ n = length-take n file ∙ omega arith in
    let (front, own, same, number) = laid.last in
    let row : IsInARow 3 (front ++ own ∷ []) high_water = subst (λ (ps : List Placed). IsInARow 3 ps high_water) same laid.row in
    let fits = subst (AllByRecursion (IsPageFit page_size)) same laid.pages in
    let placed = subst (λ (ps : List Placed). drop (3 * page_size) file ≡ placed_bytes page_size ps ++ []) same laid.file.placed in
    let ends = row_last 3 high_water front own row in
    let (fit, here) = last_written file page_size 3 high_water front own [] row fits placed in
    let head = page_headed page_size own [] fit in
    let begins = here ∙ head.begins in
    let below = laid.below in
    let place : own.number * page_size ≡ root * page_size = ap (λ (m : ℕ). m * page_size) number in
    let at : drop (root * page_size) file ≡ header_bytes root head.is head.n own.view.overflow ++ head.behind =
    subst (λ (m : ℕ). drop (m * page_size) file ≡ header_bytes m head.is head.n own.view.overflow ++ head.behind) number begins in
    let end : (root + 1 + own.view.overflow) * page_size ≡ high_water * page_size =
    (let e : root + 1 + own.view.overflow ≡ high_water = omega arith in ap (λ (m : ℕ). m * page_size) e) in
    let l = length-header_bytes root head.is head.n own.view.overflow in
    cut_node torn meta root (elim (cases_lt n (root * page_size + 16)) [
      | inl short ↦ cut_short torn meta root below (omega arith)
      | inr enough ↦
          let torn_at = cut_front file (header_bytes root head.is head.n own.view.overflow) head.behind (root * page_size) n at (omega arith) in
          let fits2 : IsHeaderFit root head.n own.view.overflow = record { id = omega arith; count = head.few; overflow = head.narrow } in
          cut_late torn meta root head.is head.n own.view.overflow _ torn_at fits2 (omega arith) (omega arith) (omega arith)
    ])

first_there : (which : Layout) (page_size : ℕ) (tree : Tree) (sequence n : ℕ) → IsLaidOut which page_size tree sequence
    → n < length (layout_of which page_size tree sequence) → 80 ≤ n
    → IsMeta (take n (layout_of which page_size tree sequence)) 0
    (copy_meta page_size (layout_root which page_size tree) sequence (layout_high_water which page_size tree) 0)
first_there which page_size tree sequence n laid less whole =
    let file : List ℕ = layout_of which page_size tree sequence in
    let root : ℕ = layout_root which page_size tree in
    let high_water : ℕ = layout_high_water which page_size tree in
    let l = length-meta_bytes 0 (copy_meta page_size root sequence high_water 0) in
    let fit = laid.fits in
    meta_written (take n file) _ 0 0 (copy_meta page_size root sequence high_water 0)
    (cut_front file (meta_bytes 0 (copy_meta page_size root sequence high_water 0)) laid.file.behind_first 0 n laid.file.first_bytes (omega arith))
    (record { size = fit.size; root = fit.root; sequence = fit.sequence; freelist = fit.freelist; high_water = fit.high_water; txid = omega arith })
    (inl refl) (omega arith)

second_there : (which : Layout) (page_size : ℕ) (tree : Tree) (sequence n : ℕ) → IsLaidOut which page_size tree sequence
    → n < length (layout_of which page_size tree sequence) → page_size + 80 ≤ n
    → IsMeta (take n (layout_of which page_size tree sequence)) page_size
    (copy_meta page_size (layout_root which page_size tree) sequence (layout_high_water which page_size tree) 1)
second_there which page_size tree sequence n laid less whole =
    let file : List ℕ = layout_of which page_size tree sequence in
    let root : ℕ = layout_root which page_size tree in
    let high_water : ℕ = layout_high_water which page_size tree in
    let l = length-meta_bytes 1 (copy_meta page_size root sequence high_water 1) in
    let cut : length (take n file) ≡ n = length-take n file ∙ omega arith in
    meta_written (take n file) _ page_size 1 (copy_meta page_size root sequence high_water 1)
    (cut_front file (meta_bytes 1 (copy_meta page_size root sequence high_water 1)) laid.file.behind_second page_size n laid.file.second_bytes (omega arith))
    laid.fits (inr refl) (omega arith)

torn_root : (which : Layout) (page_size : ℕ) (tree : Tree) (sequence n : ℕ) → IsPageSize page_size → IsLaidOut which page_size tree sequence
    → n < length (layout_of which page_size tree sequence) → 80 ≤ n
    → IsRefused (take n (layout_of which page_size tree sequence)) (Structure (finding CUT (layout_root which page_size tree)))
torn_root which page_size tree sequence n size laid less whole =
    let file : List ℕ = layout_of which page_size tree sequence in
    let torn : List ℕ = take n file in
    let root : ℕ = layout_root which page_size tree in
    let high_water : ℕ = layout_high_water which page_size tree in
    let cut : length torn ≡ n = length-take n file ∙ omega arith in
    let first = first_there which page_size tree sequence n laid less whole in
    elim (cases_lt n (page_size + 80)) [
      | inl short ↦ (
        Zero,
        copy_meta page_size root sequence high_water 0,
        only_first torn page_size root sequence high_water first (omega arith),
        cut_first torn (copy_meta page_size root sequence high_water 0) (root_cut which page_size tree sequence n 0 size laid less),
      )
      | inr enough ↦ (
        One,
        copy_meta page_size root sequence high_water 1,
        chosen_of torn page_size (copy_meta page_size root sequence high_water 0) (copy_meta page_size root sequence high_water 1) first
            (second_there which page_size tree sequence n laid less enough) refl (omega arith),
        cut_first torn (copy_meta page_size root sequence high_water 1) (root_cut which page_size tree sequence n 1 size laid less),
      )
    ]

pub prefixes_refused : (which : Layout) (page_size : ℕ) (tree : Tree) (sequence : ℕ) → IsAsked page_size tree sequence
    → length (layout_of which page_size tree sequence) < 2 ^ 63
    → RefusesPrefixes (layout_of which page_size tree sequence) (layout_root which page_size tree)
prefixes_refused which page_size tree sequence asked short =
    let laid = laid_out which page_size tree sequence asked.size asked.storable asked.sequence_fits short in
    grind (arith, length-take, no_slot, torn_root)

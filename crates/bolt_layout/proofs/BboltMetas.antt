-- Bbolt takes the active meta of a layout, accepts the headers of both meta pages, and finds all pages in the file.
use Rattle.std.proofs.Common.{rules, ◌≡◌, ◌∙◌, ◌==◌, ◌*◌, ◌<◌, ◌≤◌, ◌/◌, ℕ, true, List, [], Some, ap, length, refl, sym, arith}
use Rattle.std.proofs.{Math.Nat.mul-div_cancel, lemmas.Bool.le-leb}
use Rattle.std.proofs.Math.Bool.{or-true}
use Rattle.bolt_layout.proofs.Words.{eq-eqb, IsMeta, IsPageSize, Layout, le-ltb, layout_high_water, layout_meta, layout_of, lt-ltb, Meta}
use Rattle.bolt_layout.proofs.Words.{meta_header_written, mul-le-mul_right, One, size_bounds, Tree}
use Rattle.bolt_layout.proofs.Soundness.{IsLaidOut}
use Rattle.bolt_check.specs.BboltFileFindings.{file_findings}
use Rattle.bolt_format.specs.{BboltMetas.bbolt_page_size, BboltMetas.bbolt_slot, BboltMetas.bbolt_txid, BboltMetas.is_bbolt_meta}

-- a valid meta is valid to bbolt
valid_to_bbolt : (file : List ℕ) (at : ℕ) (meta : Meta) → IsMeta file at meta → is_bbolt_meta file at ≡ true
unfolding is_bbolt_meta
valid_to_bbolt file at meta is = grind (arith, le-leb, eq-eqb, or-true)

txid_to_bbolt : (file : List ℕ) (at : ℕ) (meta : Meta) → IsMeta file at meta → bbolt_txid file at ≡ Some meta.txid
txid_to_bbolt file at meta is = rw (valid_to_bbolt file at meta is) (ap Some (sym (ap (λ (m : Meta). m.txid) is.fields)))

size_to_bbolt : (file : List ℕ) (meta : Meta) → IsMeta file 0 meta → bbolt_page_size file ≡ meta.page_size
size_to_bbolt file meta is = rw (valid_to_bbolt file 0 meta is) (sym (ap (λ (m : Meta). m.page_size) is.fields))

slot_one : (file : List ℕ) (page_size : ℕ) (zero one : Meta) → 4096 ≤ length file → IsMeta file 0 zero → IsMeta file page_size one
    → zero.page_size ≡ page_size → zero.txid < one.txid
    → bbolt_slot file ≡ Some One
unfolding bbolt_slot
slot_one file page_size zero one long first second size newer = search (rules, size_to_bbolt, le-ltb, txid_to_bbolt, lt-ltb)

-- nothing is found in the file as a whole
pub layout_file_findings : (which : Layout) (page_size : ℕ) (tree : Tree) (sequence : ℕ) → IsPageSize page_size
    → IsLaidOut which page_size tree sequence
    → file_findings (layout_of which page_size tree sequence) One (layout_meta which page_size tree sequence 1) ≡ []
layout_file_findings which page_size tree sequence size laid =
    let file = layout_of which page_size tree sequence in
    let high_water = layout_high_water which page_size tree in
    let bounds = size_bounds page_size size in
    let above = laid.above in
    let below = laid.below in
    let exact = laid.long in
    let wide : 4 * page_size ≤ high_water * page_size = mul-le-mul_right page_size (omega arith) in
    let stand = laid.file in
    let zero_header = meta_header_written file stand.behind_first 0 0 _ stand.first_bytes (omega arith) (omega arith) in
    let one_header = meta_header_written file stand.behind_second page_size 1 _ stand.second_bytes (omega arith) (omega arith) in
    let slot = slot_one file page_size _ _ (omega arith) stand.first stand.second refl (omega arith) in
    let page : (bbolt_page_size file == page_size) ≡ true = eq-eqb (bbolt_page_size file) page_size (size_to_bbolt file _ stand.first) in
    let whole : length file / page_size ≡ high_water = ap (λ (n : ℕ). n / page_size) exact ∙ mul-div_cancel high_water (omega arith) in
    rw (slot, page, zero_header, one_header, whole, le-ltb high_water high_water (omega arith)) refl

-- If nothing is missing of names in the order of their sums, no line is written of them.
use Rattle.std.proofs.Common.{◌≡◌, ◌↔◌, Bool, true, ℕ, List, [], flat_map, map, Option, None, ap, subst}
use Rattle.std.proofs.lemmas.List.Sorted.{IsPermutation-map, IsPermutation-trans}
use Rattle.std.specs.{List.Sorted.IsPermutation}
use Rattle.bolt_lemmas.specs.Order.{Rises}
use Rattle.bolt_tree.specs.declared.bucket.Bucket.{Bucket}
use Rattle.bolt_etcd.specs.{Check.CheckLines.name_fault_lines, Check.ForNames.ForGranted, Check.NameFaults.AreByName}
use Rattle.bolt_etcd.specs.Store.Orders.{AreBySum, stored_key_cmp}
use Rattle.bolt_etcd.specs.{Check.NameFaults.name_faults}
use Rattle.bolt_etcd.specs.{Wire.Revisions.RevisionView, Wire.ShownRevisions.shown_revision, Check.StoreFaults.name_lines}
use Rattle.bolt_etcd.specs.declared.wire.revision.Revision.{Revision}
use Rattle.bolt_etcd.proofs.{FaultsOfNames.none_by_name, StoreLemmas.granted_map}

-- nor has a store lines of its names
pub none_lines : (rs : List RevisionView) (slice by_sum : List Revision) (compacted : Option ℕ) (leases : Option Bucket) (b : Bool)
    → Rises stored_key_cmp rs
    → AreBySum rs (map shown_revision by_sum) → slice ≡ by_sum → b ≡ true
    → ForGranted leases (λ granted. (b ≡ true) ↔ (name_faults compacted granted None (map shown_revision slice) ≡ []))
    → ForGranted leases (λ granted. (by_name : List RevisionView) → AreByName rs by_name → name_lines compacted granted by_name ≡ [])
none_lines rs slice by_sum compacted leases b rises sums same whole none =
    granted_map leases (λ granted. (b ≡ true) ↔ (name_faults compacted granted None (map shown_revision slice) ≡ []))
    (λ granted. (by_name : List RevisionView) → AreByName rs by_name → name_lines compacted granted by_name ≡ [])
    (λ granted both by_name is.
    let empty = subst (λ (l : List Revision). name_faults compacted granted None (map shown_revision l) ≡ []) same (both.0 whole) in
    ap (flat_map name_fault_lines) (none_by_name compacted granted rs (map shown_revision by_sum) by_name rises sums is empty)) none

-- sorted by sums and then by name
pub by_name_after : (rs by_name : List RevisionView) (by_sum rough : List Revision) → AreBySum rs (map shown_revision by_sum)
    → IsPermutation by_sum rough
    → AreByName (map shown_revision rough) by_name → AreByName rs by_name
by_name_after rs by_name by_sum rough sums moved names = record {
  same = IsPermutation-trans _ _ _ sums.same (IsPermutation-trans _ _ _ (IsPermutation-map shown_revision by_sum rough moved) names.same);
  rises = names.rises;
}

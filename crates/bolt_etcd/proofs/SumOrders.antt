-- Revisions sorted by the sums of their names, as they are shown.
use Rattle.std.proofs.Common.{Bool, List, map}
use Rattle.std.proofs.{lemmas.List.MinMax.ranks_by, lemmas.List.Sorted.IsPermutation-map}
use Rattle.std.specs.{Cmp.IsStrictWeakOrder, List.Sorted.IsPermutation, List.Sorted.IsSortedBy, Ordering.is_lt}
use Rattle.std.specs.{declared.cmp.Ordering.Ordering}
use Rattle.bolt_lemmas.proofs.Exports.{sorted_mapped}
use Rattle.bolt_etcd.specs.{Wire.Revisions.RevisionView, Wire.Revisions.name_of}
use Rattle.bolt_etcd.specs.Store.Orders.{AreSortedBy, by_sum_cmp, newest_by_sum_cmp, sums_cmp}
use Rattle.bolt_etcd.specs.{Wire.ShownRevisions.shown_revision}
use Rattle.bolt_etcd.specs.{declared.wire.revision.Revision.Revision}
use Rattle.bolt_etcd.proofs.{NameOrders.sums_tie, NameOrders.sums_total, NewestOfNames.newest_ranks, SortedOnce.named_total}

-- ---- sorted so

abbrev pub code_by_sum : Revision → Revision → Bool
code_by_sum a b = is_lt (by_sum_cmp (shown_revision a) (shown_revision b))

pub code_by_sum_ranks : IsStrictWeakOrder code_by_sum
code_by_sum_ranks = ranks_by (named_total sums_total) shown_revision

abbrev pub code_newest_by_sum : Revision → Revision → Bool
code_newest_by_sum a b = is_lt (newest_by_sum_cmp (shown_revision a) (shown_revision b))

pub code_newest_by_sum_ranks : IsStrictWeakOrder code_newest_by_sum
code_newest_by_sum_ranks = newest_ranks (λ r. name_of (shown_revision r)) (λ r. (shown_revision r).stored_key) sums_cmp sums_total sums_tie

pub are_sorted : (cmp : RevisionView → RevisionView → Ordering) (old sorted : List Revision) → IsPermutation old sorted
    → IsSortedBy (λ a b. is_lt (cmp (shown_revision a) (shown_revision b))) sorted → AreSortedBy cmp (map shown_revision old) (map shown_revision sorted)
are_sorted cmp old sorted moved up = record {
  same = IsPermutation-map shown_revision old sorted moved;
  rises = sorted_mapped shown_revision (λ a b. is_lt (cmp a b)) sorted up;
}

-- All revisions of a bucket, sorted by name and then by their stored keys.
use Rattle.std.proofs.Common.{◌≡◌, ◌<◌, ◌-◌, ◌^◌, Bool, List, map, not, Some, ap, subst, arith}
use Rattle.std.proofs.{lemmas.Bool.le-ltb, lemmas.List.MinMax.ranks_by, lemmas.List.Sorted.IsPermutation-map}
use Rattle.std.specs.{Cmp.IsStrictWeakOrder, List.Sorted.IsPermutation, List.Sorted.IsSortedBy, Ordering.is_lt}
use Rattle.bolt_lemmas.proofs.Exports.{filter_all, sorted_mapped}
use Rattle.bolt_format.specs.Elements.{LeafElement}
use Rattle.bolt_tree.specs.Entries.{EntryView}
use Rattle.bolt_etcd.specs.{Check.NameFaults.AreByName, Check.NameFaults.by_name_cmp, Store.Newest.is_until, Store.Newest.until}
use Rattle.bolt_etcd.specs.{Wire.Revisions.RevisionView, Wire.Revisions.revision_of, Wire.ShownRevisions.shown_revision, Store.Stores.revisions}
use Rattle.bolt_etcd.specs.declared.wire.revision.Revision.{Revision}
use Rattle.bolt_etcd.proofs.{Currents.from_entry, Currents.key_is, Keys.read_fits, SortedOnce.by_name_total}

-- ---- each is of a transaction below 2^63

main_fits : (v : EntryView) (r : RevisionView) → revision_of v ≡ Some r → r.key.main < 2 ^ 63
main_fits v r e = (read_fits v.key r.key (key_is v r e)).0

pub until_all : (es : List LeafElement) → until (2 ^ 64 - 1) (revisions es) ≡ revisions es
until_all es = filter_all (is_until (2 ^ 64 - 1)) (revisions es) (λ r has.
    let (f, there, found) = from_entry es r has in
    let fits = main_fits _ r found in
    ap not (le-ltb _ _ (omega (arith, fits))))

-- ---- they are sorted as they are shown

abbrev pub code_by_name : Revision → Revision → Bool
code_by_name a b = is_lt (by_name_cmp (shown_revision a) (shown_revision b))

pub code_ranks : IsStrictWeakOrder code_by_name
code_ranks = ranks_by by_name_total shown_revision

pub are_by_name : (rs : List RevisionView) (old sorted : List Revision) → map shown_revision old ≡ rs → IsPermutation old sorted
    → IsSortedBy code_by_name sorted
    → AreByName rs (map shown_revision sorted)
are_by_name rs old sorted is moved up = record {
  same = subst (λ (l : List RevisionView). IsPermutation l (map shown_revision sorted)) is (IsPermutation-map shown_revision old sorted moved);
  rises = sorted_mapped shown_revision (λ a b. is_lt (by_name_cmp a b)) sorted up;
}

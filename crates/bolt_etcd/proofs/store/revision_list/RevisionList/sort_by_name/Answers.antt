use Rattle.std.proofs.Common.{◌≡◌, ap, is_lt, refl, rules}
use Rattle.std.proofs.lemmas.List.Sorted.{answers_always}
use Rattle.bolt_etcd.specs.{Check.NameFaults.by_name_cmp, Wire.ShownRevisions.shown_revision}
use Rattle.bolt_etcd.proofs.ByName.{are_by_name, code_by_name, code_ranks}
use Rattle.bolt_etcd.proofs.store.revision_list.RevisionList.sort_by_name.Goals as goal

pub returns-clause-sorted : goal.returns-clause-sorted
returns-clause-sorted c =
    are_by_name _ _ _ refl c.sort_unstable_by.ensures.permutation
    (c.sort_unstable_by.ensures.sorted code_by_name code_ranks (answers_always _ _ _ (λ f a r g h.
    let e : r ≡ by_name_cmp (shown_revision a.0.now) (shown_revision a.1.0.now) = search rules in ap is_lt e)))

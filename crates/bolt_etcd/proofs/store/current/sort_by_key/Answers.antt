use Rattle.std.proofs.Common.{◌≡◌, ap, is_lt, rules}
use Rattle.std.proofs.lemmas.List.Sorted.{IsPermutation-map, IsPermutation-trans, answers_always}
use Rattle.bolt_lemmas.proofs.Exports.{sorted_mapped}
use Rattle.bolt_etcd.specs.{Wire.ShownRevisions.shown_revision}
use Rattle.bolt_etcd.specs.Store.Orders.{stored_key_cmp}
use Rattle.bolt_etcd.proofs.CurrentOnes.{code_by_key, code_key_ranks}
use Rattle.bolt_etcd.proofs.store.current.sort_by_key.Goals as goal

pub returns-clause-same : goal.returns-clause-same
returns-clause-same c = IsPermutation-map shown_revision _ _ (IsPermutation-trans _ _ _ c.sort_roughly.ensures c.sort_unstable_by.ensures.permutation)

pub returns-clause-sorted : goal.returns-clause-sorted
returns-clause-sorted c =
    sorted_mapped shown_revision (λ a b. is_lt (stored_key_cmp a b)) _
    (c.sort_unstable_by.ensures.sorted code_by_key code_key_ranks (answers_always _ _ _ (λ f a r g h.
    let e : r ≡ stored_key_cmp (shown_revision a.0.now) (shown_revision a.1.0.now) = search rules in ap is_lt e)))

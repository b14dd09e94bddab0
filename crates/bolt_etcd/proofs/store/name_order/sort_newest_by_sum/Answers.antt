use Rattle.std.proofs.Common.{◌≡◌, ap, is_lt, rules}
use Rattle.std.proofs.lemmas.List.Sorted.{IsPermutation-trans, answers_always}
use Rattle.bolt_etcd.specs.{Wire.ShownRevisions.shown_revision}
use Rattle.bolt_etcd.specs.Store.Orders.{newest_by_sum_cmp}
use Rattle.bolt_etcd.proofs.SumOrders.{are_sorted, code_newest_by_sum, code_newest_by_sum_ranks}
use Rattle.bolt_etcd.proofs.store.name_order.sort_newest_by_sum.Goals as goal

pub returns : goal.returns
returns c =
    are_sorted newest_by_sum_cmp _ _ (IsPermutation-trans _ _ _ c.sort_unstable_by.ensures.permutation c.sort_unstable_by-2.ensures.permutation)
    (c.sort_unstable_by-2.ensures.sorted code_newest_by_sum code_newest_by_sum_ranks (answers_always _ _ _ (λ f a r g h.
    let e : r ≡ newest_by_sum_cmp (shown_revision a.0.now) (shown_revision a.1.0.now) = search rules in ap is_lt e)))

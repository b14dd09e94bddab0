use Rattle.std.proofs.Common.{rules}
use Rattle.std.proofs.lemmas.Fn.{dedup_same, filter_same}
use Rattle.bolt_etcd.proofs.Currents.{code_is_there, code_same_name, kept_newest}
use Rattle.bolt_etcd.proofs.store.current.keep_newest.Goals as goal

pub returns : goal.returns
returns c =
    kept_newest _ _ _ _ c.sort_newest_by_sum.ensures (dedup_same _ code_same_name _ (λ x y b f x' y' h. search rules) _ _ c.dedup_by.ensures.filtered)
    (filter_same _ code_is_there _ (λ x b f h. search rules) _ _ c.retain.ensures.filtered)

use Rattle.std.proofs.Common.{◌≡◌, ap, is_lt, rules}
use Rattle.std.proofs.{lemmas.Fn.dedup_same, lemmas.List.Sorted.answers_always}
use Rattle.bolt_etcd.specs.Wire.ShownRevisions.{entry_of}
use Rattle.bolt_repair.specs.Candidates.{whole_cmp}
use Rattle.bolt_repair.proofs.WholeOrder.{are_candidates, code_ranks, code_same, code_whole}
use Rattle.bolt_repair.proofs.candidates.candidates_of.Goals as goal

pub returns : goal.returns
returns c =
    are_candidates _ _ _ _ c.in_ok-candidates.ensures c.sort_unstable_by.ensures.permutation
    (c.sort_unstable_by.ensures.sorted code_whole code_ranks (answers_always _ _ _ (λ f a r g h.
    let e : r ≡ whole_cmp (entry_of a.0.now) (entry_of a.1.0.now) = search rules in ap is_lt e)))
    (dedup_same _ code_same _ (λ x y b f x' y' h. search rules) _ _ c.dedup_by.ensures.filtered)

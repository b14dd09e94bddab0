use Rattle.std.proofs.Common.{◌≡◌, ◌++◌, ap, is_lt, rules}
use Rattle.std.proofs.{lemmas.Fn.filter_same, lemmas.List.MinMax.ranks_by, lemmas.List.Sorted.answers_always}
use Rattle.bolt_lemmas.proofs.Exports.{sorted_mapped}
use Rattle.bolt_check.specs.Keys.{key_cmp}
use Rattle.bolt_tree.proofs.Exports.{key_total}
use Rattle.bolt_etcd.specs.{Store.Newest.is_until, Wire.ShownRevisions.shown_revision, declared.wire.revision.Revision.Revision}
use Rattle.bolt_repair.proofs.NewestUntil.{are_the_newest, key_of}
use Rattle.bolt_repair.proofs.repair.newest_until.Goals as goal

pub returns-clause-newest : goal.returns-clause-newest
returns-clause-newest c =
    let all : c.extend_from_slice.new.self.items ≡ c.args.kept.items ++ c.args.agreed.now = search rules in
    are_the_newest c.args.compacted c.args.kept.items c.args.agreed.now _ _ _ _ all
    (filter_same _ (λ (r : Revision). is_until c.args.compacted (shown_revision r)) _ (λ x b f h. search rules) _ _ c.retain.ensures.filtered)
    c.keep_newest.ensures c.sort_unstable_by.ensures.permutation

pub returns-clause-sorted : goal.returns-clause-sorted
returns-clause-sorted c =
    sorted_mapped key_of (λ a b. is_lt (key_cmp a b)) _
    (c.sort_unstable_by.ensures.sorted (λ (a b : Revision). is_lt (key_cmp (key_of a) (key_of b))) (ranks_by key_total key_of)
    (answers_always _ _ _ (λ f a r g h.
    let e : r ≡ key_cmp (key_of a.0.now) (key_of a.1.0.now) = search rules in ap is_lt e)))

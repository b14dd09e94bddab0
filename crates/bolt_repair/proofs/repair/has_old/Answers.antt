use Rattle.std.proofs.Common.{◌≡◌, ◌∙◌, false, subst, sym}
use Rattle.std.proofs.lemmas.{List.Elements.All-more, List.take_all}
use Rattle.std.specs.List.{All}
use Rattle.bolt_etcd.specs.{Store.Newest.is_until, Wire.ShownRevisions.shown_revision, declared.wire.revision.Revision.Revision}
use Rattle.bolt_repair.proofs.repair.has_old.Goals as goal

pub loop-revision-preserved : goal.loop-revision-preserved
loop-revision-preserved c =
    let new = λ (r : Revision). is_until c.args.compacted (shown_revision r) ≡ false in
    All-more new c.args.revisions.now c.loop-revision.revision-index c.revision-item.result c.loop-revision-test.true c.loop-revision.invariant
    (subst new c.revision-item.is (sym c.is_until.ensures ∙ c.if-is_until.false))

pub returns : goal.returns
returns c =
    subst (All (λ (r : Revision). is_until c.args.compacted (shown_revision r) ≡ false))
    (take_all c.loop-revision.revision-index c.args.revisions.now c.loop-revision-test.false) c.loop-revision.invariant

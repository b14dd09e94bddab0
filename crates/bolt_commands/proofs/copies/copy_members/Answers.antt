-- A copy that is whole is good. It is its layout, or that and its hash.
use Rattle.std.proofs.Common.{◌∙◌, refl, sym}
use Rattle.bolt_commands.proofs.{CopyAnswers.copy_good, SnapshotCopies.layout_stops, SnapshotCopies.layout_whole, Vocabulary.HasGoodCopies}
use Rattle.bolt_commands.proofs.{Vocabulary.is_snapshot}
use Rattle.bolt_commands.proofs.copies.copy_members.Goals.{After-copies_are_good}
use Rattle.bolt_commands.proofs.copies.copy_members.Goals as goal

good : (g : _) (c : After-copies_are_good g) (whole : g.M.Members.Whole) → g.M.Members.reads c.args.members.now whole
    → ∥ HasGoodCopies (g.M.Members.listing whole) c.args.blueprint.now.sequence ∥₁
good g c whole is = c.copies_are_good.ensures _ (c.requires.one whole is)

pub returns-in_err-done-clause-copied : goal.returns-in_err-done-clause-copied
returns-in_err-done-clause-copied g c = λ whole is.
    copy_good _ c.args.blueprint.now (is_snapshot c.args.kind) c.from_residual.result
    (layout_stops g.T.Sink c.args.target.now c.compact_members.new.sink _ (is_snapshot c.args.kind) _ c.from_residual.result
    c.in_err-done.field-0.0 c.in_err-done.was (c.compact_members.ensures.copies.copied whole is) c.from_residual.ensures.1)
    (good g (goal.at.returns-in_err-done-clause-copied g c).After-copies_are_good whole is)

pub returns-then-not-is_snapshot-clause-copied : goal.returns-then-not-is_snapshot-clause-copied
returns-then-not-is_snapshot-clause-copied g c = λ whole is.
    copy_good _ c.args.blueprint.now (is_snapshot c.args.kind) _
    (layout_whole g.T.Sink c.args.target.now c.compact_members.new.sink _ _ c.in_ok-done.done c.in_ok-done.was
    (c.compact_members.ensures.copies.copied whole is)
    (is_snapshot c.args.kind) (sym c.is_snapshot.ensures ∙ c.if-not-is_snapshot.true))
    (good g (goal.at.returns-then-not-is_snapshot-clause-copied g c).After-copies_are_good whole is)

pub returns-clause-copied : goal.returns-clause-copied
returns-clause-copied g c = λ whole is.
    let snapshot = sym c.is_snapshot.ensures ∙ c.if-not-is_snapshot.false in
    copy_good (g.M.Members.listing whole) c.args.blueprint.now (is_snapshot c.args.kind) c.copy_hashed-source.result.1
    (rw snapshot (c.copy_hashed-source.ensures.copied _ (whole, is, refl)))
    (good g (goal.at.returns-clause-copied g c).After-copies_are_good whole is)

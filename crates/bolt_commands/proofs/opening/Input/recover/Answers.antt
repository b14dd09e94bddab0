-- Nothing is recovered under the meta that is found.
use Rattle.bolt_lemmas.proofs.Exports.{passed_on}
use Rattle.bolt_job.specs.MetaChoices.{HasNoMetaOf}
use Rattle.bolt_recover.proofs.Exports.{refused_under}
use Rattle.bolt_commands.proofs.Vocabulary.{IsMetaOf, IsUnrecoverableUnder}
use Rattle.bolt_commands.proofs.opening.Input.recover.Goals as goal

pub returns-in_err-recovery-clause-refused : goal.returns-in_err-recovery-clause-refused
returns-in_err-recovery-clause-refused c =
    let file = c.args.self.file.now in
    let choice = c.args.choice in
    let fault = c.in_err-recovery.field-0.0 in
    passed_on c.from_residual-in_err-recovery.result _ (IsUnrecoverableUnder file choice)
    (refused_under file (IsMetaOf file choice) (HasNoMetaOf file choice) c.in_ok-meta.meta c.in_ok-meta.ensures.found fault c.in_err-recovery.ensures.refused)
    c.from_residual-in_err-recovery.ensures.1

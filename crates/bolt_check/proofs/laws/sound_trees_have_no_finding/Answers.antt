use Rattle.bolt_check.proofs.Lawful.{sound_reports_nothing}
use Rattle.bolt_check.proofs.laws.sound_trees_have_no_finding.Goals as goal

pub returns : goal.returns
returns c = sound_reports_nothing

use Rattle.std.proofs.Common.{map}
use Rattle.bolt_report.proofs.Words.{loss_text, loss_view}
use Rattle.bolt_text.proofs.Exports.{WroteLines}
use Rattle.bolt_report.proofs.loss_lines.put_losses.Given as goal

-- the lines of the losses before this one were written
abbrev pub invariant-loop-loss : goal.invariant-loop-loss
invariant-loop-loss g l = WroteLines g.S.Sink l.initial.sink l.sink loss_text (map loss_view l.losses) l.loss-index

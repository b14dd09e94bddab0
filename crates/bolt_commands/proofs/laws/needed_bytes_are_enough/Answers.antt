use Rattle.std.proofs.Common.{take}
use Rattle.bolt_commands.proofs.NeededBytes.{enough}
use Rattle.bolt_commands.proofs.laws.needed_bytes_are_enough.Goals as goal

pub returns : goal.returns
returns g c = λ file end is job alone. enough g.O.Sink g.T.Sink (take end file) file (record {
  chosen = c.metas_lie_in_a_prefix.ensures.chosen file end is;
  slot = c.metas_lie_in_a_prefix.ensures.slot file end is;
  fault = c.metas_lie_in_a_prefix.ensures.fault file end is;
  slot_fault = c.metas_lie_in_a_prefix.ensures.slot_fault file end is;
}) job alone

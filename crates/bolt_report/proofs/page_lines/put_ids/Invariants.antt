use Rattle.bolt_report.proofs.Words.{id_line, shown_ids}
use Rattle.bolt_text.proofs.Exports.{WroteLines}
use Rattle.bolt_report.proofs.page_lines.put_ids.Given as goal

-- the lines of the ids before number i were written
abbrev pub invariant-loop-i : goal.invariant-loop-i
invariant-loop-i g l = WroteLines g.S.Sink l.initial.sink l.sink id_line (shown_ids l.ids) l.i

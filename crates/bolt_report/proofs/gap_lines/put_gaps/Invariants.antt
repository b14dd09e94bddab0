use Rattle.std.proofs.Common.{map}
use Rattle.bolt_report.proofs.Words.{gap_line, page_gap_view}
use Rattle.bolt_text.proofs.Exports.{WroteLines}
use Rattle.bolt_report.proofs.gap_lines.put_gaps.Given as goal

-- the lines of the gaps before this one were written
abbrev pub invariant-loop-gap : goal.invariant-loop-gap
invariant-loop-gap g l = WroteLines g.S.Sink l.initial.sink l.sink gap_line (map page_gap_view l.gaps) l.gap-index

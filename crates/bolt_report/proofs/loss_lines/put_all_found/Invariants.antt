use Rattle.std.proofs.Common.{map}
use Rattle.bolt_report.proofs.Words.{found_line, found_view}
use Rattle.bolt_text.proofs.Exports.{WroteLines}
use Rattle.bolt_report.proofs.loss_lines.put_all_found.Given as goal

-- the lines of the pages before this one were written
abbrev pub invariant-loop-page : goal.invariant-loop-page
invariant-loop-page g l = WroteLines g.S.Sink l.initial.sink l.sink found_line (map found_view l.found) l.page-index

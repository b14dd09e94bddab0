use Rattle.bolt_report.proofs.Words.{branch_line}
use Rattle.bolt_format.specs.TreePages.{branches_on}
use Rattle.bolt_text.proofs.Exports.{WroteLines}
use Rattle.bolt_report.proofs.page_lines.put_branches.Given as goal

-- the lines of the elements before number i were written
abbrev pub invariant-loop-i : goal.invariant-loop-i
invariant-loop-i g l = WroteLines g.S.Sink l.initial.sink l.sink branch_line (branches_on l.page) l.i

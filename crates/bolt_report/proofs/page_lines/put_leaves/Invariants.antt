use Rattle.bolt_report.proofs.Words.{leaf_line}
use Rattle.bolt_format.specs.TreePages.{leaves_on}
use Rattle.bolt_text.proofs.Exports.{WroteLines}
use Rattle.bolt_report.proofs.page_lines.put_leaves.Given as goal

-- the lines of the elements before number i were written
abbrev pub invariant-loop-i : goal.invariant-loop-i
invariant-loop-i g l = WroteLines g.S.Sink l.initial.sink l.sink leaf_line (leaves_on l.page) l.i

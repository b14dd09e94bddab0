use Rattle.std.proofs.Common.{map}
use Rattle.bolt_etcd.specs.Wire.UnreadEntries.{shown_unread}
use Rattle.bolt_report.specs.UnreadLines.{unread_line}
use Rattle.bolt_text.proofs.Exports.{WroteLines}
use Rattle.bolt_report.proofs.unread_lines.put_unread.Given as goal

-- the lines of those before this one were written
abbrev pub invariant-loop-entry : goal.invariant-loop-entry
invariant-loop-entry g l = WroteLines g.S.Sink l.initial.sink l.sink unread_line (map shown_unread l.entries) l.entry-index

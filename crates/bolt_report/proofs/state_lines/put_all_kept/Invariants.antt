use Rattle.std.proofs.Common.{map}
use Rattle.bolt_recover.specs.ShownStates.{state_view}
use Rattle.bolt_report.specs.StateLines.{kept_line}
use Rattle.bolt_text.proofs.Exports.{WroteLines}
use Rattle.bolt_report.proofs.state_lines.put_all_kept.Given as goal

-- the lines of those before this one were written
abbrev pub invariant-loop-state : goal.invariant-loop-state
invariant-loop-state g l = WroteLines g.S.Sink l.initial.sink l.sink (kept_line l.fn.metas) (map state_view l.states) l.state-index

use Rattle.std.proofs.Common.{map}
use Rattle.bolt_recover.specs.ShownStates.{place_view}
use Rattle.bolt_report.specs.StateLines.{lost_line}
use Rattle.bolt_text.proofs.Exports.{WroteLines}
use Rattle.bolt_report.proofs.state_lines.put_all_lost.Given as goal

-- the lines of those before this one were written
abbrev pub invariant-loop-place : goal.invariant-loop-place
invariant-loop-place g l = WroteLines g.S.Sink l.initial.sink l.sink (lost_line l.fn.metas) (map place_view l.places) l.place-index

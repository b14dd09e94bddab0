use Rattle.std.proofs.Common.{ap}
use Rattle.bolt_report.proofs.Words.{past_line, Wrote-return, Wrote-same, Wrote-then}
use Rattle.bolt_report.proofs.maps.put_page_map.Goals as goal

pub returns-in_err-put_map_lines : goal.returns-in_err-put_map_lines
returns-in_err-put_map_lines g c = λ roles are. Wrote-return _ _ (c.in_err-put_map_lines.ensures roles are) c.from_residual.ensures.0

pub returns : goal.returns
returns g c = λ roles are. Wrote-then (c.in_ok-put_map_lines.ensures roles are) (Wrote-same (ap past_line (c.free_past.ensures roles are)) c.put_past.ensures)

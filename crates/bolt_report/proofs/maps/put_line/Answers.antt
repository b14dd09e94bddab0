use Rattle.std.proofs.Common.{rules, append_assoc}
use Rattle.bolt_report.proofs.Words.{map_line}
use Rattle.bolt_report.proofs.maps.put_line.Goals as goal

pub returns : goal.returns
unfolding map_line
returns g c = search (rules, append_assoc)

use Rattle.std.proofs.Common.{append_assoc}
use Rattle.bolt_report.proofs.Words.{escape_byte, print_from, Wrote-same}
use Rattle.bolt_report.specs.StatsLines.{stats_text}
use Rattle.bolt_report.proofs.stats_lines.put_stats_json.Goals as goal

pub returns : goal.returns
unfolding escape_byte print_from stats_text
returns g c = Wrote-same (simp append_assoc) c.put_pieces.ensures

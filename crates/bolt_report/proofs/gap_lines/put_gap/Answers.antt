use Rattle.bolt_report.proofs.Words.{gap_line}
use Rattle.bolt_report.proofs.gap_lines.put_gap.Goals as goal

pub returns-in-Before : goal.returns-in-Before
unfolding gap_line
returns-in-Before g c = rw c.in-Before.is c.put_gap_beside.ensures

pub returns-in-After : goal.returns-in-After
unfolding gap_line
returns-in-After g c = rw c.in-After.is c.put_gap_beside-in-After.ensures

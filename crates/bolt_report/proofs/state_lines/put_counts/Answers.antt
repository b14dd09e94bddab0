use Rattle.bolt_report.proofs.state_lines.put_counts.Goals as goal

pub returns : goal.returns
returns g c = rw (c.from.ensures, c.from-2.ensures) at c.put_pieces.ensures

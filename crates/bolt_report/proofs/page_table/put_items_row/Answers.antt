use Rattle.std.proofs.Common.{append_assoc}
use Rattle.bolt_report.specs.PageTables.{row}
use Rattle.bolt_report.proofs.page_table.put_items_row.Goals as goal

pub returns : goal.returns
unfolding row
returns g c = simp append_assoc (rw c.overflow_column.ensures at c.put_pieces.ensures)

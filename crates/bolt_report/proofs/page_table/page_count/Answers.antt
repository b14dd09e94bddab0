use Rattle.bolt_report.proofs.Words.{length-range_with_len}
use Rattle.bolt_report.proofs.page_table.page_count.Goals as goal

pub returns : goal.returns
returns c = rw length-range_with_len (rw (c.meta.ensures, c.pages_begun.ensures) at c.min.ensures)

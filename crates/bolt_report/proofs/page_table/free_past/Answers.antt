use Rattle.std.proofs.Common.{◌∙◌}
use Rattle.bolt_report.proofs.{Words.roles_checked, PageTableLemmas.counts_past, PageTableLemmas.positive}
use Rattle.bolt_report.proofs.page_table.free_past.Goals as goal

pub pages_begun-requires : goal.pages_begun-requires
pages_begun-requires c = rw c.checked-checked.ensures (positive (roles_checked c.args.table.now) c.requires)

pub returns : goal.returns
returns c = λ roles are.
    let same = rw (c.meta.ensures, c.pages_begun.ensures, c.checked-checked.ensures) at c.saturating_sub.ensures in
    same ∙ counts_past (roles_checked c.args.table.now) c.requires roles are

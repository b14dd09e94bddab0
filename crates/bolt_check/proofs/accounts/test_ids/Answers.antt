use Rattle.std.proofs.Common.{◌≡◌, arith, length}
use Rattle.bolt_check.proofs.{Words.shown_ids, SettledLemmas.all_reported, SettledLemmas.settled}
use Rattle.bolt_check.proofs.accounts.test_ids.Goals as goal

pub all_findings-requires : goal.all_findings-requires
all_findings-requires c =
    let long : length c.list_ids.new.table ≡ length c.args.table.now = omega arith in
    settled c.args.table.now (shown_ids c.args.ids) c.in_ok-past.past.items c.sort_unstable.new.self.items _ long c.list_ids.ensures.used
    (rw long at c.in_ok-past.ensures)
    c.sort_unstable.ensures.permutation c.deref.ensures.value c.sort_unstable.ensures.sorted c.requires.metas c.requires.wide c.requires.below

pub returns-clause-reported : goal.returns-clause-reported
returns-clause-reported c =
    let long : length c.list_ids.new.table ≡ length c.args.table.now = omega arith in
    all_reported c.args.table.now (shown_ids c.args.ids) c.in_ok-past.past.items c.sort_unstable.new.self.items _ long c.list_ids.ensures.used
    (rw long at c.in_ok-past.ensures)
    c.sort_unstable.ensures.permutation c.deref.ensures.value
    (settled c.args.table.now (shown_ids c.args.ids) c.in_ok-past.past.items c.sort_unstable.new.self.items _ long c.list_ids.ensures.used
    (rw long at c.in_ok-past.ensures)
    c.sort_unstable.ensures.permutation c.deref.ensures.value c.sort_unstable.ensures.sorted c.requires.metas c.requires.wide c.requires.below)
    c.list_ids.ensures.times c.all_findings.result c.all_findings.ensures

-- The file is checked by the pages that its recovery claimed.
use Rattle.bolt_commands.proofs.CheckedBy.{kept_so, slot_of}
use Rattle.bolt_commands.proofs.verdict.check_kept.Goals as goal

pub check-checked-requires-clause-kept : goal.check-checked-requires-clause-kept
check-checked-requires-clause-kept g c = rw c.requires.bytes c.requires.kept

pub check-checked-requires-clause-whole : goal.check-checked-requires-clause-whole
check-checked-requires-clause-whole g c = rw c.requires.bytes c.requires.whole

pub check-checked-requires-clause-valid : goal.check-checked-requires-clause-valid
check-checked-requires-clause-valid g c =
    rw (c.requires.bytes, c.counts_accounts.ensures) (slot_of c.args.checking.input.file.now c.args.checking.choice _ c.requires.under)

pub put_checked-requires : goal.put_checked-requires
put_checked-requires g c =
    let checking = c.args.checking in
    let checked = rw (c.requires.bytes, c.counts_accounts.ensures) at c.check-checked.ensures in
    kept_so checking.input.file.now checking.choice _ c.check-checked.result.0 c.requires.under checked.trees checked.bytes checked.meta checked.right checked.refused

pub returns : goal.returns
returns g c = rw (c.as_slice.ensures.value, c.check-checked.ensures.gaps) at c.put_checked.ensures

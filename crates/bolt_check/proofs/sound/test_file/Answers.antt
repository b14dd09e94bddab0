use Rattle.bolt_check.proofs.{Words.merely, Words.node_at, RoleLemmas.uses_with}
use Rattle.bolt_check.proofs.{Shaping.shape_of}
use Rattle.bolt_check.proofs.{Visited.stored}
use Rattle.bolt_check.proofs.sound.test_file.Goals as goal

pub check_accounts-requires-clause-trees : goal.check_accounts-requires-clause-trees
check_accounts-requires-clause-trees c = shape_of (node_at c.args.file.now c.args.meta.now) c.args.meta.now.root c.in_ok-table.ensures.clean

pub returns-clause-trees : goal.returns-clause-trees
returns-clause-trees c = shape_of (node_at c.args.file.now c.args.meta.now) c.args.meta.now.root c.in_ok-table.ensures.clean

pub returns-clause-uses : goal.returns-clause-uses
returns-clause-uses c =
    let table = c.in_ok-table.table in
    let kept = stored table c.deref_mut.result.now c.check_accounts.new.table c.deref_mut.ensures.value c.check_accounts.auto.table in
    let claims = rw c.deref_mut.ensures.value at c.in_ok-check_accounts.ensures.uses in
    rw kept (merely (uses_with c.args.file.now c.args.meta.now table.items c.check_accounts.new.table c.in_ok-check_accounts.ensures.right
    c.in_ok-table.ensures.covered c.in_ok-table.ensures.uses claims))

use Rattle.std.proofs.Common.{◌≢◌, List, [], subst, sym}
use Rattle.bolt_check.proofs.{Words.AreAccountFindings, Words.Finding, Words.IsUsed, Words.node_at, HighWaterLemmas.table_wide, Lawful.shape_passes}
use Rattle.bolt_check.proofs.SoundLemmas.{findings_of_file, none_of, right_of, some_in, some_of, wrong_of}
use Rattle.bolt_check.proofs.sound.check_accounts.Goals as goal

pub test_accounts-requires-clause-wide : goal.test_accounts-requires-clause-wide
test_accounts-requires-clause-wide c =
    let file = c.args.file.now in
    let meta = c.args.meta.now in
    table_wide file meta c.args.table.now (shape_passes (node_at file meta) meta.root c.requires.trees) c.requires.room

pub returns-clause-right : goal.returns-clause-right
returns-clause-right c =
    right_of c.args.file.now c.args.meta.now c.args.table.now c.requires.covered
    (c.in_ok-findings.ensures.right (none_of c.of.result c.in_ok-findings.findings.items c.in_default.is c.of.ensures))

pub returns-clause-uses : goal.returns-clause-uses
returns-clause-uses c = c.in_ok-findings.ensures.uses (none_of c.of.result c.in_ok-findings.findings.items c.in_default.is c.of.ensures)

pub returns-in-Some-clause-refused : goal.returns-in-Some-clause-refused
returns-in-Some-clause-refused c =
    let file = c.args.file.now in
    let meta = c.args.meta.now in
    let same = some_of c.of.result c.in_ok-findings.findings.items c.in-Some.is c.of.ensures in
    let some = some_in c.in-Some.findings in
    let own = subst (λ (xs : List Finding). xs ≢ []) same some in (
      c.requires.trees,
      wrong_of file meta c.args.table.now c.requires.covered (c.in_ok-findings.ensures.wrong own),
      subst (AreAccountFindings file meta (IsUsed file meta)) (sym same)
          (findings_of_file file meta c.args.table.now c.in_ok-findings.findings.items c.requires.covered (c.in_ok-findings.ensures.reported own)),
      some,
    )

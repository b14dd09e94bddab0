use Rattle.std.proofs.Common.{◌∙◌, add-one, get_or, sym}
use Rattle.bolt_check.proofs.{Words.false≢true, Words.first_use, Words.get_or_default, Words.Unused, FreelistSteps.table_lost}
use Rattle.bolt_check.proofs.{FreelistSteps.table_reported}
use Rattle.bolt_check.proofs.freelist_findings.push_entry.Goals as goal

pub returns-then-is_unused-clause-reported : goal.returns-then-is_unused-clause-reported
returns-then-is_unused-clause-reported c =
    let here = get_or_default c.args.freelist.now.table.now c.args.n (first_use c.args.n) Unused c.requires.inside in
    let unused = here ∙ c.is_unused.ensures.0 c.if-is_unused.true in
    rw (add-one c.args.n)
    (table_lost c.args.freelist.now c.requires.settled c.args.n c.args.from c.args.findings.now.items c.requires.inside unused c.requires.reported)

pub returns-clause-reported : goal.returns-clause-reported
returns-clause-reported c =
    let here = get_or_default c.args.freelist.now.table.now c.args.n (first_use c.args.n) Unused c.requires.inside in
    rw (add-one c.args.n, c.in_ok-push_page.ensures, c.in_ok-push_interval.ensures)
    (table_reported c.args.freelist.now c.requires.settled c.args.n c.args.from c.args.findings.now.items (get_or c.args.freelist.now.table.now c.args.n Unused)
    c.requires.inside c.requires.order here (λ e. false≢true (sym c.if-is_unused.false ∙ c.is_unused.ensures.1 e)) c.requires.reported)

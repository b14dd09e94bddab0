use Rattle.std.proofs.Common.{add-one}
use Rattle.bolt_check.proofs.FreelistSteps.{beyond_reported}
use Rattle.bolt_check.proofs.freelist_findings.push_high_id.Goals as goal

pub returns : goal.returns
returns c =
    rw (add-one c.args.i, c.in_ok-push.ensures.items, c.of_page.ensures)
    (beyond_reported c.args.freelist.now c.requires.settled c.args.last c.args.i c.args.findings.now.items c.requires.place c.if-id-freelist.false
    c.if-id-last.false c.requires.reported)

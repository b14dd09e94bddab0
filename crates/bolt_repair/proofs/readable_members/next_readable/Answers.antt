-- Nothing is left, so nothing that can be read was.
use Rattle.std.proofs.Common.{ap, sym, ◌∙◌}
use Rattle.bolt_repair.specs.Stripped.{strip}
use Rattle.bolt_repair.proofs.readable_members.next_readable.Goals as goal

pub returns-clause-given : goal.returns-clause-given
returns-clause-given c = λ whole reads.
    let given = c.in_ok-item.ensures.given whole ((c.rest.invariant.reads whole).1 reads) in
    let (none, empty, at) = rw c.in_default.is at given in
    (sym (c.rest.invariant.left whole reads) ∙ ap (strip c.args.is_near) none, empty, at)

use Rattle.std.proofs.Common.{◌∙◌, ap, not}
use Rattle.bolt_repair.proofs.NewestUntil.{goes_new, goes_old}
use Rattle.bolt_repair.proofs.repair.goes_back.Goals as goal

pub returns-then-not-is_until : goal.returns-then-not-is_until
returns-then-not-is_until c =
    ap not c.if-not-is_until.true ∙ goes_new c.args.compacted c.args.newest.now c.args.revision.now c.is_until.result c.is_until.ensures c.if-not-is_until.true

pub returns-else-not-is_until : goal.returns-else-not-is_until
returns-else-not-is_until c =
    goes_old c.args.compacted c.args.newest.now c.args.revision.now c.is_until.result c.is_until.ensures (ap not c.if-not-is_until.false) c.has_stored_key.result
    c.has_stored_key.ensures

use Rattle.std.proofs.Common.{refl, rules}
use Rattle.std.proofs.lemmas.Grind.{common_steps}
use Rattle.test_calls.specs.declared.log.Record.{Record}
use Rattle.test_calls.proofs.log.push.Goals as goal

pub returns : goal.returns
returns c =
    let last : Record = record { kind = c.args.kind; name = c.in_ok-name.name; bytes = c.in_ok-bytes.bytes; permissions = c.args.permissions } in
    (last, c.in_ok-push.ensures.items, search (rules, common_steps))

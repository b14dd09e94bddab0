use Rattle.std.proofs.Common.{arith}
use Rattle.bolt_recover.proofs.Words.{common_steps, map-append, nil_from_length, take-map}
use Rattle.bolt_recover.proofs.steps.Steps.lose.Goals as goal

pub returns-clause-reported : goal.returns-clause-reported
returns-clause-reported c =
    grind (
      arith,
      nil_from_length,
      common_steps,
      map-append,
      take-map,
      c.requires.empty,
      c.in-Ok.ensures.items,
      c.replace-bucket.ensures.value,
      c.as_slice.ensures.value,
      c.push_reserved.ensures.items,
      c.new-2.ensures,
    )

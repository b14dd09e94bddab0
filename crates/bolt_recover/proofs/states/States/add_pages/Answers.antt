use Rattle.std.proofs.Common.{arith}
use Rattle.bolt_recover.proofs.StatesTried.{all_tried}
use Rattle.bolt_recover.proofs.states.States.add_pages.Goals as goal

pub returns-clause-tried : goal.returns-clause-tried
returns-clause-tried c =
    let (places, are, tried) = c.loop-root.invariant.tried in
    let both = all_tried c.args.file.now c.args.page_size c.loop-root.root (λ p is.
    let below = (c.assumed_meta-pages.ensures.high_water p.root).1 is.2 in let over = c.loop-root-test.false in omega (arith, below, over)) in
    (places, are, λ p. (λ has. (both p).0 ((tried p).0 has), λ is. (tried p).1 ((both p).1 is)))

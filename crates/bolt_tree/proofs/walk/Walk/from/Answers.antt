use Rattle.bolt_tree.proofs.{Words.∥∥₁_elim, Words.∥∥₁_prop, Climbing.listed_in, Walking.begins}
use Rattle.bolt_tree.specs.Walks.{left_of}
use Rattle.bolt_tree.proofs.walk.Walk.from.Goals as goal

pub seek-requires-clause-placed : goal.seek-requires-clause-placed
seek-requires-clause-placed c =
    ∥∥₁_elim (begins c.args.checked c.new-buckets.result c.new-buckets.ensures.checked c.new-buckets.ensures.cursors c.new-buckets.ensures.path)
    ∥∥₁_prop (λ p. p.0)

pub returns-clause-rest : goal.returns-clause-rest
unfolding left_of
returns-clause-rest c = λ listing lists.
    c.in_ok-ahead.ensures.left listing (listed_in c.new-buckets.result.checked c.args.checked listing c.new-buckets.ensures.checked lists)

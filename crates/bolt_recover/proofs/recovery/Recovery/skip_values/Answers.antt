use Rattle.bolt_recover.proofs.Words.{∥∥₁_elim}
use Rattle.bolt_recover.proofs.Recovering.{placed_prop}
use Rattle.bolt_recover.proofs.recovery.Recovery.skip_values.Goals as goal

pub skip_values-requires : goal.skip_values-requires
skip_values-requires c = ∥∥₁_elim c.args.self.now.placed (placed_prop c.args.self.now.steps) (λ placed. placed)

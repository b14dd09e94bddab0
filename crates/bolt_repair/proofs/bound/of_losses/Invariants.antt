use Rattle.std.proofs.Common.{◌≡◌, drop, map}
use Rattle.bolt_repair.specs.Bounds.{bound_of_losses, greater}
use Rattle.bolt_recover.specs.ShownLosses.{loss_view}
use Rattle.bolt_repair.proofs.bound.of_losses.Given as goal

-- the greatest so far and that of the others are that of all
abbrev pub invariant-rest : goal.invariant-rest
invariant-rest l = greater l.bound (bound_of_losses (map loss_view (drop l.loss-index l.losses))) ≡ bound_of_losses (map loss_view l.losses)

-- The page is written, unless it has no number.
use Rattle.std.proofs.Common.{rules}
use Rattle.bolt_bulk.proofs.PutsLemmas.{closes_above}
use Rattle.bolt_bulk.proofs.leaf_run.LeafRun.close.Goals as goal

pub returns-in_err-after-clause-closes : goal.returns-in_err-after-clause-closes
returns-in_err-after-clause-closes g c =
    record { closes = closes_above c.from_residual.ensures.1 c.in_err-after.ensures.fault c.in_err-after.ensures.large; up = search rules }

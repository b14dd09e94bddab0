-- The rows below this level have their limits, and the others have none yet.
use Rattle.std.proofs.Common.{map}
use Rattle.bolt_bulk.specs.Private.{run_end}
use Rattle.bolt_bulk.proofs.LimitLemmas.{Noting}
use Rattle.bolt_bulk.proofs.limits.Limits.add_bucket.Given as goal

abbrev pub invariant-loop-level : goal.invariant-loop-level
invariant-loop-level l = Noting l.initial.self l.self l.bucket (map run_end l.runs) l.lost l.level

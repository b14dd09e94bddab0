use Rattle.std.proofs.Common.{ℕ, ◌<◌, ◌≤◌}
use Rattle.bolt_check.proofs.Words.{IsUnclaimed}
use Rattle.bolt_check.proofs.table.first_claimed.Given as goal

-- none of the pages so far is claimed
abbrev pub invariant-loop-n : goal.invariant-loop-n
invariant-loop-n l = (k : ℕ) → l.from ≤ k → k < l.n → IsUnclaimed l.table k

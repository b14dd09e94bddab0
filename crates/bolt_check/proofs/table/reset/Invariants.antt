use Rattle.std.proofs.Common.{◌≡◌, ℕ, ◌<◌}
use Rattle.bolt_check.proofs.Words.{first_use, use_at}
use Rattle.bolt_check.proofs.table.reset.Given as goal

-- the entries so far are as at the start
abbrev pub invariant-loop-n : goal.invariant-loop-n
invariant-loop-n l = (k : ℕ) → k < l.n → use_at l.table k ≡ first_use k

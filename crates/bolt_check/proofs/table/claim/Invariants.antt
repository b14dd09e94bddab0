use Rattle.std.proofs.Common.{◌≡◌, ℕ, ◌+◌, ◌<◌, ◌≤◌}
use Rattle.bolt_check.proofs.Words.{IsClaimed, times_of, unclaimed, use_at}
use Rattle.bolt_check.specs.declared.table.PageUse.TheVariants.{Used}
use Rattle.bolt_check.proofs.table.claim.Given as goal

-- the span so far is claimed, and nothing else has changed
abbrev pub invariant-loop-n : goal.invariant-loop-n
invariant-loop-n l = record {
  span : (k : ℕ) → l.from ≤ k → k < l.n → IsClaimed l.table k;
  unlisted : (k : ℕ) → l.from ≤ k → k < l.n → times_of (use_at l.table k) ≡ 0;
  first : use_at l.table l.from ≡ l.fn.first;
  later : (k : ℕ) → l.from + 1 ≤ k → k < l.n → use_at l.table k ≡ Used;
  below : (k : ℕ) → k < l.from → use_at l.table k ≡ use_at l.fn.table k;
  above : (k : ℕ) → l.n ≤ k → use_at l.table k ≡ use_at l.fn.table k;
  fewer : unclaimed l.table < unclaimed l.fn.table;
}

use Rattle.std.proofs.Common.{◌≡◌, ℕ, ◌<◌, ◌≤◌, length}
use Rattle.bolt_check.proofs.Words.{Unused, use_at}
use Rattle.bolt_check.specs.declared.table.PageUse.TheVariants.{Used}
use Rattle.bolt_check.proofs.table.new_table.Given as goal

-- the pages so far are used, and the others aren't
abbrev pub invariant-loop-n : goal.invariant-loop-n
invariant-loop-n l = record {
  long : length l.table.items ≡ length l.initial.table.items;
  metas : (k : ℕ) → k < l.n → use_at l.table.items k ≡ Used;
  others : (k : ℕ) → l.n ≤ k → k < length l.table.items → use_at l.table.items k ≡ Unused;
}

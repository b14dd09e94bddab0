use Rattle.std.proofs.Common.{◌≡◌, ℕ, ◌<◌, length, min, take}
use Rattle.bolt_check.proofs.Words.{is_used, shown_ids, times_in, times_of, use_at}
use Rattle.bolt_check.proofs.listed_pages.list_ids.Given as goal

-- the ids so far are listed
abbrev pub invariant-loop-i : goal.invariant-loop-i
invariant-loop-i l = record {
  used : (n : ℕ) → is_used (use_at l.table n) ≡ is_used (use_at l.fn.table n);
  times : (n : ℕ) → n < length l.fn.table → times_of (use_at l.table n) ≡ min 2 (times_in (take l.i (shown_ids l.ids)) n);
  kept : (n : ℕ) → times_in (take l.i (shown_ids l.ids)) n ≡ 0 → use_at l.table n ≡ use_at l.fn.table n;
}

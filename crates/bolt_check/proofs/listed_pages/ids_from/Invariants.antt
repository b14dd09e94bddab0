use Rattle.std.proofs.Common.{◌≡◌, filter, nat_le, take}
use Rattle.bolt_check.proofs.Words.{shown_ids}
use Rattle.bolt_check.proofs.listed_pages.ids_from.Given as goal

abbrev pub invariant-loop-i : goal.invariant-loop-i
invariant-loop-i l = l.past.items ≡ filter (λ id. nat_le l.first id) (take l.i (shown_ids l.ids))

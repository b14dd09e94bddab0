-- Byte order, and the bounds of keys.
use Rattle.std.proofs.Common.{arith, ◌≡◌, true, false, not, Option, Some, None, refl, ap}
use Rattle.std.proofs.{lemmas.Cmp.nat_list_cmp_total, lemmas.List.MinMax.ranks_by}
use Rattle.std.specs.{Cmp.IsStrictWeakOrder}
use Rattle.std.proofs.lemmas.Bool.{true_from_ne_false}
use Rattle.bolt_check.proofs.Words.{both_ways, is_above, is_below, is_from, Key, key_lt, not-true}

order : IsStrictWeakOrder key_lt
order = ranks_by nat_list_cmp_total (λ (key : Key). key)

-- from a < b and b ≤ c
pub lt_not_trans : (a b c : Key) → key_lt a b ≡ true → key_lt c b ≡ false → key_lt a c ≡ true
lt_not_trans a b c h k = true_from_ne_false (key_lt a c) (λ f. both_ways (key_lt a b) (order.chain a c b f k) h)

pub lt_not_back : (a b : Key) → key_lt a b ≡ true → key_lt b a ≡ false
lt_not_back a b h = order.one_way a b h

pub lt_trans : (a b c : Key) → key_lt a b ≡ true → key_lt b c ≡ true → key_lt a c ≡ true
lt_trans a b c h k = lt_not_trans a b c h (lt_not_back b c k)

pub lt_strict : (a b : Key) → key_lt a b ≡ true → key_lt b a ≡ true → ⊥
lt_strict a b h k = both_ways (key_lt b a) (lt_not_back a b h) k

pub above_more : (before : Option Key) (a b : Key) → is_above before a ≡ true → key_lt a b ≡ true → is_above before b ≡ true
above_more before a b e h = grind (arith, lt_trans)

pub below_less : (upper : Option Key) (a b : Key) → is_below upper a ≡ true → key_lt b a ≡ true → is_below upper b ≡ true
below_less upper a b e h = grind (arith, lt_trans)

pub from_more : (lower : Option Key) (a b : Key) → is_from lower a ≡ true → key_lt b a ≡ false → is_from lower b ≡ true
from_more None a b e h = refl
from_more (Some x) a b e h = ap not (order.chain b a x h (not-true (key_lt a x) e))

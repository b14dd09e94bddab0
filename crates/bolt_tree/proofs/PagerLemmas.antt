-- The counts of a pager.
use Rattle.std.proofs.Common.{◌≡◌, ◌+◌, ◌<◌, ◌^◌, ℕ, arith}
use Rattle.bolt_tree.proofs.Words.{counted, pager_opened}
use Rattle.bolt_tree.specs.declared.pager.Pager.{Pager}

pub opened_fits : (pager : Pager) → pager_opened pager < 2 ^ 64
unfolding pager_opened
opened_fits pager = pager.fits

pub counted_zero : (pager : Pager) → counted (pager_opened pager) 0 ≡ pager_opened pager
counted_zero pager = let h = opened_fits pager in omega (arith, h)

pub counted_more : (a m n : ℕ) → counted (counted a m) n ≡ counted a (m + n)
counted_more a m n = omega arith

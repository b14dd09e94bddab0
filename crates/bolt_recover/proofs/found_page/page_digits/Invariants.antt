use Rattle.std.proofs.Common.{◌≡◌, ◌-◌, ◌++◌, drop, length}
use Rattle.bolt_recover.proofs.Words.{last_digits}
use Rattle.bolt_recover.proofs.found_page.page_digits.Given as goal

-- the last digits stand, and the others are those of the rest
abbrev pub invariant-loop-i : goal.invariant-loop-i
invariant-loop-i l = record {
  sixteen : length l.digits ≡ 16;
  digits : last_digits 16 l.fn.number ≡ last_digits (16 - l.i) l.rest ++ drop (16 - l.i) l.digits;
}

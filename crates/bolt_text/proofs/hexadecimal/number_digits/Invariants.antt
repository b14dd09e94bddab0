use Rattle.std.proofs.Common.{◌≡◌, ◌<◌, ◌≤◌, ◌+◌, ◌^◌, ◌*◌, drop, false, length}
use Rattle.std.specs.Fmt.{digits, digits_onto}
use Rattle.bolt_text.proofs.hexadecimal.number_digits.Given as goal

-- the digits of what is left come before those that are written
abbrev pub invariant-digits : goal.invariant-digits
invariant-digits l = record {
  text : digits_onto (49 + l.at) 16 false l.rest (drop (l.at + 1) l.buffer) ≡ digits 16 false l.n;
  fits : l.rest < 16 * 16 ^ l.at;
  long : length l.buffer ≡ 16;
  low : l.at ≤ 15;
}

abbrev pub decreases-digits : goal.decreases-digits
decreases-digits l = l.at

-- The digits of a number in hexadecimal, one after another from the last.
use Rattle.std.proofs.Common.{◌≡◌, ◌∙◌, ◌<◌, ◌≤◌, ◌+◌, ◌-◌, ◌*◌, ◌/◌, ◌%◌, ◌^◌, ℕ, zero, suc, false, List, [], ◌∷◌, sym, ap, arith}
use Rattle.std.proofs.lemmas.Bool.{cond-false, cond-true, eq-eqb, ne_eqb}
use Rattle.std.specs.Fmt.{digit_glyph, digits, digits_onto}

above : (k rest : ℕ) (written : List ℕ) → 16 ≤ rest
    → digits_onto (suc k) 16 false rest written ≡ digits_onto k 16 false (rest / 16) (digit_glyph false (rest % 16) ∷ written)
above k rest written most = cond-false _ _ _ (ne_eqb (rest / 16) 0 (λ e. omega (arith, e)))

last : (k rest : ℕ) (written : List ℕ) → rest < 16 → digits_onto (suc k) 16 false rest written ≡ digit_glyph false rest ∷ written
last k rest written least =
    cond-true _ _ _ (eq-eqb (rest / 16) 0 (omega arith)) ∙ ap (λ (d : ℕ). digit_glyph false d ∷ written) (omega arith)

pub is_inside : (at rest : ℕ) → 16 ≤ rest → rest < 16 * 16 ^ at → 1 ≤ at
is_inside zero rest most fits = absurd (omega arith)
is_inside (suc at) rest most fits = omega arith

pub smaller : (at rest : ℕ) → 16 ≤ rest → rest < 16 * 16 ^ at → rest / 16 < 16 * 16 ^ (at - 1)
smaller zero rest most fits = absurd (omega arith)
smaller (suc at) rest most fits = let down : 16 ^ (suc at - 1) ≡ 16 ^ at = ap (λ (n : ℕ). 16 ^ n) (omega arith) in omega (arith, down)

-- one more digit is written
pub goes_on : (at rest : ℕ) (digit : ℕ) (written more text : List ℕ) → 16 ≤ rest → rest < 16 * 16 ^ at
    → digits_onto (49 + at) 16 false rest written ≡ text
    → digit ≡ digit_glyph false (rest % 16) → more ≡ digit ∷ written → digits_onto (49 + (at - 1)) 16 false (rest / 16) more ≡ text
goes_on zero rest digit written more text most fits before is same = absurd (omega arith)
goes_on (suc at) rest digit written more text most fits before is same =
    let up : 49 + suc at ≡ suc (49 + at) = omega arith in
    let down : 49 + (suc at - 1) ≡ 49 + at = omega arith in
    rw (same, is, down) (sym (above (49 + at) rest written most) ∙ rw up at before)

pub begins : (n : ℕ) (written : List ℕ) → written ≡ [] → digits_onto (49 + 15) 16 false n written ≡ digits 16 false n
unfolding digits
begins n written none = ap (digits_onto 64 16 false n) none

-- the first digit is written last
pub ends : (at rest : ℕ) (written text : List ℕ) → rest < 16 → digits_onto (49 + at) 16 false rest written ≡ text
    → digit_glyph false rest ∷ written ≡ text
ends at rest written text least before = grind arith

-- Tests one after the other: their first fault, and whether an element passes a test.
use Rattle.std.proofs.Common.{◌≡◌, ℕ, ◌+◌, ◌-◌, ◌<◌, ◌≤◌, Bool, false, ◌||◌, Option, None, Some, arith, ap, refl}
use Rattle.std.specs.List.{list_any, range_with_len}
use Rattle.bolt_format.specs.Elements.{faults_from, first_of}

-- neither of two has a fault
pub first_of-none : (a b : Option ℕ) → first_of a b ≡ None → (a ≡ None) × (b ≡ None)
first_of-none None b e = (refl, e)
first_of-none (Some fault) b e = absurd (cc)

pub first_of-both : (a b : Option ℕ) → a ≡ None → b ≡ None → first_of a b ≡ None
first_of-both a b e f = rw (e, f) refl

-- element i, and then the rest
pub faults_from_step : (fault : ℕ → ℕ → Option ℕ) (end : ℕ → ℕ) (free i count : ℕ) → i < count
    → faults_from fault end free i (count - i) ≡ first_of (fault free i) (faults_from fault end (end i) (i + 1) (count - (i + 1)))
faults_from_step fault end free i count h = grind arith

-- no element is left
pub faults_from_end : (fault : ℕ → ℕ → Option ℕ) (end : ℕ → ℕ) (free i count : ℕ) → count ≤ i → faults_from fault end free i (count - i) ≡ None
faults_from_end fault end free i count h = let left : count - i ≡ 0 = omega arith in ap (faults_from fault end free i) left

-- whether one of the numbers passes: number i, and then the rest
pub list_any-step : (test : ℕ → Bool) (i count : ℕ) → i < count
    → list_any test (range_with_len i (count - i)) ≡ (test i || list_any test (range_with_len (i + 1) (count - (i + 1))))
list_any-step test i count h = grind arith

pub list_any-end : (test : ℕ → Bool) (i count : ℕ) → count ≤ i → list_any test (range_with_len i (count - i)) ≡ false
list_any-end test i count h = let left : count - i ≡ 0 = omega arith in ap (λ n. list_any test (range_with_len i n)) left

pub ruleset any_steps = (list_any-step, list_any-end)

-- A search by halves.
use Rattle.std.proofs.Common.{◌≡◌, ℕ, zero, suc, ◌+◌, ◌*◌, ◌≤◌, ◌<◌, inl, inr, Bool, true, false, not, List, Some, slice_get, refl, sym, ap, ◌∙◌}
use Rattle.std.proofs.Common.{arith, add-one}
use Rattle.std.proofs.Math.Nat.{mul-le-mul_left}
use Rattle.bolt_tree.proofs.Words.{Key, KeysRise, cases_lt, doubled, false_from_ne_true, key_lt, lt_trans, not-true, stands_before}

-- what stands before a key that stands before does so too
pub before_down : (or_equal : Bool) (a b s : Key) → key_lt a b ≡ true → stands_before or_equal b s ≡ true → stands_before or_equal a s ≡ true
before_down or_equal a b s h e = grind (arith, not, false_from_ne_true, not-true, lt_trans)

-- and the other way round
pub before_up : (or_equal : Bool) (a b s : Key) → key_lt a b ≡ true → stands_before or_equal a s ≡ false → stands_before or_equal b s ≡ false
before_up or_equal a b s h k = false_from_ne_true (stands_before or_equal b s) (λ t. let before = before_down or_equal a b s h t in cc)

same_key : (keys : List Key) (k m : ℕ) (a b : Key) → k ≡ m → slice_get keys k ≡ Some a → slice_get keys m ≡ Some b → a ≡ b
same_key keys k m a b e g h = let r : slice_get keys m ≡ Some a = ap (slice_get keys) (sym e) ∙ g in cc

-- the middle key tells of those on its side
pub below_middle : (keys : List Key) (or_equal : Bool) (s m : Key) (middle k : ℕ) (a : Key) → KeysRise keys → slice_get keys middle ≡ Some m
    → stands_before or_equal m s ≡ true
    → k < middle + 1 → slice_get keys k ≡ Some a → stands_before or_equal a s ≡ true
below_middle keys or_equal s m middle k a rise g e l h = elim (cases_lt k middle) [
  | inl lt ↦ before_down or_equal a m s (rise k middle a m lt h g) e
  | inr ge ↦ (let same : a ≡ m = same_key keys k middle a m (omega arith) h g in rw same e)
]

pub above_middle : (keys : List Key) (or_equal : Bool) (s m : Key) (middle k : ℕ) (a : Key) → KeysRise keys → slice_get keys middle ≡ Some m
    → stands_before or_equal m s ≡ false
    → middle ≤ k → slice_get keys k ≡ Some a → stands_before or_equal a s ≡ false
above_middle keys or_equal s m middle k a rise g e l h = elim (cases_lt middle k) [
  | inl lt ↦ before_up or_equal m a s (rise middle k m a lt g h) e
  | inr ge ↦ (let same : a ≡ m = same_key keys k middle a m (omega arith) h g in rw same e)
]

-- how many halves there are
pub halved : (len less c : ℕ) → less * 2 ≤ len → len * doubled c ≤ 65535 → less * doubled (c + 1) ≤ 65535
halved len less c h few =
    let twice : doubled (c + 1) ≡ 2 * doubled c = ap doubled (add-one c) in
    rw twice (omega (arith, mul-le-mul_left (doubled c) h, few))

positive : (c : ℕ) → 1 ≤ doubled c
positive zero = omega arith
positive (suc c) = let p = positive c in omega (arith, p)

grows : (n c : ℕ) → n ≤ c → doubled n ≤ doubled c
grows (suc n) (suc c) h = let r = grows n c (omega arith) in omega (arith, r)
grows n c h = grind (arith, positive)

pub sixteen : (len c : ℕ) → 1 ≤ len → len * doubled c ≤ 65535 → c + 1 ≤ 16
sixteen len c one few = elim (cases_lt c 16) [
  | inl lt ↦ omega arith
  | inr ge ↦ (
      let g : doubled 16 ≤ doubled c = grows 16 c ge in
      let big : doubled 16 ≡ 65536 = refl in
      absurd (omega (arith, g, mul-le-mul_left (doubled c) one, few, big)))
]

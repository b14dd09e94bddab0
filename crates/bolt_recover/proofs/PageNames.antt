-- The names of found pages rise with their numbers.
use Rattle.std.proofs.Common.{◌≡◌, ◌∙◌, ℕ, zero, suc, ◌<◌, ◌+◌, ◌/◌, ◌%◌, ◌^◌, [], ◌∷◌, ◌++◌, length, refl, sym, arith}
use Rattle.bolt_lemmas.proofs.Exports.{then_less}
use Rattle.bolt_recover.proofs.Words.{cases_lt, Key, key_cmp, last_digits, length-append, Less, nat_cmp, nat_cmp_is, nat_cmp_total}
use Rattle.bolt_recover.proofs.Words.{tied_itself}

-- texts of the same length, and more after them
less_more : (xs ys a b : Key) → length xs ≡ length ys → key_cmp xs ys ≡ Less → key_cmp (xs ++ a) (ys ++ b) ≡ Less
less_more (x ∷ xs) (y ∷ ys) a b same less = let later = less_more xs ys a b in grind (arith, then_less, later)
less_more xs ys a b same less = grind arith

same_more : (xs a b : Key) → key_cmp (xs ++ a) (xs ++ b) ≡ key_cmp a b
same_more [] a b = refl
same_more (x ∷ xs) a b = rw (tied_itself nat_cmp_total x) (same_more xs a b)

pub digits_long : (count n : ℕ) → length (last_digits count n) ≡ count
digits_long zero n = refl
digits_long (suc count) n = length-append (last_digits count (n / 10)) ((48 + n % 10) ∷ []) ∙ (let long = digits_long count (n / 10) in omega (arith, long))

one_digit : (a b : ℕ) → a < b → key_cmp ((48 + a) ∷ []) ((48 + b) ∷ []) ≡ Less
one_digit a b less = let cmp : nat_cmp (48 + a) (48 + b) ≡ Less = sym (nat_cmp_is (48 + a) (48 + b) Less (omega (arith, less))) in rw cmp refl

pub digits_rise : (count n m : ℕ) → n < m → m < 10 ^ count → key_cmp (last_digits count n) (last_digits count m) ≡ Less
digits_rise zero n m less within = absurd (omega (arith, less, within))
digits_rise (suc count) n m less within = let later = digits_rise count in grind (arith, cases_lt, less_more, digits_long, same_more, one_digit, later)

-- How often a number is in a sorted list.
use Rattle.std.proofs.lemmas.Grind.{common_steps}
use Rattle.std.proofs.Common.{◌≡◌, ◌∙◌, ◌==◌, ℕ, zero, suc, ◌+◌, ◌<◌, ◌≤◌, List, [], ◌∷◌, length, get_or, cond, refl, ap, arith, inl, inr}
use Rattle.std.specs.List.Sorted.{IsNonDecreasing}
use Rattle.bolt_check.proofs.Words.{cases_eq, eq-eqb, ne_eqb, sum_by-cons, times_in}

-- one number more
times_cons : (x n : ℕ) (xs : List ℕ) → times_in (x ∷ xs) n ≡ cond (x == n) 1 0 + times_in xs n
times_cons x n xs = sum_by-cons (λ id. cond (id == n) 1 0) x xs

times_here : (x n : ℕ) (xs : List ℕ) → x ≡ n → times_in (x ∷ xs) n ≡ 1 + times_in xs n
times_here x n xs e = times_cons x n xs ∙ ap (λ b. cond b 1 0 + times_in xs n) (eq-eqb x n e)

times_there : (x n : ℕ) (xs : List ℕ) → (x ≡ n → ⊥) → times_in (x ∷ xs) n ≡ times_in xs n
times_there x n xs ne = let e = times_cons x n xs ∙ ap (λ b. cond b 1 0 + times_in xs n) (ne_eqb x n ne) in omega (arith, e)

-- a number above which, or below which, all others are, stands nowhere
pub times_none : (xs : List ℕ) (n : ℕ) → ((k : ℕ) → k < length xs → get_or xs k 0 ≡ n → ⊥) → times_in xs n ≡ 0
times_none [] n none = refl
times_none (x ∷ xs) n none = times_there x n xs (none 0 (omega arith)) ∙ times_none xs n (λ k h. none (suc k) (omega arith))

-- what stands at a place stands there once at least
pub times_some : (xs : List ℕ) (n k : ℕ) → k < length xs → get_or xs k 0 ≡ n → 1 ≤ times_in xs n
times_some (x ∷ xs) n (suc k) h e = omega (arith, times_cons x n xs, times_some xs n k (omega arith) e)
times_some xs n k h e = grind (arith, common_steps, times_here)

-- and what stands once at least stands at a place
pub place_of : (xs : List ℕ) (n : ℕ) → 1 ≤ times_in xs n → (k : ℕ) × ((k < length xs) × (get_or xs k 0 ≡ n))
place_of [] n h = absurd (omega arith)
place_of (x ∷ xs) n h =
    elim (cases_eq x n) [
      | inl same ↦ (0, (omega arith, same))
      | inr other ↦ let t = times_there x n xs other in let (k, (l, e)) = place_of xs n (omega (arith, t)) in (suc k, (omega arith, e))
    ]

-- at its first place a number stands once, unless the next is the same
pub times_once : (xs : List ℕ) (i : ℕ) → IsNonDecreasing xs → i < length xs → ((k : ℕ) → k < i → get_or xs k 0 < get_or xs i 0)
    → (suc i < length xs → get_or xs (suc i) 0 ≡ get_or xs i 0 → ⊥) → times_in xs (get_or xs i 0) ≡ 1
times_once [] i up h first next = absurd (omega arith)
times_once (x ∷ xs) zero up h first next =
    let none : times_in xs x ≡ 0 = times_none xs x (λ k l e.
    let low = up 1 (suc k) 0 (omega arith) (omega arith) in let high = up 0 1 0 (omega arith) (omega arith) in
    next (omega arith) (omega (arith, low, high, e))) in
    let t = times_here x x xs refl in omega (arith, t, none)
times_once (x ∷ xs) (suc i) up h first next =
    let below = first 0 (omega arith) in
    let rest =
    times_once xs i (λ a b d order l. up (suc a) (suc b) d (omega arith) (omega arith)) (omega arith) (λ k l. first (suc k) (omega arith))
    (λ l e. next (omega arith) e) in
    times_there x (get_or xs i 0) xs (λ e. omega (arith, below, e)) ∙ rest

-- and at least twice, where it is
pub times_twice : (xs : List ℕ) (i : ℕ) → suc i < length xs → get_or xs (suc i) 0 ≡ get_or xs i 0 → 2 ≤ times_in xs (get_or xs i 0)
times_twice (x ∷ xs) (suc i) h e = omega (arith, times_cons x (get_or xs i 0) xs, times_twice xs i (omega arith) e)
times_twice xs i h e = grind (arith, common_steps, times_here, times_some)

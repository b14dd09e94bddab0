-- Lists of numbers: those below one, a list without one of its numbers, and sums.
use Rattle.std.proofs.Common.{Bool, List, [], ap, arith, cond, false, inl, inr, length, map, refl, suc, sum_by, sym, zero, ℕ, ◌<◌, ◌∙◌, ◌∷◌, ◌≡◌, ◌≢◌}
use Rattle.std.proofs.lemmas.Bool.{cases_eq}
use Rattle.std.proofs.lemmas.List.Sums.{sum_by-cons}
use Rattle.std.specs.List.{Contains, count_by}
use Rattle.bolt_lemmas.proofs.Members.{contains_head, contains_tail}
use Rattle.bolt_lemmas.specs.Lists.{Has}

-- a list of numbers, without one that it has
abbrev pub without : (n : ℕ) (xs : List ℕ) → Has xs n → List ℕ
without n [] h = []
without n (x ∷ xs) (inl e) = xs
without n (x ∷ xs) (inr h) = x ∷ without n xs h

pub shorter : (n : ℕ) (xs : List ℕ) (h : Has xs n) → length (without n xs h) < length xs
shorter n (x ∷ xs) (inr h) = let less = shorter n xs h in omega (arith, less)
shorter n xs h = grind arith

pub still : (n m : ℕ) (xs : List ℕ) (h : Has xs n) → m ≢ n → Has xs m → Has (without n xs h) m
still n m [] h ne k = absurd h
still n m (x ∷ xs) (inl e) ne (inl k) = absurd (ne (sym k ∙ e))
still n m (x ∷ xs) (inl e) ne (inr k) = k
still n m (x ∷ xs) (inr h) ne (inl k) = inl k
still n m (x ∷ xs) (inr h) ne (inr k) = inr (still n m xs h ne k)

-- the numbers below one
abbrev pub numbers : ℕ → List ℕ
numbers zero = []
numbers (suc k) = k ∷ numbers k

pub has_number : (n k : ℕ) → n < k → Has (numbers k) n
has_number n zero h = absurd (omega arith)
has_number n (suc k) h = elim (cases_eq n k) [ inl e ↦ inl (sym e) | inr ne ↦ inr (has_number n k (omega arith)) ]

pub length-numbers : (k : ℕ) → length (numbers k) ≡ k
length-numbers zero = refl
length-numbers (suc k) = let h = length-numbers k in omega (arith, h)

pub sum_same : (f g : ℕ → ℕ) (xs : List ℕ) → ((m : ℕ) → Has xs m → f m ≡ g m) → sum_by f xs ≡ sum_by g xs
sum_same f g [] same = refl
sum_same f g (x ∷ xs) same =
    let h = sum_same f g xs (λ m i. same m (inr i)) in let here = same x (inl refl) in
    let p = sum_by-cons f x xs in let q = sum_by-cons g x xs in omega (arith, h, here, p, q)

pub sum_map : {X Y : Type 0} (f : X → Y) (size : Y → ℕ) (xs : List X) → sum_by size (map f xs) ≡ sum_by (λ x. size (f x)) xs
sum_map f size [] = refl
sum_map f size (x ∷ xs) = omega (arith, sum_by-cons, sum_map f size xs)

pub none_counted : {X : Type 0} (f : X → Bool) (xs : List X) → ((y : X) → Contains xs y → f y ≡ false) → count_by f xs ≡ 0
none_counted f [] out = refl
none_counted f (x ∷ xs) out =
    let later = none_counted f xs (λ y has. out y (contains_tail x y xs has)) in
    let sum = sum_by-cons (λ y. cond (f y) 1 0) x xs in
    let here : cond {A = ℕ} (f x) 1 0 ≡ 0 = ap (λ b. cond b 1 0) (out x (contains_head x xs)) in
    omega (arith, later, sum, here)

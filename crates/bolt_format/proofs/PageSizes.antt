-- Accepted page sizes have bounds.
use Rattle.std.proofs.Common.{ℕ, zero, suc, ◌+◌, ◌*◌, ◌^◌, ◌≤◌, ◌==◌, List, [], ◌∷◌, map, IsTrue, inl, inr, arith}
use Rattle.std.proofs.{Math.Nat.one-le-pow, Math.Nat.pow-le-pow_right, lemmas.Bool.eqb-true, lemmas.Bool.or_cases}
use Rattle.std.specs.List.{AllByRecursion, list_any, range_with_len}
use Rattle.bolt_format.specs.Metas.{IsPageSize, page_size_count, page_sizes}

abbrev pub largest_page : ℕ
largest_page = 0x2000000

abbrev IsBounded : ℕ → Type 0
IsBounded size = (1024 ≤ size) × (size ≤ largest_page)

sizes_bounded : (k n : ℕ) → k + n ≤ page_size_count → AllByRecursion IsBounded (map (λ k. 1024 * 2 ^ k) (range_with_len k n))
sizes_bounded k zero h = tt
sizes_bounded k (suc n) h = grind (arith, one-le-pow, pow-le-pow_right, sizes_bounded (k + 1) n (omega arith))

one_bounded : (sizes : List ℕ) (n : ℕ) → AllByRecursion IsBounded sizes → IsTrue (list_any (λ size. size == n) sizes) → IsBounded n
one_bounded [] n all h = absurd (cc)
one_bounded (x ∷ sizes) n all h = elim (or_cases (x == n) (list_any (λ size. size == n) sizes) h) [
  | inl same ↦ (let e = eqb-true x n same in let a = all.0 in (omega arith, omega arith))
  | inr rest ↦ one_bounded sizes n all.1 rest
]

pub size_bounds : (n : ℕ) → IsPageSize n → (1024 ≤ n) × (n ≤ largest_page)
size_bounds n h = one_bounded page_sizes n (sizes_bounded 0 page_size_count (omega arith)) h

-- A table in which the ids are listed, with the ids past it sorted, is a freelist of them.
use Rattle.std.proofs.Common.{◌≡◌, ◌∙◌, ◌==◌, ℕ, ◌<◌, ◌≤◌, Bool, true, List, All, length, Vec, Global, Result, IfOk, cond, not, filter, min}
use Rattle.std.proofs.Common.{IsPermutation, inl, inr, refl, sym, ap, subst, arith, nat_le}
use Rattle.std.proofs.{lemmas.Bool.le-leb, lemmas.Bool.leb-true, lemmas.List.Elements.filter_passes}
use Rattle.std.proofs.{lemmas.List.Sorted.All-permutation, lemmas.List.Sorted.IsNonDecreasingBy-from_sort, lemmas.List.Sorted.sum_by-IsPermutation}
use Rattle.std.proofs.{lemmas.List.Filters.sum_by-filter_both}
use Rattle.std.specs.{List.Sorted.IsNonDecreasing, List.Sorted.IsSorted, Ordering.nat_cmp}
use Rattle.bolt_check.proofs.Words.{All-weaker, AllocError, AreAllFindings, both_ways, cases_lt, Finding, IfOk-weaker, is_in_use, is_used, IsClaimed}
use Rattle.bolt_check.proofs.Words.{IsSettled, listed_times, Freelist, not-true, PageUse, times_in, times_of, use_at}
use Rattle.bolt_check.proofs.{CountLemmas.times_none, FreelistSteps.times_past, FreelistSteps.times_table, AccountLemmas.reported_along}

-- a number that passes a test is as often in what passes
times_filter : (p : ℕ → Bool) (n : ℕ) → p n ≡ true → (xs : List ℕ) → times_in (filter p xs) n ≡ times_in xs n
times_filter p n passes xs =
    let others : List ℕ = filter (λ x. not (p x)) xs in
    let none = times_none others n
    (λ k h e. both_ways (p n) (not-true (p n) (subst (λ (m : ℕ). not (p m) ≡ true) e (filter_passes (λ x. not (p x)) xs k 0 h))) passes) in
    omega (arith, none, sum_by-filter_both p (λ x. not (p x)) (λ x. refl) (λ id. cond (id == n) 1 0) xs)

module _ (old : List PageUse) (ids past items : List ℕ) (freelist : Freelist) (long : length freelist.table.now ≡ length old)
    (used : (n : ℕ) → is_used (use_at freelist.table.now n) ≡ is_used (use_at old n))
    (are : past ≡ filter (λ id. nat_le (length old) id) ids) (moved : IsPermutation past items) (is : freelist.past.now ≡ items) where
  pub settled : IsSorted nat_cmp items → ((n : ℕ) → n < 2 → IsClaimed old n) → 2 ≤ length old → length old ≤ freelist.high_water → IsSettled freelist
  settled sorted metas wide below = record {
    sorted = subst IsNonDecreasing (sym is) (IsNonDecreasingBy-from_sort (λ (x : ℕ). x) items sorted);
    past = subst (All (λ (id : ℕ). length freelist.table.now ≤ id)) (sym is) (All-permutation (λ (id : ℕ). length freelist.table.now ≤ id) past items moved
        (subst (All (λ (id : ℕ). length freelist.table.now ≤ id)) (sym are)
        (All-weaker (λ (id : ℕ). nat_le (length old) id ≡ true) (λ (id : ℕ). length freelist.table.now ≤ id)
        (λ id e. let le = leb-true (length old) id e in omega (arith, long, le)) (filter (λ id. nat_le (length old) id) ids)
        (filter_passes (λ id. nat_le (length old) id) ids))));
    metas = λ n h. used n ∙ metas n h;
    wide = omega (arith, long, wide);
    below = omega (arith, long, below);
  }

  pub same_times : IsSettled freelist → ((n : ℕ) → n < length old → times_of (use_at freelist.table.now n) ≡ min 2 (times_in ids n))
      → (n : ℕ) → min 2 (listed_times freelist n) ≡ min 2 (times_in ids n)
  same_times ok times n = elim (cases_lt n (length freelist.table.now)) [
    | inl inside ↦ (let e = times_table freelist ok n inside in let t = times n (omega (arith, long, inside)) in omega (arith, e, t))
    | inr after ↦ (let e = times_past freelist ok n after in
        let same =
        ap (λ (xs : List ℕ). times_in xs n) is ∙ sum_by-IsPermutation (λ (id : ℕ). cond (id == n) 1 0) past items moved
        ∙ ap (λ (xs : List ℕ). times_in xs n) are
        ∙ times_filter (λ id. nat_le (length old) id) n (le-leb (length old) n (omega (arith, long, after))) ids in
        omega (arith, e, same))
  ]

  -- what is reported of the freelist is reported of the ids
  pub all_reported : IsSettled freelist → ((n : ℕ) → n < length old → times_of (use_at freelist.table.now n) ≡ min 2 (times_in ids n))
      → (r : Result (Vec Finding Global) AllocError)
      → IfOk r (λ reported. AreAllFindings freelist.high_water (is_in_use freelist) (listed_times freelist) reported.items)
      → IfOk r (λ reported. AreAllFindings freelist.high_water (IsClaimed old) (times_in ids) reported.items)
  all_reported ok times r reported =
      IfOk-weaker r (λ reported. AreAllFindings freelist.high_water (is_in_use freelist) (listed_times freelist) reported.items)
      (λ reported. AreAllFindings freelist.high_water (IsClaimed old) (times_in ids) reported.items)
      (λ v. reported_along freelist.high_water (is_in_use freelist) (IsClaimed old) (listed_times freelist) (times_in ids)
      (record { there = λ n claimed. sym (used n) ∙ claimed; back = λ n claimed. used n ∙ claimed; counted = same_times ok times }) v.items) reported

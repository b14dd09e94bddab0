-- Claiming lowers the count of what is unclaimed, and listing an id claims nothing.
use Rattle.std.proofs.{lemmas.List.get_or_past, lemmas.List.set_past, lemmas.List.Sums.sum_by-set}
use Rattle.std.proofs.Common.{◌≡◌, ◌↔◌, ◌∙◌, ℕ, ◌<◌, ◌≤◌, List, length, set, arith, cond, not, true, inl, inr, ap, get_or, get_or-set_other}
use Rattle.std.proofs.Common.{get_or-set_same, refl, sym}
use Rattle.bolt_check.proofs.Words.{cases_eq, cases_lt, first_use, get_or_default, is_used, IsUnclaimed, le-ltb, lt-ltb, PageUse, times_of, unclaimed}
use Rattle.bolt_check.proofs.Words.{Unused, use_at}
use Rattle.bolt_check.specs.declared.table.PageUse.TheVariants.{Used}

abbrev weight : PageUse → ℕ
weight page_use = cond (not (is_used page_use)) 1 0

pub unclaimed_fewer : (t : List PageUse) (i : ℕ) (u : PageUse) → is_used u ≡ true → i < length t → IsUnclaimed t i
    → unclaimed (set t i u) < unclaimed t
unclaimed_fewer t i u used h e = grind (arith, sum_by-set)

pub unclaimed_set : (t : List PageUse) (i : ℕ) → unclaimed (set t i Used) ≤ unclaimed t
unclaimed_set t i =
    elim (cases_lt i (length t)) [
      | inl h ↦ let k = sum_by-set weight t i Used (first_use i) h in omega (arith, k)
      | inr h ↦ rw (set_past t i Used h) (omega arith)
    ]

pub used_kept : (t : List PageUse) (i : ℕ) (u : PageUse) → i < length t → is_used u ≡ is_used (get_or t i Unused) → (n : ℕ)
    → is_used (use_at (set t i u) n) ≡ is_used (use_at t n)
used_kept t i u inside same n =
    elim (cases_eq n i) [
      | inl here ↦ ap (λ k. is_used (use_at (set t i u) k)) here ∙ ap is_used (get_or-set_same t i u (first_use i) inside) ∙ same
          ∙ ap is_used (get_or_default t i Unused (first_use i) inside) ∙ ap (λ k. is_used (use_at t k)) (sym here)
      | inr other ↦ ap is_used (get_or-set_other t i n u (first_use n) other)
    ]

-- what a table says past its end
pub past_metas : (t : List PageUse) (n : ℕ) → 2 ≤ n → length t ≤ n → use_at t n ≡ Unused
past_metas t n high past = get_or_past t n (first_use n) past ∙ rw (le-ltb n 2 high) refl

-- what it says at the start
pub first_unlisted : (n : ℕ) → times_of (first_use n) ≡ 0
first_unlisted n = elim (cases_lt n 2) [ inl low ↦ rw (lt-ltb n 2 low) refl | inr high ↦ rw (le-ltb n 2 high) refl ]

pub first_claimed : (n : ℕ) → (is_used (first_use n) ≡ true) ↔ (n < 2)
first_claimed n = grind (arith, lt-ltb)

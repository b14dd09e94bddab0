-- Findings reported page by page.
use Rattle.std.proofs.Common.{◌≡◌, ℕ, suc, ◌-◌, ◌<◌, ◌≤◌, inl, inr, List, [], ◌∷◌, ◌++◌, refl, arith, length-append, All, AllPairs, Contains}
use Rattle.std.proofs.{lemmas.List.get_or_append_left, Math.Seq.get_or-append_right}
use Rattle.std.proofs.lemmas.List.Elements.{All-append, Contains-append_left, Contains-append_right}
use Rattle.bolt_check.proofs.Words.{All-weaker, AreFindingsBelow, cases_lt, cases_order, Finding, freed_twice, IsAccountFinding, IsBefore}
use Rattle.bolt_check.proofs.Words.{IsUnlistedPage, IsUnlistedInterval, le-ltb, lt-ltb, out_of_range, reached_freed, interval_findings, unreachable}
use Rattle.bolt_check.specs.declared.finding.TheConstants.Finding.{UNREACHABLE}

-- what is reported of the pages from one to before another
pub record Reports (high_water : ℕ) (in_use : ℕ → Type 0) (times : ℕ → ℕ) (from next : ℕ) (ys : List Finding) : Type 0 where
  pub sound : All (IsAccountFinding high_water in_use times) ys
  pub within : All (λ x. (from ≤ x.page) × (x.page < next)) ys
  pub complete : (x : Finding) → IsAccountFinding high_water in_use times x → from ≤ x.page → x.page < next → Contains ys x
  pub rises : AllPairs IsBefore ys
  pub silent : ys ≡ [] → (n : ℕ) → from ≤ n → n < next → IsUnlistedPage high_water in_use times n → ⊥

append_empty : (xs ys : List Finding) → xs ++ ys ≡ [] → (xs ≡ []) × (ys ≡ [])
append_empty [] ys e = (refl, e)
append_empty (x ∷ xs) ys e = absurd (cc)

rises_append : (xs ys : List Finding) (from : ℕ) → AllPairs IsBefore xs → AllPairs IsBefore ys → All (λ x. x.page < from) xs
    → All (λ x. from ≤ x.page) ys
    → AllPairs IsBefore (xs ++ ys)
rises_append xs ys from rx ry below above i j d h l = grind (arith, length-append, cases_lt, get_or_append_left, get_or-append_right)

pub reported_append : {high_water : ℕ} {in_use : ℕ → Type 0} {times : ℕ → ℕ} {from next : ℕ} {findings ys : List Finding}
    → AreFindingsBelow high_water in_use times from findings → from ≤ next
    → Reports high_water in_use times from next ys → AreFindingsBelow high_water in_use times next (findings ++ ys)
reported_append {high_water = high_water} {in_use = in_use} {times = times} {from = from} {next = next} {findings = findings} {ys = ys} reported order more =
    record {
      sound = All-append (IsAccountFinding high_water in_use times) findings ys reported.sound more.sound;
      below = All-append (λ x. x.page < next) findings ys (All-weaker (λ x. x.page < from) (λ x. x.page < next) (λ x h. omega arith) findings reported.below)
          (All-weaker (λ x. (from ≤ x.page) × (x.page < next)) (λ x. x.page < next) (λ x h. h.1) ys more.within);
      complete = λ x is h. elim (cases_lt x.page from) [
        | inl before ↦ Contains-append_left findings ys x (reported.complete x is before)
        | inr after ↦ Contains-append_right findings ys x (more.complete x is after h)
      ];
      rises = rises_append findings ys from reported.rises more.rises reported.below
          (All-weaker (λ x. (from ≤ x.page) × (x.page < next)) (λ x. from ≤ x.page) (λ x h. h.0) ys more.within);
      silent = λ e n h gone. let both = append_empty findings ys e in elim (cases_lt n from) [
        | inl before ↦ reported.silent both.0 n before gone
        | inr after ↦ more.silent both.1 n after h gone
      ];
    }

module _ (high_water : ℕ) (in_use : ℕ → Type 0) (times : ℕ → ℕ) where
  pub reports_none : (from next : ℕ) → ((n : ℕ) → from ≤ n → n < next → IsUnlistedPage high_water in_use times n → ⊥)
      → ((x : Finding) → IsAccountFinding high_water in_use times x → from ≤ x.page → x.page < next → ⊥) → Reports high_water in_use times from next []
  reports_none from next kept none = grind arith

  pub reports_one : (from next : ℕ) (y : Finding) → IsAccountFinding high_water in_use times y → from ≤ y.page → y.page < next
      → ((x : Finding) → IsAccountFinding high_water in_use times x → from ≤ x.page → x.page < next → x ≡ y)
      → Reports high_water in_use times from next (y ∷ [])
  reports_one from next y is low high only = grind arith

  -- a finding on a page of an interval of lost pages is the interval
  interval_is : (from page : ℕ) → IsUnlistedInterval high_water in_use times from page → (IsUnlistedPage high_water in_use times page → ⊥)
      → (x : Finding) → IsAccountFinding high_water in_use times x → from ≤ x.page → x.page < page
      → x ≡ record { number = UNREACHABLE; page = from; last = page - 1 }
  interval_is from page interval ends x (freed_twice {n = n} range two) low high = let zero = (interval.lost n low high).unlisted in absurd (omega arith)
  interval_is from page interval ends x (reached_freed {n = n} range one used) low high = absurd ((interval.lost n low high).free.unused used)
  interval_is from page interval ends x (out_of_range {n = n} out one) low high = let zero = (interval.lost n low high).unlisted in absurd (omega arith)
  interval_is from page interval ends x (unreachable {page = first} {last = last} order lost after before) low high =
      let same_first : first ≡ from = elim (cases_order first from) [
        | inl e ↦ e
        | inr (inl less) ↦ absurd (omega arith)
        | inr (inr more) ↦ absurd (before (first - 1) (omega arith) (interval.lost (first - 1) (omega arith) (omega arith)))
      ] in
      let same_last : last ≡ page - 1 = elim (cases_order last (page - 1)) [
        | inl e ↦ e
        | inr (inl less) ↦ absurd (after (interval.lost (suc last) (omega arith) (omega arith)))
        | inr (inr more) ↦ absurd (ends (lost page (omega arith) (omega arith)))
      ] in
      rw (same_first, same_last) refl

  interval_found : (from page : ℕ) → from < page → IsUnlistedInterval high_water in_use times from page
      → (IsUnlistedPage high_water in_use times page → ⊥)
      → IsAccountFinding high_water in_use times (record { number = UNREACHABLE; page = from; last = page - 1 })
  interval_found from page some interval ends = grind (arith, unreachable)

-- the lost pages before a page that is not lost
pub reports_interval : {high_water : ℕ} {in_use : ℕ → Type 0} {times : ℕ → ℕ} {from page : ℕ} → from ≤ page
    → IsUnlistedInterval high_water in_use times from page
    → (IsUnlistedPage high_water in_use times page → ⊥)
    → Reports high_water in_use times from page (interval_findings from page)
reports_interval {high_water = high_water} {in_use = in_use} {times = times} {from = from} {page = page} order interval ends =
    grind (arith, cases_lt, lt-ltb, interval_found, interval_is, le-ltb)

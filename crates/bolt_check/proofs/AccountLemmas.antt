-- The table and the ids past it list what the freelist lists: their findings are those of the accounts.
use Rattle.std.proofs.Common.{rules, ◌≡◌, ◌≢◌, ◌∙◌, ◌==◌, ℕ, ◌≤◌, inl, inr, List, [], ◌∷◌, Some, None, min, refl, sym, arith}
use Rattle.bolt_check.proofs.Words.{AreAccountFindings, AreAllFindings, bad, cases_lt, ClaimsFreelist, cond-false, cond-true, eq-eqb, finding}
use Rattle.bolt_check.proofs.Words.{Finding, free_ids_of, freed_twice, freelist_fault, freelist_fault_of, HasAccounts, IsAccountFinding, IsClaimed}
use Rattle.bolt_check.proofs.Words.{IsFreelistFinding, IsInFreelist, IsInRange, IsInUse, ListsFree, Meta, ne_eqb, NO_FREELIST, none-some}
use Rattle.bolt_check.proofs.Words.{out_of_range, PageUse, reached_freed, shared, times_in, TWICE, unreachable}
use Rattle.bolt_format.specs.Freelists.{free_ids_at}

-- the same pages in use, and counts that differ above 2 alone
pub record IsAlike (in_use also : ℕ → Type 0) (times counts : ℕ → ℕ) : Type 0 where
  pub there : (n : ℕ) → in_use n → also n
  pub back : (n : ℕ) → also n → in_use n
  pub counted : (n : ℕ) → min 2 (times n) ≡ min 2 (counts n)

pub alike_back : (in_use also : ℕ → Type 0) (times counts : ℕ → ℕ) → IsAlike in_use also times counts → IsAlike also in_use counts times
alike_back in_use also times counts alike = record { there = alike.back; back = alike.there; counted = λ n. sym (alike.counted n) }

module _ (high_water : ℕ) where
  pub finding_along : (in_use also : ℕ → Type 0) (times counts : ℕ → ℕ) → IsAlike in_use also times counts
      → (x : Finding) → IsAccountFinding high_water in_use times x → IsAccountFinding high_water also counts x
  finding_along in_use also times counts alike x h = search (rules, freed_twice, reached_freed, alike_back, unreachable, out_of_range)

  pub reported_along : (in_use also : ℕ → Type 0) (times counts : ℕ → ℕ) → IsAlike in_use also times counts
      → (findings : List Finding) → AreAllFindings high_water in_use times findings → AreAllFindings high_water also counts findings
  reported_along in_use also times counts alike findings reported = grind (arith, alike_back, finding_along)

module _ (high_water : ℕ) (in_use : ℕ → Type 0) (times : ℕ → ℕ) where
  -- nothing is reported,
  none_reported : AreAllFindings high_water in_use times [] → (x : Finding) → IsAccountFinding high_water in_use times x → ⊥
  none_reported reported x is = let (k, h, e) = (reported.exact x).1 is in omega (arith, h)

  in_range : AreAllFindings high_water in_use times [] → (n : ℕ) → 1 ≤ times n → IsInRange high_water n
  in_range reported n one = elim (cases_lt n 2) [
    | inl low ↦ absurd (none_reported reported _ (out_of_range (inl low) one))
    | inr high ↦ elim (cases_lt n high_water) [
      | inl below ↦ (high, below)
      | inr above ↦ absurd (none_reported reported _ (out_of_range (inr above) one))
    ]
  ]

  -- so the free pages are listed
  pub lists_free : AreAllFindings high_water in_use times [] → ListsFree high_water in_use times
  lists_free reported = record {
    free = λ n one. let range = in_range reported n one in record {
      above_metas = range.0;
      below = range.1;
      unused = λ used. none_reported reported _ (reached_freed range one used);
    };
    once = λ n. elim (cases_lt 1 (times n)) [
      | inl more ↦ absurd (none_reported reported _ (freed_twice (in_range reported n (omega arith)) (omega arith)))
      | inr fewer ↦ fewer
    ];
    listed = λ n free. elim (cases_lt 0 (times n)) [
      | inl some ↦ omega arith
      | inr zero ↦ absurd (reported.silent refl n (record { free = free; unlisted = omega arith }))
    ];
  }

  -- and where they are, nothing is reported
  lists_none : ListsFree high_water in_use times → (x : Finding) → IsAccountFinding high_water in_use times x → ⊥
  lists_none lists x h = grind arith

  pub finding_none : (findings : List Finding) → AreAllFindings high_water in_use times findings → ListsFree high_water in_use times → findings ≢ []
      → ⊥
  finding_none [] reported lists some = some refl
  finding_none (x ∷ findings) reported lists some = lists_none lists x ((reported.exact x).0 (0, omega arith, refl))

module _ (file : List ℕ) (meta : Meta) where
  -- whether a freelist was written
  pub unwritten : free_ids_of file meta ≡ None → meta.freelist ≢ NO_FREELIST → ⊥
  unwritten e ne =
      none-some _ (sym e ∙ cond-false (meta.freelist == NO_FREELIST) None (Some (free_ids_at file meta meta.freelist)) (ne_eqb meta.freelist NO_FREELIST ne))

  pub written : (ids : List ℕ) → free_ids_of file meta ≡ Some ids → meta.freelist ≢ NO_FREELIST
  written ids e is =
      none-some ids (sym (cond-true (meta.freelist == NO_FREELIST) None (Some (free_ids_at file meta meta.freelist)) (eq-eqb meta.freelist NO_FREELIST is)) ∙ e)

  module _ (used : ℕ → Type 0) where
    reported_alone : (x : Finding) → meta.freelist ≢ NO_FREELIST → IsFreelistFinding file meta used x
        → ((y : Finding) → IsFreelistFinding file meta used y → y ≡ x)
        → AreAccountFindings file meta used (x ∷ [])
    reported_alone x ne is only = grind arith

    only_fault : (fault : ℕ) → freelist_fault_of file meta ≡ Some fault → (y : Finding) → IsFreelistFinding file meta used y
        → y ≡ finding fault meta.freelist
    only_fault fault e y h = grind arith

    -- the freelist's own page has a fault
    pub reported_fault : (fault : ℕ) → freelist_fault_of file meta ≡ Some fault → AreAccountFindings file meta used (finding fault meta.freelist ∷ [])
    reported_fault fault e =
        reported_alone (finding fault meta.freelist)
        (λ is. none-some fault
        (sym (cond-true (meta.freelist == NO_FREELIST) None (freelist_fault file meta meta.freelist) (eq-eqb meta.freelist NO_FREELIST is)) ∙ e))
        (bad e) (only_fault fault e)

    only_shared : (n : ℕ) → IsInFreelist file meta n → used n → ((k : ℕ) → IsInFreelist file meta k → used k → n ≤ k)
        → (y : Finding) → IsFreelistFinding file meta used y → y ≡ finding TWICE n
    only_shared n is at lowest y h = grind arith

    -- or its span shares a page
    pub reported_shared : (n : ℕ) → IsInFreelist file meta n → used n → ((k : ℕ) → IsInFreelist file meta k → used k → n ≤ k)
        → AreAccountFindings file meta used (finding TWICE n ∷ [])
    reported_shared n is at lowest = reported_alone (finding TWICE n) is.written (shared is at lowest) (only_shared n is at lowest)

  module _ (used : ℕ → Type 0) (ids : List ℕ) (good : freelist_fault_of file meta ≡ None) (are : free_ids_of file meta ≡ Some ids) where
    module _ (apart : (n : ℕ) → IsInFreelist file meta n → used n → ⊥) (findings : List Finding)
        (reported : AreAllFindings meta.high_water (IsInUse file meta used) (times_in ids) findings) where
      pub accounts_right : findings ≡ [] → HasAccounts file meta used
      accounts_right e = grind (arith, lists_free)

      pub accounts_wrong : findings ≢ [] → HasAccounts file meta used → ⊥
      accounts_wrong some has = finding_none meta.high_water (IsInUse file meta used) (times_in ids) findings reported (has.lists ids are) some

      pub accounts_reported : AreAccountFindings file meta used findings
      accounts_reported = grind arith

-- once the freelist's span is claimed, all pages in use are claimed
pub claims_reported : (file : List ℕ) (meta : Meta) (old new : List PageUse) (ids : List ℕ) (findings : List Finding)
    → ClaimsFreelist file meta old new
    → AreAllFindings meta.high_water (IsClaimed new) (times_in ids) findings
    → AreAllFindings meta.high_water (IsInUse file meta (IsClaimed old)) (times_in ids) findings
claims_reported file meta old new ids findings claims reported =
    reported_along meta.high_water (IsClaimed new) (IsInUse file meta (IsClaimed old)) (times_in ids) (times_in ids)
    (record {
      there = claims.split;
      back = λ n in_use. elim in_use
          [ inl was ↦ claims.kept n was | inr is ↦ claims.span n is ];
      counted = λ n. refl;
    }) findings reported

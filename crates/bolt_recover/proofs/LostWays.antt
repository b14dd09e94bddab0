-- Each lost way has one loss, and each loss is that of a lost way.
use Rattle.std.proofs.Common.{◌≡◌, ◌∙◌, ◌⊎◌, ℕ, inl, inr, List, [], ◌∷◌, ◌++◌, length, Option, Some, None, cond, is_some, refl, sym, ap, subst, arith}
use Rattle.std.proofs.Common.{length-append}
use Rattle.bolt_recover.proofs.Words.{Contains, Contains-append_right, contains_cases, contains_head, contains_none, count_by, Finding, Has, IsSurvey}
use Rattle.bolt_recover.proofs.Words.{LosesNothing, loss_at, loss_of, losses_of, LossView, lost, Meta, Site, site_at, sum_by-cons, SurveyedWay}
use Rattle.bolt_recover.proofs.SiteFacts.{site_is}

length_at : (o : Option Site) (p : Site) (f : Option Finding) → o ≡ Some p → length (loss_at o f) ≡ cond (is_some f) 1 0
length_at o p None e = rw e refl
length_at o p (Some x) e = rw e refl

at_front : (o : Option Site) (f : Option Finding) (p : Site) (x : Finding) (rest : List LossView) → o ≡ Some p → f ≡ Some x
    → Contains (loss_at o f ++ rest) (loss_of p x)
at_front o f p x rest e g = rw (e, g) (contains_head (loss_of p x) rest)

which : (o : Option Site) (f : Option Finding) (rest : List LossView) (l : LossView) → Contains (loss_at o f ++ rest) l
    → ((p : Site) × (x : Finding) × (o ≡ Some p) × (f ≡ Some x) × (l ≡ loss_of p x)) ⊎ Contains rest l
which None f rest l has = inr has
which (Some p) None rest l has = inr has
which (Some p) (Some x) rest l has =
    elim (contains_cases (loss_of p x) l rest has) [
      | inl same ↦ inl (p, x, refl, refl, sym same)
      | inr later ↦ inr later
    ]

module _ (file : List ℕ) (meta : Meta) where
  pub site_of : (survey : List SurveyedWay) → IsSurvey file meta survey → (v : SurveyedWay) → Has survey v
      → (p : Site) × (site_at file meta v.way ≡ Some p)
  site_of survey is v has =
      let (is_open, (spot, leads, gives)) = is.only v has in
      let (p, at, same) = site_is file meta v.way spot leads in
      (p, at)

  numbered : (survey : List SurveyedWay) → ((v : SurveyedWay) → Has survey v → (p : Site) × (site_at file meta v.way ≡ Some p))
      → length (losses_of file meta survey) ≡ count_by (λ (v : SurveyedWay). is_some v.found) survey
  numbered [] at = refl
  numbered (v ∷ survey) at =
      let (p, is) = at v (inl refl) in
      let rest = numbered survey (λ u has. at u (inr has)) in
      let here = length_at (site_at file meta v.way) p v.found is in
      let both = length-append (loss_at (site_at file meta v.way) v.found) (losses_of file meta survey) in
      let sum = sum_by-cons (λ (u : SurveyedWay). cond (is_some u.found) 1 0) v survey in
      omega (arith, rest, here, both, sum)

  pub number_of_losses : (survey : List SurveyedWay) → IsSurvey file meta survey
      → length (losses_of file meta survey) ≡ count_by (λ (v : SurveyedWay). is_some v.found) survey
  number_of_losses survey is = numbered survey (site_of survey is)

  pub loss_there : (survey : List SurveyedWay) (way : List ℕ) (x : Finding) (p : Site) → Has survey (lost way x) → site_at file meta way ≡ Some p
      → Contains (losses_of file meta survey) (loss_of p x)
  loss_there [] way x p has at = absurd has
  loss_there (v ∷ survey) way x p h at =
      elim h [
        | inl same ↦
            let there : site_at file meta v.way ≡ Some p = ap (λ (u : SurveyedWay). site_at file meta u.way) same ∙ at in
            at_front (site_at file meta v.way) v.found p x (losses_of file meta survey) there (ap (λ (u : SurveyedWay). u.found) same)
        | inr later ↦
            Contains-append_right (loss_at (site_at file meta v.way) v.found) (losses_of file meta survey) (loss_of p x) (loss_there survey way x p later at)
      ]

  pub way_there : (survey : List SurveyedWay) (l : LossView) → Contains (losses_of file meta survey) l
      → (way : List ℕ) × (x : Finding) × (p : Site) × Has survey (lost way x) × (site_at file meta way ≡ Some p) × (l ≡ loss_of p x)
  way_there [] l has = absurd (contains_none l has)
  way_there (v ∷ survey) l has =
      elim (which (site_at file meta v.way) v.found (losses_of file meta survey) l has) [
        | inl (p, x, at, is, same) ↦ (v.way, x, p, inl (ap (λ (f : Option Finding). record { way = v.way; found = f }) is), at, same)
        | inr later ↦ let (way, x, p, inside, at, same) = way_there survey l later in (way, x, p, inr inside, at, same)
      ]

  -- without losses, nothing is lost
  found_none : (survey : List SurveyedWay) → IsSurvey file meta survey → losses_of file meta survey ≡ [] → (way : List ℕ) (f : Option Finding)
      → Has survey (record { way = way; found = f }) → f ≡ None
  found_none survey is none way None has = refl
  found_none survey is none way (Some x) has =
      let (p, at) = site_of survey is (lost way x) has in
      absurd (contains_none (loss_of p x) (subst (λ (ls : List LossView). Contains ls (loss_of p x)) none (loss_there survey way x p has at)))

  pub nothing_lost : (survey : List SurveyedWay) → IsSurvey file meta survey → losses_of file meta survey ≡ [] → LosesNothing survey
  nothing_lost survey is none v has = found_none survey is none v.way v.found has

  -- and if nothing is lost, there is no loss
  loss_none : (o : Option Site) (f : Option Finding) → f ≡ None → loss_at o f ≡ []
  loss_none None f e = refl
  loss_none (Some p) f e = rw e refl

  pub no_losses : (survey : List SurveyedWay) → LosesNothing survey → losses_of file meta survey ≡ []
  no_losses [] none = refl
  no_losses (v ∷ survey) none =
      ap (λ (ls : List LossView). ls ++ losses_of file meta survey) (loss_none (site_at file meta v.way) v.found (none v (inl refl)))
      ∙ no_losses survey (λ u has. none u (inr has))

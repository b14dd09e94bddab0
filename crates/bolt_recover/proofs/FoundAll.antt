-- The found pages of a whole file.
use Rattle.std.proofs.Common.{◌≡◌, ◌∙◌, ◌↔◌, ◌⊎◌, ◌||◌, inl, inr, ℕ, suc, Bool, true, false, arith, List, [], ◌∷◌, Option, Some, None, refl, sym, ap}
use Rattle.std.proofs.Common.{subst}
use Rattle.bolt_lemmas.proofs.Exports.{either_or}
use Rattle.bolt_recover.proofs.Words.{all_events, AreFound, AreFoundInAnyCase, AreGaps, AreKeptPages, AreLosses, At_page, claims_of, Contains}
use Rattle.bolt_recover.proofs.Words.{contains_cases, contains_head, contains_none, contains_tail, Event, false≢true, Finding, first_claimed}
use Rattle.bolt_recover.proofs.Words.{FoundBelow, Has, HasSoundTrees, IsFoundPage, IsKeptPage, IsListedFree, IsLoneLeaf, IsMetaPage, IsRecovered}
use Rattle.bolt_recover.proofs.Words.{IsSurvey, way_kept, LosesNothing, LosesRoot, lost, Member, members_of, Meta, meta_pages, nat_tests, node_at}
use Rattle.bolt_recover.proofs.Words.{node_below, PageGapView, root_site, root_spot, SpanAt, SurveyedWay, Visited, visits_of}
use Rattle.bolt_recover.proofs.{Existing.has_survey, Existing.one_recovered, Existing.recovers, FoundLemmas.found_one, FoundLemmas.found_same}
use Rattle.bolt_recover.proofs.{FoundLemmas.passed, LostWays.nothing_lost}
use Rattle.bolt_recover.proofs.{Tested.IsFirst, Tested.first_is, KeptWays.sound, Recovering.one_gaps, Recovering.whole, Recovering.whole_claimed}
use Rattle.bolt_recover.proofs.{CourseSurveys.claims_in, CourseSurveys.surveyed}
use Rattle.bolt_recover.proofs.{Courses.events_none, Courses.events_visit, SurveyIsOne.gives_same, SurveyIsOne.same_survey}

-- a way of a survey is lost, or none is
pub lost_or_none : (survey : List SurveyedWay) → LosesNothing survey ⊎ ((way : List ℕ) × (x : Finding) × Has survey (lost way x))
lost_or_none [] = inl (λ v has. absurd has)
lost_or_none (v ∷ survey) = first v survey v.found refl (lost_or_none survey)
  where
    first : (v : SurveyedWay) (survey : List SurveyedWay) (f : Option Finding) → v.found ≡ f
        → LosesNothing survey ⊎ ((way : List ℕ) × (x : Finding) × Has survey (lost way x))
        → LosesNothing (v ∷ survey) ⊎ ((way : List ℕ) × (x : Finding) × Has (v ∷ survey) (lost way x))
    first v survey (Some x) e rest = inr (v.way, x, inl (λ i. record { way = v.way; found = e i }))
    first v survey None e (inr (way, x, has)) = inr (way, x, inr has)
    first v survey None e (inl none) = inl (λ u has. elim has [ inl same ↦ ap (λ (z : SurveyedWay). z.found) (sym same) ∙ e | inr later ↦ none u later ])

module _ (file : List ℕ) (meta : Meta) where
  -- if nothing is lost, nothing is found; otherwise what is found next to the kept pages
  pub are_none : (survey : List SurveyedWay) → IsSurvey file meta survey → LosesNothing survey → AreFound file meta []
  are_none survey is none = grind arith

  pub are_some : (found : List ℕ) (survey : List SurveyedWay) (way : List ℕ) (x : Finding) → IsSurvey file meta survey → Has survey (lost way x)
      → FoundBelow file meta (IsKeptPage file meta survey) meta.high_water found → AreFound file meta found
  are_some found survey way x is has below = grind arith

  pub found_in_any_case : (claimed taken : ℕ → Bool) (found : List ℕ) → AreKeptPages file meta claimed → ((n : ℕ) → taken n ≡ claimed n)
      → FoundBelow file meta (λ n. taken n ≡ true) meta.high_water found → AreFoundInAnyCase file meta found
  found_in_any_case claimed taken found are same below =
      let (survey, is) = has_survey file meta in
      record {
        survey = survey;
        surveys = is;
        all = found_same file meta (λ n. taken n ≡ true) (IsKeptPage file meta survey)
            (λ k was. (are survey is k).0 (sym (same k) ∙ was)) (λ k was. same k ∙ (are survey is k).1 was) meta.high_water found below;
      }

  pub found_damaged : (claimed taken : ℕ → Bool) (found : List ℕ) → AreKeptPages file meta claimed → ((n : ℕ) → taken n ≡ claimed n)
      → (HasSoundTrees file meta → ⊥)
      → FoundBelow file meta (λ n. taken n ≡ true) meta.high_water found → AreFound file meta found
  found_damaged claimed taken found are same damaged below =
      let in_any_case = found_in_any_case claimed taken found are same below in
      elim (lost_or_none in_any_case.survey) [
        | inl none ↦ absurd (damaged (sound file meta in_any_case.survey in_any_case.surveys none))
        | inr (way, x, gone) ↦ are_some found in_any_case.survey way x in_any_case.surveys gone in_any_case.all
      ]

  -- the found pages next to the kept ones of the survey
  pub below_of : (found : List ℕ) (survey : List SurveyedWay) (way : List ℕ) (x : Finding) → AreFound file meta found → IsSurvey file meta survey
      → Has survey (lost way x)
      → FoundBelow file meta (IsKeptPage file meta survey) meta.high_water found
  below_of found survey way x are is has = let same = same_survey file meta are.survey survey are.surveys is in grind arith

  pub one_found : (a b : List ℕ) → AreFound file meta a → AreFound file meta b → a ≡ b
  one_found a b h k =
      elim (lost_or_none h.survey) [
        | inl none ↦ h.none none ∙ sym (k.none (subst LosesNothing (same_survey file meta h.survey k.survey h.surveys k.surveys) none))
        | inr (way, x, has) ↦
            found_one file meta (IsKeptPage file meta h.survey) meta.high_water a b (h.some way x has) (below_of b h.survey way x k h.surveys has)
      ]

  pub nothing_found : (found : List ℕ) → AreLosses file meta [] → AreFound file meta found → found ≡ []
  nothing_found found (survey, is, none) are =
      are.none (subst LosesNothing (same_survey file meta survey are.survey is are.surveys) (nothing_lost file meta survey is (sym none)))

  -- if a page is found, a way is lost
  pub found_in : (found : List ℕ) (survey : List SurveyedWay) (n : ℕ) → AreFound file meta found → IsSurvey file meta survey → Contains found n
      → FoundBelow file meta (IsKeptPage file meta survey) meta.high_water found
  found_in found survey n are is has =
      elim (lost_or_none survey) [
        | inl none ↦ absurd (contains_none n (subst (λ (xs : List ℕ). Contains xs n)
            (are.none (subst LosesNothing (same_survey file meta survey are.survey is are.surveys) none)) has))
        | inr (way, x, gone) ↦ below_of found survey way x are is gone
      ]

module _ (file : List ℕ) (meta : Meta) where
  -- whether page k is found, and whether it is kept or found
  abbrev in_found : List ℕ → ℕ → Bool
  in_found [] k = false
  in_found (m ∷ found) k = claims_of (node_at file meta) (At_page (root_spot m)) k || in_found found k

  abbrev pub in_either : List ℕ → ℕ → Bool
  in_either found k = (whole file meta 0).claimed k || in_found found k

  found_is : (found : List ℕ) (k : ℕ) → (in_found found k ≡ true) ↔ IsFoundPage file meta found k
  found_is [] k = (λ e. absurd (false≢true e), λ (m, (has, span)). absurd (contains_none m has))
  found_is (m ∷ found) k =
      either_or (claims_of (node_at file meta) (At_page (root_spot m)) k) (in_found found k) _ _ _ (claims_in (node_at file meta) (At_page (root_spot m)) k)
      (found_is found k)
      (λ span. (m, (contains_head m found, span))) (λ (o, (has, span)). (o, (contains_tail m o found has, span)))
      (λ (o, (has, span)). elim (contains_cases m o found has) [
        | inl same ↦ inl (subst (λ (y : ℕ). SpanAt (node_at file meta) (At_page (root_spot y)) k) (sym same) span)
        | inr later ↦ inr (o, (later, span))
      ])

  pub either_is : (found : List ℕ) (survey : List SurveyedWay) → IsSurvey file meta survey → (k : ℕ)
      → (in_either found k ≡ true) ↔ (IsKeptPage file meta survey k ⊎ IsFoundPage file meta found k)
  either_is found survey is k = grind (arith, either_or, whole_claimed, found_is)

  -- an intact leaf that isn't listed as free shares a page
  pub shares : (found : List ℕ) (survey : List SurveyedWay) (way : List ℕ) (x : Finding) (n : ℕ) → AreFound file meta found
      → IsSurvey file meta survey → Has survey (lost way x)
      → IsLoneLeaf (node_at file meta) (λ k. ⊥) n → (IsListedFree file meta n → ⊥)
      → (k : ℕ) × SpanAt (node_at file meta) (At_page (root_spot n)) k × (IsKeptPage file meta survey k ⊎ IsFoundPage file meta found k)
  shares found survey way x n are is has lone unlisted = by (first_claimed (in_either found) n count) (first_is (in_either found) n count)
    where
      count : ℕ
      count = suc lone.passes.node.overflow

      by : (o : Option ℕ) → IsFirst (in_either found) n count o
          → (k : ℕ) × SpanAt (node_at file meta) (At_page (root_spot n)) k × (IsKeptPage file meta survey k ⊎ IsFoundPage file meta found k)
      by (Some k) (low, high, was, first) = (k, rw lone.passes.page (low, omega (arith, high)), (either_is found survey is k).0 was)
      by None none =
          let apart : (k : ℕ) → SpanAt (node_at file meta) (At_page (root_spot n)) k → IsKeptPage file meta survey k ⊎ IsFoundPage file meta found k → ⊥ =
          λ k span one.
          let inside = rw lone.passes.page at span in none k inside.0 (let to = inside.1 in omega (arith, to)) ((either_is found survey is k).1 one) in
          absurd (passed file meta (IsKeptPage file meta survey) meta.high_water found n (below_of file meta found survey way x are is has)
          (node_below file meta n lone.passes.node lone.passes.page) lone unlisted (λ k span one. apart k span (inl one))
          (λ k span one. apart k span (inr one)))

-- a file whose root page is lost: that page alone is visited
module _ (file : List ℕ) (meta : Meta) (x : Finding) (loses : LosesRoot file meta x) where
  abbrev alone : List SurveyedWay
  alone = lost [] x ∷ []

  root_events : all_events file meta ≡ Visited [] (root_site file meta) (Some x) ∷ []
  root_events =
      events_visit file meta meta_pages [] (root_site file meta) (Some x) []
      (gives_same (node_at file meta) IsMetaPage (λ n. meta_pages n ≡ true) (At_page (root_spot meta.root)) (Some x) (λ n low. grind (arith, nat_tests))
      (λ n is. grind (arith, nat_tests)) loses)
      ∙ ap (λ (es : List Event). Visited [] (root_site file meta) (Some x) ∷ es) (events_none file meta _)

  alone_surveys : IsSurvey file meta alone
  alone_surveys = subst (IsSurvey file meta) (ap visits_of root_events) (surveyed file meta)

  pub loses_root : (survey : List SurveyedWay) → IsSurvey file meta survey → LosesNothing survey → ⊥
  loses_root survey is none =
      let all : LosesNothing alone = subst LosesNothing (same_survey file meta survey alone is alone_surveys) none in
      let wrong : Some x ≡ None = all (lost [] x) (inl refl) in
      cc

  not_kept : (way : List ℕ) → Has alone (way_kept way) → ⊥
  not_kept way h = grind arith

  pub found_rootless : (taken : ℕ → Bool) (found : List ℕ) → ((n : ℕ) → (taken n ≡ true) ↔ IsMetaPage n)
      → FoundBelow file meta (λ n. taken n ≡ true) meta.high_water found → AreFound file meta found
  found_rootless taken found metas below = are_some file meta found alone [] x alone_surveys (inl refl)
      (found_same file meta (λ n. taken n ≡ true) (IsKeptPage file meta alone) (λ k was. inl ((metas k).0 was))
      (λ k is. elim is [ inl low ↦ (metas k).1 low | inr (v, (there, span)) ↦ absurd (not_kept v there) ]) meta.high_water found below)

  pub nothing_recovered : (listing : List Member) → IsRecovered file meta listing → listing ≡ []
  nothing_recovered listing is = one_recovered file meta listing [] is (subst (IsRecovered file meta) (ap members_of root_events) (recovers file meta))

  pub no_gaps : AreGaps file meta []
  no_gaps = (alone, alone_surveys, refl)

  pub nothing_kept : (gaps : List PageGapView) → AreGaps file meta gaps → gaps ≡ []
  nothing_kept gaps are = one_gaps file meta gaps [] are no_gaps

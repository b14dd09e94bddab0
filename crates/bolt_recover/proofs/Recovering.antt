-- A recovery between its calls: what comes of it in the end is all that comes of its file.
use Rattle.std.proofs.Common.{◌≡◌, ◌∙◌, ◌≤◌, ℕ, true, ◌↔◌, List, [], ◌∷◌, ◌++◌, length, map, take, refl, sym, ap, subst, arith, append_assoc}
use Rattle.bolt_recover.proofs.Words.{after_event, after_events, all_events, append-nil, AreFirst, AreGaps, AreKeptPages, AreLosses, AreOpenPages}
use Rattle.bolt_recover.proofs.Words.{ArePageWays, claims_file, claims_meta, claims_visited, TreePage, counted, Ends, Event, gaps_of, Given}
use Rattle.bolt_recover.proofs.Words.{is_claimed, IsAllLeft, IsGoodPage, IsKeptPage, StepsAreOn, AreStepsPlaced, IsRecovered, loss_view, losses_of}
use Rattle.bolt_recover.proofs.Words.{LossView, Member, members_left, Meta, node_at, OpenPage, Outcome, outcome_of, page_gap_view, page_ways}
use Rattle.bolt_recover.proofs.Words.{PageGapView, props, reached, steps_left, SurveyedWay, take-append-le, take_all, tally_of, Visited}
use Rattle.bolt_recover.proofs.{Existing.one_recovered, Existing.recovers, CourseSurveys.all_claimed, CourseSurveys.survey_of, CourseSurveys.surveyed}
use Rattle.bolt_recover.proofs.{CourseSurveys.tally, SurveyIsOne.same_survey}
use Rattle.bolt_check.specs.declared.spot.Spot.{Spot}
use Rattle.bolt_check.specs.declared.spot.Spot.TheVariants as spots
use Rattle.bolt_recover.specs.{Private.Frames.IsGoodAt, declared.steps.Steps.Steps}

-- that pages are open in good order is known or not, and no more
content_prop : (file : List ℕ) (meta : Meta) (page : TreePage) (spot : Spot) (x y : IsGoodAt file meta page spot) → x ≡ y
content_prop file meta page (spots.Page s) = hlevel props
content_prop file meta page (spots.Bucket s) = hlevel props

good_prop : (file : List ℕ) (meta : Meta) (page : OpenPage) (x y : IsGoodPage file meta page) → x ≡ y
good_prop file meta page = hlevel (props, content_prop)

open_prop : (file : List ℕ) (meta : Meta) (low : ℕ) (pages : List OpenPage) (high : ℕ) (x y : AreOpenPages file meta low pages high) → x ≡ y
open_prop file meta low [] high = hlevel props
open_prop file meta low (page ∷ pages) high = hlevel (props, good_prop file meta page, open_prop file meta page.path_len pages high)

pub placed_prop : (s : Steps) (x y : AreStepsPlaced s) → x ≡ y
placed_prop s = hlevel (props, open_prop)

pub one_losses : (file : List ℕ) (meta : Meta) (a b : List LossView) → AreLosses file meta a → AreLosses file meta b → a ≡ b
one_losses file meta a b (s, is_s, of_s) (t, is_t, of_t) = of_s ∙ ap (losses_of file meta) (same_survey file meta s t is_s is_t) ∙ sym of_t

pub one_gaps : (file : List ℕ) (meta : Meta) (a b : List PageGapView) → AreGaps file meta a → AreGaps file meta b → a ≡ b
one_gaps file meta a b (s, is_s, of_s) (t, is_t, of_t) = of_s ∙ ap (gaps_of file meta) (same_survey file meta s t is_s is_t) ∙ sym of_t

pub one_number : (file : List ℕ) (meta : Meta) (a b : ℕ) → ArePageWays file meta a → ArePageWays file meta b → a ≡ b
one_number file meta a b (s, is_s, of_s) (t, is_t, of_t) =
    of_s ∙ ap (page_ways (reached (node_at file meta) meta.root)) (same_survey file meta s t is_s is_t) ∙ sym of_t

-- all that comes of a file, if so many visits were made before
module _ (file : List ℕ) (meta : Meta) (begun : ℕ) where
  abbrev pub whole : Outcome
  whole = outcome_of file meta begun (all_events file meta)

  whole_losses : (losses : List LossView) → AreLosses file meta losses → losses ≡ whole.losses
  whole_losses losses are = one_losses file meta losses whole.losses are (survey_of file meta, surveyed file meta, (tally file meta begun).losses)

  whole_gaps : (gaps : List PageGapView) → AreGaps file meta gaps → gaps ≡ whole.gaps
  whole_gaps gaps are = one_gaps file meta gaps whole.gaps are (survey_of file meta, surveyed file meta, (tally file meta begun).gaps)

  whole_visited : (ways : ℕ) → ArePageWays file meta ways → counted begun ways ≡ counted whole.visited 0
  whole_visited ways are =
      ap (counted begun) (one_number file meta ways _ are (survey_of file meta, surveyed file meta, refl)) ∙ sym (tally file meta begun).pages

  pub whole_claimed : AreKeptPages file meta whole.claimed
  whole_claimed survey is n =
      subst (λ (s : List SurveyedWay). (whole.claimed n ≡ true) ↔ IsKeptPage file meta s n)
      (same_survey file meta (survey_of file meta) survey (surveyed file meta) is) (all_claimed file meta begun n)

-- events add losses
grows : (file : List ℕ) (meta : Meta) (o : Outcome) (events : List Event)
    → (rest : List LossView) × ((after_events file meta o events).losses ≡ o.losses ++ rest)
grows file meta o [] = ([], sym (append-nil o.losses))
grows file meta o (Given path e ∷ events) = grows file meta o events
grows file meta o (Visited way p found ∷ events) =
    let later = grows file meta (after_event file meta o (Visited way p found)) events in grind (arith, append_assoc, later)

-- at the start all is left
pub left_all : (file : List ℕ) (meta : Meta) (begun : ℕ) (s : Steps) (listing : List Member) → IsAllLeft file meta begun s
    → IsRecovered file meta listing → members_left s ≡ listing
left_all file meta begun s listing all recovered = all.members ∙ one_recovered file meta _ listing (recovers file meta) recovered

module _ {s : Steps} {meta : Meta} {begun : ℕ} (on : StepsAreOn s meta begun) where
  -- after the end
  ended_with : {new : Steps} → Ends s new → whole (claims_file s.claims) meta begun ≡ tally_of new
  ended_with {new} h = sym on.comes ∙ sym h.on.outcome ∙ ap (after_events (claims_file new.claims) (claims_meta new.claims) (tally_of new)) h.ended

  pub reported_ended : {new : Steps} → Ends s new → (losses : List LossView) → AreLosses (claims_file s.claims) meta losses
      → map loss_view new.losses.items ≡ losses
  reported_ended h losses are = ap (λ (o : Outcome). o.losses) (sym (ended_with h)) ∙ sym (whole_losses (claims_file s.claims) meta begun losses are)

  pub gaps_ended : {new : Steps} → Ends s new → (gaps : List PageGapView) → AreGaps (claims_file s.claims) meta gaps
      → map page_gap_view new.gaps.items ≡ gaps
  gaps_ended h gaps are = ap (λ (o : Outcome). o.gaps) (sym (ended_with h)) ∙ sym (whole_gaps (claims_file s.claims) meta begun gaps are)

  -- each way to a page number was visited once
  pub visited_ended : {new : Steps} → Ends s new → (ways : ℕ) → ArePageWays (claims_file s.claims) meta ways
      → counted begun ways ≡ counted (claims_visited new.claims) 0
  visited_ended h ways are = whole_visited (claims_file s.claims) meta begun ways are ∙ ap (λ (o : Outcome). counted o.visited 0) (ended_with h)

  -- and the claimed pages are those that kept ways take in
  pub claimed_ended : {new : Steps} → Ends s new → AreKeptPages (claims_file s.claims) meta (is_claimed new.claims)
  claimed_ended h = subst (λ (o : Outcome). AreKeptPages (claims_file s.claims) meta o.claimed) (ended_with h) (whole_claimed (claims_file s.claims) meta begun)

  -- the losses reported so far are the first of all losses
  pub reported_first : (losses : List LossView) → AreLosses (claims_file s.claims) meta losses → AreFirst (map loss_view s.losses.items) losses
  reported_first losses are =
      let so_far = map loss_view s.losses.items in
      let (rest, same) = grows (claims_file s.claims) (claims_meta s.claims) (tally_of s) (steps_left s) in
      let more : losses ≡ so_far ++ rest = whole_losses (claims_file s.claims) meta begun losses are ∙ ap (λ (o : Outcome). o.losses) (sym on.comes) ∙ same in
      let short : length so_far ≤ length so_far = omega arith in
      sym (ap (take (length so_far)) more ∙ take-append-le (length so_far) so_far rest short ∙ take_all (length so_far) so_far short)

-- Ways of a survey that loses none of some ways: those that lead somewhere
-- are kept, and the tests find nothing at them, whatever ways come before. So
-- trees that lose nothing are sound, sound trees lose nothing, and the first loss is the first finding.
use Rattle.std.proofs.Common.{◌≡◌, ◌∙◌, ℕ, inl, inr, List, [], ◌∷◌, ◌++◌, Option, Some, None, refl, sym, subst, append_assoc, arith}
use Rattle.bolt_recover.proofs.Words.{append-nil, At_page, Before, before_trans, Finding, follow, follow_append, Has, HasSoundTrees, IsClaimedBefore}
use Rattle.bolt_recover.proofs.Words.{IsClaimedIn, IsFirst, IsMetaPage, IsSurvey, way_kept, LosesNothing, Meta, node_at, Nodes, Passes, passes_fewer}
use Rattle.bolt_recover.proofs.Words.{passes_silent, Reach, reached, root_spot, shape_of, shape_passes, span_spot, Spot, Surveys, SurveyedWay}
use Rattle.bolt_recover.proofs.Words.{tests_same}
use Rattle.bolt_recover.proofs.SurveyIsOne.{gives_one}
use Rattle.bolt_check.proofs.Exports.{follow_some}

module _ (nodes : Nodes) (root : Option Spot) (survey : List SurveyedWay) (surveys : Surveys nodes (follow nodes root) survey) (P : List ℕ → Type 0)
    (closed : (front rest : List ℕ) → P (front ++ rest) → P front)
    (none : (v : SurveyedWay) → Has survey v → P v.way → v.found ≡ None) where
  keeps_one : (way : List ℕ) (found : Option Finding) → Has survey (record { way = way; found = found }) → P way → Has survey (way_kept way)
  keeps_one way found has is =
      subst (λ (f : Option Finding). Has survey (record { way = way; found = f })) (none (record { way = way; found = found }) has is) has

  keeps_on : (front rest : List ℕ) (s : Spot) → Has survey (way_kept front) → follow nodes root (front ++ rest) ≡ Some s → P (front ++ rest)
      → Has survey (way_kept (front ++ rest))
  keeps_on front [] s has led is = subst (λ (w : List ℕ). Has survey (way_kept w)) (sym (append-nil front)) has
  keeps_on front (i ∷ rest) s has led is =
      let same : (front ++ i ∷ []) ++ rest ≡ front ++ (i ∷ rest) = append_assoc front (i ∷ []) rest in
      let led2 : follow nodes root ((front ++ i ∷ []) ++ rest) ≡ Some s = subst (λ (w : List ℕ). follow nodes root w ≡ Some s) (sym same) led in
      let is2 : P ((front ++ i ∷ []) ++ rest) = subst P (sym same) is in
      let at = follow_some nodes (follow nodes root (front ++ i ∷ [])) rest s (sym (follow_append nodes root (front ++ i ∷ []) rest) ∙ led2) in
      let p = surveys.all (front ++ i ∷ []) at.0 (inr (front, i, refl, has)) at.1 in
      subst (λ (w : List ℕ). Has survey (way_kept w)) same
      (keeps_on (front ++ i ∷ []) rest s (keeps_one (front ++ i ∷ []) p.0 p.1 (closed (front ++ i ∷ []) rest is2)) led2 is2)

  kept_way : (way : List ℕ) (s : Spot) → follow nodes root way ≡ Some s → P way → Has survey (way_kept way)
  kept_way way s led is =
      let at = follow_some nodes root way s led in
      let p = surveys.all [] at.0 (inl refl) at.1 in
      keeps_on [] way s (keeps_one [] p.0 p.1 (closed [] way is)) led is

  module _ (way : List ℕ) (within : (u : List ℕ) → Before u way → P u) where
    claimed_in : (n : ℕ) → IsClaimedBefore nodes (follow nodes root) IsMetaPage way n → IsClaimedIn nodes (follow nodes root) survey way n
    claimed_in n h = grind (arith, span_spot, kept_way)

    kept_passes : (s : Spot) → follow nodes root way ≡ Some s → P way → Passes nodes (IsClaimedBefore nodes (follow nodes root) IsMetaPage way) s
    kept_passes s led is = grind (arith, kept_way, passes_fewer, claimed_in)

claimed_before : (nodes : Nodes) (reach : Reach) (survey : List SurveyedWay) (way : List ℕ) (n : ℕ)
    → IsClaimedIn nodes reach survey way n → IsClaimedBefore nodes reach IsMetaPage way n
claimed_before nodes reach survey way n h = grind arith

pub none_lost : (file : List ℕ) (meta : Meta) (survey : List SurveyedWay) → HasSoundTrees file meta → IsSurvey file meta survey → LosesNothing survey
none_lost file meta survey trees surveys v has =
    let nodes = node_at file meta in
    let reach = reached nodes meta.root in
    let (s, led, gives) = (surveys.only v has).1 in
    gives_one nodes (IsClaimedIn nodes reach survey v.way) s v.found None gives
    (passes_fewer nodes (IsClaimedBefore nodes reach IsMetaPage v.way) (IsClaimedIn nodes reach survey v.way) s (claimed_before nodes reach survey v.way)
    ((shape_passes nodes meta.root trees).passes v.way s led))

module _ (file : List ℕ) (meta : Meta) (survey : List SurveyedWay) (surveys : IsSurvey file meta survey) (none : LosesNothing survey) where
  -- each way that leads somewhere is kept
  pub all_kept : (way : List ℕ) (s : Spot) → reached (node_at file meta) meta.root way ≡ Some s → Has survey (way_kept way)
  all_kept way s led =
      kept_way (node_at file meta) (Some (At_page (root_spot meta.root))) survey surveys (λ w. Unit {0}) (λ front rest is. tt) (λ v has is. none v has)
      way s led tt

  pub sound : HasSoundTrees file meta
  sound = shape_of (node_at file meta) meta.root (record {
    passes =
        λ way s led.
        kept_passes (node_at file meta) (Some (At_page (root_spot meta.root))) survey surveys (λ w. Unit {0}) (λ front rest is. tt) (λ v has is. none v has)
        way (λ u lt. tt) s led tt;
  })

-- what begins a way before another comes before it too
begin_before : (front rest way : List ℕ) → Before (front ++ rest) way → Before front way
begin_before front rest [] h = h
begin_before [] rest (j ∷ way) h = tt
begin_before (i ∷ front) rest h k = let later = begin_before front in grind (arith, later)

module _ (nodes : Nodes) (root : Option Spot) (survey : List SurveyedWay) (surveys : Surveys nodes (follow nodes root) survey) (way : List ℕ)
    (none : (u : SurveyedWay) → Has survey u → Before u.way way → u.found ≡ None) where
  pub first_is : (x : Finding) → Has survey (record { way = way; found = Some x }) → IsFirst nodes (follow nodes root) IsMetaPage x
  first_is x has =
      let only = (surveys.only (record { way = way; found = Some x }) has).1 in
      let closed : (front rest : List ℕ) → Before (front ++ rest) way → Before front way = λ front rest. begin_before front rest way in
      record {
        way = way;
        spot = only.0;
        leads = only.1;
        reported = tests_same nodes (IsClaimedIn nodes (follow nodes root) survey way) (IsClaimedBefore nodes (follow nodes root) IsMetaPage way) only.0 x
            (claimed_before nodes (follow nodes root) survey way) (claimed_in nodes root survey surveys (λ u. Before u way) closed none way (λ u h. h)) only.2;
        none_before = λ u s y lt led test. passes_silent nodes (IsClaimedBefore nodes (follow nodes root) IsMetaPage u) s y
            (kept_passes nodes root survey surveys (λ v. Before v way) closed none u (λ v h. before_trans v u way h lt) s led lt) test;
      }

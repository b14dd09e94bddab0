-- There is at most one survey: if all that stands before a way is the same in two of them, so is what is open, claimed and found there.
use Rattle.std.proofs.Common.{◌≡◌, ℕ, inl, inr, List, [], ◌∷◌, ◌++◌, map, Option, refl, subst, arith}
use Rattle.bolt_lemmas.proofs.Exports.{has_map, one_list, rises_right}
use Rattle.bolt_recover.proofs.Words.{Before, before_irreflexive, before_strict, before_trans, Finding, Gives, Has, has_split, Each, IsClaimedIn}
use Rattle.bolt_recover.proofs.Words.{IsOpen, IsSurvey, Meta, node_at, Nodes, passes_fewer, passes_silent, Reach, reached, Spot, Surveys, tests_same}
use Rattle.bolt_recover.proofs.Words.{SurveyedWay, RisesBy}
use Rattle.bolt_check.proofs.Exports.{tests_one}
use Rattle.bolt_tree.proofs.Exports.{before_under}

abbrev pub ways : List SurveyedWay → List (List ℕ)
ways visits = map (λ (v : SurveyedWay). v.way) visits

abbrev pub Earlier : SurveyedWay → SurveyedWay → Type 0
Earlier v w = Before v.way w.way

pub rise : (visits : List SurveyedWay) → RisesBy Before (ways visits) → RisesBy Earlier visits
rise [] rises = tt
rise (x ∷ visits) rises = (λ v has. rises.0 v.way (has_map (λ (z : SurveyedWay). z.way) visits v has), rise visits rises.1)

-- what is earlier than a visit stands in front of it
none_earlier : (x : SurveyedWay) (rest : List SurveyedWay) → RisesBy Earlier (x ∷ rest) → (v : SurveyedWay) → Has (x ∷ rest) v → Earlier v x → ⊥
none_earlier x rest rises v h lt = grind (arith, before_irreflexive, before_strict)

pub in_front : (front : List SurveyedWay) (x : SurveyedWay) (rest : List SurveyedWay) → RisesBy Earlier (front ++ x ∷ rest) → (v : SurveyedWay)
    → Has (front ++ x ∷ rest) v → Earlier v x → Has front v
in_front front x rest rises v has lt =
    elim (has_split front (x ∷ rest) v has) [ inl before ↦ before | inr on ↦ absurd (none_earlier x rest (rises_right Earlier front (x ∷ rest) rises) v on lt) ]

-- what holds of each visit if it holds of the earlier ones holds of all
along : (Q : SurveyedWay → Type 0) (visits : List SurveyedWay) → RisesBy Earlier visits
    → ((x : SurveyedWay) → Has visits x → ((v : SurveyedWay) → Has visits v → Earlier v x → Q v) → Q x) → Each Q visits
along Q [] rises step = λ x has. absurd has
along Q (y ∷ visits) rises step =
    let first : Q y = step y (inl refl) (λ v has lt. absurd (none_earlier y visits rises v has lt)) in
    let later =
    along Q visits rises.1 (λ x has before. step x (inr has) (λ v there lt. elim there [ inl same ↦ subst Q same first | inr more ↦ before v more lt ])) in
    λ x has. elim has [ inl same ↦ subst Q same first | inr more ↦ later x more ]

pub gives_same : (nodes : Nodes) (a b : ℕ → Type 0) (s : Spot) (f : Option Finding) → ((n : ℕ) → a n → b n) → ((n : ℕ) → b n → a n)
    → Gives nodes a s f → Gives nodes b s f
gives_same nodes a b s f to from h = grind (arith, passes_fewer, tests_same)

pub gives_one : (nodes : Nodes) (a : ℕ → Type 0) (s : Spot) (f g : Option Finding) → Gives nodes a s f → Gives nodes a s g → f ≡ g
gives_one nodes a s f g h k = grind (arith, passes_silent, tests_one)

module _ (nodes : Nodes) (reach : Reach) where
  -- all of one survey before a way is in the other
  abbrev Keeps : (a b : List SurveyedWay) → List ℕ → Type 0
  Keeps a b way = (v : SurveyedWay) → Has a v → Before v.way way → Has b v

  open_in : (a b : List SurveyedWay) (way : List ℕ) → Keeps a b way → IsOpen a way → IsOpen b way
  open_in a b way to h = grind (arith, before_under)

  claimed_in : (a b : List SurveyedWay) (way : List ℕ) → Keeps a b way → (n : ℕ) → IsClaimedIn nodes reach a way n → IsClaimedIn nodes reach b way n
  claimed_in a b way to n h = grind arith

  in_other : (a b : List SurveyedWay) → Surveys nodes reach a → Surveys nodes reach b → (x : SurveyedWay) → Has a x → Keeps a b x.way
      → Keeps b a x.way → Has b x
  in_other a b of_a of_b x has to from =
      let before = IsClaimedIn nodes reach b x.way in
      let (opened, (s, led, gives)) = of_a.only x has in
      let (found, there) = of_b.all x.way s (open_in a b x.way to opened) led in
      let (t, also, finds) = (of_b.only _ there).1 in
      let same : t ≡ s = cc in
      let one = gives_one nodes before s found x.found (subst (λ (z : Spot). Gives nodes before z found) same finds)
      (gives_same nodes (IsClaimedIn nodes reach a x.way) before s x.found (claimed_in a b x.way to) (claimed_in b a x.way from) gives) in
      subst (λ (f : Option Finding). Has b (record { way = x.way; found = f })) one there

  all_in : (a b : List SurveyedWay) → Surveys nodes reach a → Surveys nodes reach b → Each (Has b) a
  all_in a b of_a of_b = along (Has b) a (rise a of_a.rises) (λ x has to. in_other a b of_a of_b x has to (λ v there lt.
      along (λ u. Earlier u x → Has a u) b (rise b of_b.rises) (λ u inside from less. in_other b a of_b of_a u inside
      (λ w h k. from w h k (before_trans w.way u.way x.way k less)) (λ w h k. to w h (before_trans w.way u.way x.way k less))) v there lt))

-- a file has at most one
pub same_survey : (file : List ℕ) (meta : Meta) (a b : List SurveyedWay) → IsSurvey file meta a → IsSurvey file meta b → a ≡ b
same_survey file meta a b of_a of_b =
    let nodes = node_at file meta in
    let reach = reached nodes meta.root in
    one_list Earlier (λ v w. before_strict v.way w.way) a b (rise a of_a.rises) (rise b of_b.rises) (all_in nodes reach a b of_a of_b)
    (all_in nodes reach b a of_b of_a)

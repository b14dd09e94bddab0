-- Each place of a state has one: its root page is kept or lost.
use Rattle.std.proofs.Common.{◌≡◌, ◌⊎◌, inl, inr, ℕ, List, [], Option, Some, None, length, refl, sym, ap, subst}
use Rattle.bolt_recover.proofs.Words.{At_page, Finding, Gives, IsClaimedIn, IsMetaPage, KeepsRoot, LosesRoot, Meta, merely, node_at, passes_fewer}
use Rattle.bolt_recover.proofs.Words.{reached, root_spot, same_Some, Spot, SurveyedWay, tests_same}
use Rattle.bolt_recover.proofs.{Existing.has_losses, Existing.has_recovered, Existing.has_survey, Existing.one_recovered, Recovering.one_losses}
use Rattle.bolt_recover.proofs.{RootLeaf.only_metas}
use Rattle.bolt_recover.specs.States.{AreStates, IsAmong, IsKept, IsState, PlaceView, StateView, counted32, figures_of, meta_at}

module _ (file : List ℕ) (meta : Meta) where
  root_found : (survey : List SurveyedWay) (found : Option Finding)
      → Gives (node_at file meta) (IsClaimedIn (node_at file meta) (reached (node_at file meta) meta.root) survey []) (At_page (root_spot meta.root)) found
      → KeepsRoot file meta ⊎ ((x : Finding) × LosesRoot file meta x)
  root_found survey None gives = inl (passes_fewer (node_at file meta) _ IsMetaPage (At_page (root_spot meta.root)) (λ n first. inl first) gives)
  root_found survey (Some x) gives =
      inr (
        x,
        tests_same (node_at file meta) _ IsMetaPage (At_page (root_spot meta.root)) x (λ n was. only_metas file meta survey n was) (λ n first. inl first) gives,
      )

  -- the root page is kept or lost
  root_known : KeepsRoot file meta ⊎ ((x : Finding) × LosesRoot file meta x)
  root_known =
      let (survey, is) = has_survey file meta in
      let (found, has) = is.all [] (At_page (root_spot meta.root)) (inl refl) refl in
      let (spot, led, gives) = (is.only (record { way = []; found = found }) has).1 in
      root_found survey found
      (subst (λ (s : Spot). Gives (node_at file meta) (IsClaimedIn (node_at file meta) (reached (node_at file meta) meta.root) survey []) s found)
      (sym (same_Some _ _ led)) gives)

module _ (file : List ℕ) (place : PlaceView) where
  state_there : KeepsRoot file (meta_at file place) → (s : StateView) × IsKept file s × (s.place ≡ place)
  state_there keeps =
      let (losses, are) = has_losses file (meta_at file place) in
      let (l, recovers) = has_recovered file (meta_at file place) in (
        record { place = place; losses = counted32 (length losses); figures = figures_of l },
        record {
          root = keeps;
          losses = λ others also. ap (λ ls. counted32 (length ls)) (one_losses file (meta_at file place) losses others are also);
          figures = λ other also. ap figures_of (one_recovered file (meta_at file place) l other recovers also);
        },
        refl,
      )

pub each_state : (file : List ℕ) (page_size : ℕ) (kept : List StateView) (lost : List PlaceView) (place : PlaceView)
    → AreStates file page_size kept lost → IsState file page_size place → IsAmong kept lost place
each_state file page_size kept lost place are is = elim (root_known file (meta_at file place)) [
  | inl keeps ↦
      (let (s, kept_is, at) = state_there file place keeps in inl (s, (are.kept_are.exact s).1 (subst (IsState file page_size) (sym at) is, kept_is), at))
  | inr loses ↦ inr ((are.lost_are.exact place).1 (is, merely loses))
]

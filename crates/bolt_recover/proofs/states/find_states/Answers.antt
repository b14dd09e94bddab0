use Rattle.std.proofs.Common.{◌≡◌, ap, is_lt, rules}
use Rattle.std.proofs.lemmas.List.Sorted.{IsPermutation-map, answers_always}
use Rattle.bolt_lemmas.proofs.Exports.{sorted_mapped}
use Rattle.bolt_recover.proofs.Words.{Contains}
use Rattle.bolt_recover.proofs.{StatesGrow.moved, StatesGrow.stay}
use Rattle.bolt_recover.proofs.StatesOrder.{code_place_lt, code_state_lt, place_ranks, state_ranks}
use Rattle.bolt_recover.specs.ShownStates.{place_view, state_view}
use Rattle.bolt_recover.specs.States.{IsKept, IsLost, IsState, PlaceView, StateView, place_cmp, state_cmp}
use Rattle.bolt_recover.proofs.states.find_states.Goals as goal

pub returns-clause-states : goal.returns-clause-states
returns-clause-states c =
    let file = c.args.file.now in
    let size = c.args.page_size in
    let (places, are, tried) = c.in_ok-add_pages.ensures.tried in
    record {
      kept_are =
          moved (λ (s : StateView). s.place) (λ s. IsState file size s.place × IsKept file s) _ _
          (IsPermutation-map state_view _ _ c.sort_unstable_by.ensures.permutation)
          (stay (λ (s : StateView). s.place) (λ s. Contains places s.place × IsKept file s) (λ s. IsState file size s.place × IsKept file s) _ are.kept
          (λ s (is, kept). ((tried s.place).1 is, kept)) (λ s (has, kept). ((tried s.place).0 has, kept)));
      kept_sorted =
          sorted_mapped state_view (λ a b. is_lt (state_cmp a b)) _
          (c.sort_unstable_by.ensures.sorted code_state_lt state_ranks (answers_always _ _ _ (λ f a r g h.
          let e : r ≡ state_cmp (state_view a.0.now) (state_view a.1.0.now) = search rules in ap is_lt e)));
      lost_are =
          moved (λ (p : PlaceView). p) (λ p. IsState file size p × IsLost file p) _ _
          (IsPermutation-map place_view _ _ c.sort_unstable_by-2.ensures.permutation)
          (stay (λ (p : PlaceView). p) (λ p. Contains places p × IsLost file p) (λ p. IsState file size p × IsLost file p) _ are.lost
          (λ p (is, lost). ((tried p).1 is, lost)) (λ p (has, lost). ((tried p).0 has, lost)));
      lost_sorted =
          sorted_mapped place_view (λ a b. is_lt (place_cmp a b)) _
          (c.sort_unstable_by-2.ensures.sorted code_place_lt place_ranks (answers_always _ _ _ (λ f a r g h.
          let e : r ≡ place_cmp (place_view a.0.now) (place_view a.1.0.now) = search rules in ap is_lt e)));
    }

-- The order of states tells any two apart.
use Rattle.std.proofs.Common.{Bool, is_lt}
use Rattle.std.proofs.lemmas.{Cmp.nat_cmp_total, Cmp.on_total, Cmp.then_total, List.MinMax.ranks_by}
use Rattle.std.specs.{Cmp.IsStrictWeakOrder, Cmp.IsTotalOrder}
use Rattle.std.proofs.lemmas.Cmp.{back_total}
use Rattle.bolt_recover.specs.ShownStates.{place_view, state_view}
use Rattle.bolt_recover.specs.States.{PlaceView, StateView, entries_in_figures, place_cmp, state_cmp}
use Rattle.bolt_recover.specs.declared.state.State.{State}
use Rattle.bolt_recover.specs.declared.state.Place as code

place_total : IsTotalOrder place_cmp
place_total = then_total (on_total (λ (p : PlaceView). p.page_size) nat_cmp_total) (on_total (λ (p : PlaceView). p.root) nat_cmp_total)

state_total : IsTotalOrder state_cmp
state_total =
    then_total (on_total (λ (s : StateView). s.losses) nat_cmp_total)
    (then_total (back_total (on_total (λ (s : StateView). entries_in_figures s.figures) nat_cmp_total)) (on_total (λ (s : StateView). s.place) place_total))

-- as the code has them
abbrev pub code_state_lt : State → State → Bool
code_state_lt a b = is_lt (state_cmp (state_view a) (state_view b))

pub state_ranks : IsStrictWeakOrder code_state_lt
state_ranks = ranks_by state_total state_view

abbrev pub code_place_lt : code.Place → code.Place → Bool
code_place_lt a b = is_lt (place_cmp (place_view a) (place_view b))

pub place_ranks : IsStrictWeakOrder code_place_lt
place_ranks = ranks_by place_total place_view

use Rattle.std.proofs.Common.{◌≡◌, ◌∙◌, [], ◌∷◌, ap, sym}
use Rattle.bolt_recover.proofs.Words.{contains_head, on_ok_weaker}
use Rattle.bolt_recover.specs.ShownStates.{place_list, place_view}
use Rattle.bolt_recover.specs.States.{PlaceView}
use Rattle.bolt_recover.proofs.states.States.add_meta.Goals as goal

pub returns-clause-added : goal.returns-clause-added
returns-clause-added c =
    let place = place_view c.place_of-place.result in
    let list : place_list c.args.meta ≡ place ∷ [] = ap place_list c.in-Some.is ∙ ap (λ (p : PlaceView). p ∷ []) (sym c.place_of-place.ensures) in
    on_ok_weaker c.add.result (λ added places are apart.
    rw list (added c.args.file.now places c.in_ok-state.ensures are (λ has. apart place has (rw list (contains_head place []))))) c.add.ensures.added

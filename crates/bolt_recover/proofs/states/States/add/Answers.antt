use Rattle.std.proofs.Common.{◌∙◌, ◌++◌, ◌∷◌, [], ap, subst, map}
use Rattle.std.proofs.lemmas.List.{map-append}
use Rattle.bolt_recover.proofs.Words.{KeepsRoot}
use Rattle.bolt_recover.specs.{ShownStates.place_view, ShownStates.state_view, States.meta_at}
use Rattle.bolt_recover.proofs.StatesKept.{add_kept, add_lost, kept_stay, lost_stay}
use Rattle.bolt_recover.proofs.states.States.add.Goals as goal

pub returns-in_ok-reserve-in-Some-clause-added : goal.returns-in_ok-reserve-in-Some-clause-added
returns-in_ok-reserve-in-Some-clause-added c = λ file places at are fresh.
    let (same, is) = rw c.in-Some.is at at in
    let items =
    ap (map state_view) (c.push_reserved.ensures.items ∙ ap (λ xs. xs ++ c.in-Some.state ∷ []) c.reserve.ensures.items)
    ∙ map-append state_view _ (c.in-Some.state ∷ []) in
    record {
      kept = rw items (add_kept file places _ fresh _ (state_view c.in-Some.state) same is are.kept);
      lost = lost_stay file places _ fresh _ (subst (λ place. KeepsRoot file (meta_at file place)) same is.root) are.lost;
    }

pub returns-in_ok-reserve-in-None-clause-added : goal.returns-in_ok-reserve-in-None-clause-added
returns-in_ok-reserve-in-None-clause-added c = λ file places at are fresh.
    let is = rw c.in-None.is at at in
    let items =
    ap (map place_view) (c.push_reserved-in-None.ensures.items ∙ ap (λ xs. xs ++ c.args.place ∷ []) c.reserve-in-None.ensures.items)
    ∙ map-append place_view _ (c.args.place ∷ []) in
    record {
      kept = kept_stay file places _ fresh _ is are.kept;
      lost = rw items (add_lost file places _ fresh _ is are.lost);
    }

use Rattle.std.proofs.Common.{◌↔◌, ◌++◌, [], inl, subst, sym}
use Rattle.bolt_recover.proofs.Words.{Contains, Meta, contains_none, on_ok_weaker}
use Rattle.bolt_recover.proofs.StatesTried.{lists_apart, lists_named, none_before}
use Rattle.bolt_recover.specs.{ShownStates.place_list, States.IsMetaRoot, States.PlaceView}
use Rattle.std.specs.declared.option.Option.{Option}
use Rattle.bolt_recover.proofs.states.States.add_named.Goals as goal

pub returns-clause-tried : goal.returns-clause-tried
returns-clause-tried c =
    let file = c.args.file.now in
    let zero = c.args.self.now.metas.zero in
    let one = c.args.self.now.metas.one in
    let (in_zero, in_one) = c.requires.metas in
    let first = c.in_ok-add_meta.ensures.added [] c.requires.none (λ p has. absurd (contains_none p has)) in
    let named : (p : PlaceView) → Contains (place_list zero ++ place_list c.other.result) p ↔ IsMetaRoot file p =
    λ p. subst (λ (o : Option Meta). Contains (place_list zero ++ place_list o) p ↔ IsMetaRoot file p) (sym c.other.ensures)
    (lists_named file zero one in_zero in_one p) in
    on_ok_weaker c.add_meta-2.result (λ added page_size. (
      place_list zero ++ place_list c.other.result,
      added (place_list zero) first
          (λ p a b. lists_apart file zero one in_zero in_one p a (subst (λ (o : Option Meta). Contains (place_list o) p) c.other.ensures b)),
      λ p. (λ has. inl ((named p).0 has), λ is. (named p).1 (none_before file page_size p is)),
    )) c.add_meta-2.ensures.added

use Rattle.std.proofs.Common.{◌∙◌, ◌++◌, ◌+◌, [], ◌∷◌, inl, inr, refl, sym, subst, arith}
use Rattle.bolt_recover.proofs.Words.{Contains, Contains-append_left, on_ok_weaker}
use Rattle.bolt_recover.proofs.StatesKept.{is_last, last_there}
use Rattle.bolt_recover.proofs.StatesTried.{less, more, names_named, not_named}
use Rattle.bolt_recover.specs.{Private.StatesTried.IsTried, ShownStates.place_view, States.HasBucketsAlone, States.IsMetaRoot, States.meta_at}
use Rattle.bolt_recover.proofs.states.States.add_page.Goals as goal

pub returns-then-names-clause-tried : goal.returns-then-names-clause-tried
returns-then-names-clause-tried c =
    let file = c.args.file.now in
    let place = place_view c.args.place in
    let metas = c.args.self.now.metas in
    let named = names_named file metas.zero metas.one c.requires.metas.0 c.requires.metas.1 place (sym c.names.ensures ∙ c.if-names.true) in
    let (places, are, tried) = c.requires.tried in (
      places,
      are,
      λ p. (
        λ has. more file place p ((tried p).0 has),
        λ is. (tried p).1 (elim (less file place p is) [ inl old ↦ old | inr new ↦ inl (subst (IsMetaRoot file) new.0 named) ]),
      ),
    )

pub returns-in-Some-clause-tried : goal.returns-in-Some-clause-tried
returns-in-Some-clause-tried c =
    let file = c.args.file.now in
    let place = place_view c.args.place in
    let metas = c.args.self.now.metas in
    let other = not_named file metas.zero metas.one c.requires.metas.0 c.requires.metas.1 place (sym c.names.ensures ∙ c.if-names.false) in
    let (places, are, tried) = c.requires.tried in
    let (alone, at) = rw c.in-Some.is at c.in_ok-state.ensures in
    let own : IsTried file place.page_size (place.root + 1) place = inr ((refl, c.requires.from, c.requires.within, alone), omega arith) in
    on_ok_weaker c.add.result (λ added. (
      places ++ place ∷ [],
      added file places at are (λ has. elim ((tried place).0 has) [ inl named ↦ other named | inr page ↦ (let lt = page.1 in omega (arith, lt)) ]),
      λ p. (
        λ has. elim (is_last file places place p has) [
          | inl old ↦ more file place p ((tried p).0 old)
          | inr last ↦ subst (IsTried file place.page_size (place.root + 1)) last own
        ],
        λ is. elim (less file place p is) [
          | inl old ↦ Contains-append_left places (place ∷ []) p ((tried p).1 old)
          | inr new ↦ subst (Contains (places ++ place ∷ [])) new.0 (last_there file places place)
        ],
      ),
    )) c.add.ensures.added

pub returns-in-None-clause-tried : goal.returns-in-None-clause-tried
returns-in-None-clause-tried c =
    let file = c.args.file.now in
    let place = place_view c.args.place in
    let none = rw c.in-None.is at c.in_ok-state.ensures in
    let (places, are, tried) = c.requires.tried in (
      places,
      are,
      λ p. (
        λ has. more file place p ((tried p).0 has),
        λ is. (tried p).1 (elim (less file place p is) [
          | inl old ↦ old
          | inr new ↦ absurd (none (subst (λ q. HasBucketsAlone file (meta_at file q)) (sym new.0) new.1.3))
        ]),
      ),
    )

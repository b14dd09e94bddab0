use Rattle.std.proofs.Common.{◌∙◌, ap, arith, inl, inr, length}
use Rattle.std.proofs.{lemmas.Result.on_err_weaker, lemmas.Result.on_ok_weaker}
use Rattle.bolt_check.proofs.{Words.unclaimed, Visited.stored}
use Rattle.bolt_check.specs.Claims.{claims_length, is_claimed, pages_left, claims_viewers}
use Rattle.bolt_check.proofs.claims.Claims.visit.Goals as goal

pub returns-clause-length : goal.returns-clause-length
unfolding claims_length
returns-clause-length c =
    ap length (stored c.args.self.now.table _ _ c.deref_mut.ensures.value c.visit.auto.table) ∙ c.visit.auto.table ∙ ap length c.deref_mut.ensures.value

pub returns-clause-found : goal.returns-clause-found
unfolding claims_viewers
returns-clause-found c = rw c.deref_mut.ensures.value at c.visit.ensures.found

pub returns-clause-same : goal.returns-clause-same
unfolding is_claimed
returns-clause-same c = grind (arith, stored, on_err_weaker)

pub returns-clause-left : goal.returns-clause-left
unfolding pages_left
returns-clause-left c =
    rw (stored c.args.self.now.table _ _ c.deref_mut.ensures.value c.visit.auto.table)
    (on_err_weaker c.visit.result (ap unclaimed) (rw c.deref_mut.ensures.value at c.visit.ensures.same))

pub returns-clause-claims : goal.returns-clause-claims
unfolding claims_viewers
returns-clause-claims c =
    rw (stored c.args.self.now.table _ _ c.deref_mut.ensures.value c.visit.auto.table)
    (on_ok_weaker c.visit.result (λ takes n. (takes.split n, λ h. elim h [ inl old ↦ takes.kept n old | inr span ↦ takes.span n span ]))
    (rw c.deref_mut.ensures.value at c.visit.ensures.claims))

pub returns-clause-fewer : goal.returns-clause-fewer
unfolding pages_left
returns-clause-fewer c =
    rw (stored c.args.self.now.table _ _ c.deref_mut.ensures.value c.visit.auto.table) (rw c.deref_mut.ensures.value at c.visit.ensures.fewer)

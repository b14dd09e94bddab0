use Rattle.std.proofs.Common.{◌∙◌, ◌==◌, Some, ap, eq-eqb, length, option_map, sym, option_and_then}
use Rattle.std.proofs.lemmas.Bool.{cond-false, cond-true, ne_eqb}
use Rattle.bolt_etcd.specs.Store.Statuses.{number_of_eight}
use Rattle.bolt_etcd.proofs.StoreLemmas.{value_at}
use Rattle.bolt_etcd.proofs.store.status.number_under.Goals as goal

pub returns-in_err-value : goal.returns-in_err-value
returns-in_err-value c = λ entries are.
    let value = value_at _ _ entries c.args.key.now are _ c.get.ensures in
    c.from_residual.ensures ∙ sym (ap (option_and_then number_of_eight) (value ∙ ap (option_map (λ value. value.now)) c.in_err-value.was))

pub returns-then-value-ne8 : goal.returns-then-value-ne8
returns-then-value-ne8 c = λ entries are.
    let value = value_at _ _ entries c.args.key.now are _ c.get.ensures in
    sym (ap (option_and_then number_of_eight) (value ∙ ap (option_map (λ value. value.now)) c.in_ok-value.was)
    ∙ cond-false (length c.in_ok-value.value.now == 8) _ _ (ne_eqb _ _ c.if-value-ne8.true))

pub returns : goal.returns
returns c = λ entries are.
    let value = value_at _ _ entries c.args.key.now are _ c.get.ensures in
    ap Some c.read_u64.ensures
    ∙ sym (ap (option_and_then number_of_eight) (value ∙ ap (option_map (λ value. value.now)) c.in_ok-value.was)
    ∙ cond-true (length c.in_ok-value.value.now == 8) _ _ (eq-eqb _ _ c.if-value-ne8.false))

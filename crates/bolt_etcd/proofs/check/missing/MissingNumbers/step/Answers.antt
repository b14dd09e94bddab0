use Rattle.std.proofs.Common.{◌∙◌, ◌++◌, Option, ap, sym}
use Rattle.std.proofs.{lemmas.Bool.cond-false, lemmas.Bool.cond-true, lemmas.Bool.eq-eqb, lemmas.Bool.ne_eqb, lemmas.List.append-nil}
use Rattle.std.specs.Option.{option_to_list}
use Rattle.bolt_etcd.specs.{Check.MissingNumbers.missing_before, Check.MissingNumbers.revisions_between, Check.MissingNumbers.transactions_between}
use Rattle.bolt_etcd.specs.{declared.check.missing.Missing.Missing}
use Rattle.bolt_etcd.proofs.check.missing.MissingNumbers.step.Goals as goal

pub returns-then-key-main-clause-missing : goal.returns-then-key-main-clause-missing
unfolding missing_before
returns-then-key-main-clause-missing c =
    ap (λ (o : Option Missing). option_to_list c.revisions_between.result ++ option_to_list o) c.requires.pending
    ∙ append-nil (option_to_list c.revisions_between.result)
    ∙ ap option_to_list c.revisions_between.ensures
    ∙ sym (cond-true _ _ _ (eq-eqb _ _ c.if-key-main.true))

pub returns-in_default-clause-missing : goal.returns-in_default-clause-missing
unfolding missing_before
returns-in_default-clause-missing c =
    ap (λ (o : Option Missing). option_to_list c.revisions_between-revisions.result ++ option_to_list o) c.requires.pending
    ∙ append-nil (option_to_list c.revisions_between-revisions.result)
    ∙ ap option_to_list c.revisions_between-revisions.ensures
    ∙ ap (λ (o : Option Missing). option_to_list o ++ option_to_list (revisions_between c.args.key.main 0 c.args.key.sub))
    (sym (sym c.transactions_between.ensures ∙ c.in_default.is))
    ∙ sym (cond-false _ _ _ (ne_eqb _ _ c.if-key-main.false))

pub returns-clause-missing : goal.returns-clause-missing
unfolding missing_before
returns-clause-missing c =
    ap (λ (o : Option Missing). option_to_list o ++ option_to_list c.revisions_between-revisions.result) (sym c.in-Some.is ∙ c.transactions_between.ensures)
    ∙ ap (λ (o : Option Missing). option_to_list (transactions_between c.args.self.now.main c.args.key.main) ++ option_to_list o)
    c.revisions_between-revisions.ensures
    ∙ sym (cond-false _ _ _ (ne_eqb _ _ c.if-key-main.false))

-- Nothing is wrong, and the store is looked at; or what is wrong was written.
use Rattle.std.proofs.Common.{List, inl, inr, subst, ℕ}
use Rattle.bolt_commands.proofs.{Vocabulary.meta_of, Doing.answer_as, ReadFiles.own_trees, Verdicts.after_nothing, Verdicts.not_done}
use Rattle.bolt_commands.proofs.{Verdicts.right_done}
use Rattle.bolt_commands.specs.EtcdAnswers.{IsStoreAnswer, IsStoreText}
use Rattle.bolt_commands.proofs.commands.etcd_check_command.do_etcd_check.Goals as goal

pub put_store-requires : goal.put_store-requires
put_store-requires g c =
    let sound = c.in-Right.ensures.is.1.sound in
    own_trees c.args.input.file.now c.args.job.now.meta c.in-Right.checked sound.bytes sound.under

pub returns-in-Right : goal.returns-in-Right
returns-in-Right g c =
    let right = c.in-Right.ensures.is.1 in
    let sound = right.sound in
    let meta = meta_of c.in-Right.checked in
    answer_as (after_nothing c.in-Right.ensures.is.0 c.put_store.ensures) (λ answer store.
    inl (
      meta,
      (_, c.find.ensures, right.wanted _ (right_done c.find.result c.args.input.file.now c.args.job.now.meta meta right.fine sound.under)),
      sound.under,
      subst (λ (file : List ℕ). IsStoreAnswer file IsStoreText meta answer) sound.bytes store,
    ))

pub returns-in-Wrong : goal.returns-in-Wrong
returns-in-Wrong g c = answer_as c.in-Wrong.ensures.is (λ answer is. inr ((_, c.find.ensures, is.0), not_done answer.ending is.1))

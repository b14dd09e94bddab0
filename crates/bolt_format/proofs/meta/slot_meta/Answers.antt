use Rattle.std.proofs.Common.{inl}
use Rattle.std.proofs.lemmas.Result.{IfErr-weaker, IfOk-weaker, on_err_weaker}
use Rattle.bolt_format.proofs.MetaLemmas.{IsInOne-beside, none_found}
use Rattle.bolt_format.proofs.meta.slot_meta.Goals as goal

pub returns-in-Ok-clause-valid : goal.returns-in-Ok-clause-valid
returns-in-Ok-clause-valid c =
    rw c.in-One.is (IfOk-weaker c.meta_at.result _ _ (λ one valid. inl (c.in-Ok.zero, c.in-Ok.ensures.valid, valid)) c.meta_at.ensures.valid)

pub returns-in-Ok-clause-fault : goal.returns-in-Ok-clause-fault
returns-in-Ok-clause-fault c =
    rw c.in-One.is (IfErr-weaker c.meta_at.result _ _ (λ fault has. inl (c.in-Ok.zero, c.in-Ok.ensures.valid, has)) c.meta_at.ensures.fault)

pub returns-in-Ok-clause-none : goal.returns-in-Ok-clause-none
returns-in-Ok-clause-none c =
    rw c.in-One.is
    (on_err_weaker c.meta_at.result
    (λ none meta valid. none meta (IsInOne-beside c.args.file.now c.in-Ok.zero meta c.in-Ok.ensures.valid valid)) c.meta_at.ensures.none)

pub returns-in-Err-clause-none : goal.returns-in-Err-clause-none
returns-in-Err-clause-none c =
    rw c.in-One.is
    (rw c.ok_or.ensures.value (none_found c.args.file.now c.lone_meta.result c.in-Err.fault c.in-Err.ensures.none c.lone_meta.ensures.none))

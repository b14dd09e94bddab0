use Rattle.std.proofs.Common.{ap, inr, refl}
use Rattle.bolt_check.specs.declared.check_fault.CheckFault.TheVariants as check
use Rattle.bolt_commands.specs.{EtcdAnswers.IsAnswerAt, EtcdAnswers.IsStatusText, declared.failure.Failure.TheVariants.Memory}
use Rattle.bolt_commands.proofs.{Doing.answer_nothing, Doing.answer_put}
use Rattle.bolt_commands.proofs.EtcdAnswers.{answer_at, compacted_answer, here, keys, own, unread_store}
use Rattle.bolt_etcd.specs.declared.store.status.StoreStatus.{StoreStatus}
use Rattle.bolt_commands.proofs.commands.etcd_status_command.do_etcd_status.Goals as goal

pub returns-in_err-store : goal.returns-in_err-store
returns-in_err-store g c =
    let job = c.args.job.now in
    answer_nothing _ _ (unread_store c.args.input.file.now job.meta (λ store. IsAnswerAt job.at store (IsStatusText job store)) _
    c.in_err-store.ensures.refused (λ store none. rw none refl)) c.from_residual.ensures.1

pub returns-in_err-refuse_compacted : goal.returns-in_err-refuse_compacted
returns-in_err-refuse_compacted g c =
    let s = c.in_ok-store.store in
    let of = c.in_ok-store.ensures.found in
    let refused = c.in_err-refuse_compacted.ensures.refused in
    compacted_answer _ _ s of _ (IsStatusText c.args.job.now) _ c.args.job.now.at (refused.1 (own _ _ s of).0 (here _ _ s of)) _ refused.0
    c.from_residual-in_err-refuse_compacted.ensures.1

pub returns-in_err-status : goal.returns-in_err-status
returns-in_err-status g c = answer_nothing Memory _ (inr (check.Memory, tt, (Memory, refl, refl))) c.from_residual-in_err-status.ensures.1

pub returns : goal.returns
returns g c =
    let job = c.args.job.now in
    let s = c.in_ok-store.store in
    let of = c.in_ok-store.ensures.found in
    let (entries, at, are) = keys _ _ s of in
    let kept = c.in_ok-refuse_compacted.ensures.kept (own _ _ s of).0 (here _ _ s of) in
    let status = rw c.up_to.ensures at (c.in_ok-status.ensures (own _ _ s of).0 (here _ _ s of) entries are) in
    let number = ap (λ (x : StoreStatus). x.unread) status in
    rw (c.end_status.ensures, number)
    (answer_at _ _ s of _ (IsStatusText job) job.at kept (answer_put _ c.put_status.result refl (rw status at c.put_status.ensures)))

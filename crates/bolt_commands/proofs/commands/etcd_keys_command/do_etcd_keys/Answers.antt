use Rattle.std.proofs.Common.{refl}
use Rattle.bolt_report.specs.RevisionLines.{named_with, revision_lines}
use Rattle.bolt_commands.specs.EtcdAnswers.{IsAnswerAt, IsCurrentText, up_to}
use Rattle.bolt_commands.proofs.{Doing.answer_as, Doing.answer_nothing}
use Rattle.bolt_commands.proofs.EtcdAnswers.{answer_at, compacted_answer, counted_ended, current_keys, here, keys, known_of, own, unread_store}
use Rattle.bolt_commands.proofs.commands.etcd_keys_command.do_etcd_keys.Goals as goal

pub returns-in_err-store : goal.returns-in_err-store
returns-in_err-store g c =
    answer_nothing _ _ (unread_store c.args.input.file.now c.args.job.now.meta (λ store. IsAnswerAt c.args.job.now.at store (IsCurrentText c.args.job.now))
    _ c.in_err-store.ensures.refused (λ store none. rw none refl)) c.from_residual.ensures.1

pub returns-in_err-refuse_compacted : goal.returns-in_err-refuse_compacted
returns-in_err-refuse_compacted g c =
    let s = c.in_ok-store.store in
    let of = c.in_ok-store.ensures.found in
    let refused = c.in_err-refuse_compacted.ensures.refused in
    compacted_answer _ _ s of _ (λ store. IsCurrentText c.args.job.now) _ c.args.job.now.at (refused.1 (own _ _ s of).0 (here _ _ s of)) _ refused.0
    c.from_residual-in_err-refuse_compacted.ensures.1

pub returns : goal.returns
returns g c =
    let job = c.args.job.now in
    let s = c.in_ok-store.store in
    let of = c.in_ok-store.ensures.found in
    let (entries, at, are) = keys _ _ s of in
    let (current, is) = current_keys _ _ s of (up_to job.at) in
    let text = revision_lines job.form job.values (named_with job.prefix.items current) in
    let written =
    rw (c.new-lines.ensures.form, c.new-lines.ensures.values, c.as_slice-prefix.ensures.value) at (c.put_current.ensures.written entries are current
    (rw c.up_to.ensures is)) in
    let knows = known_of c.put_current.result _ c.put_current.ensures.unread (λ m all. all entries are) in
    let put = counted_ended text entries c.put_current.result written knows c.put_current.ensures.fault in
    let kept = c.in_ok-refuse_compacted.ensures.kept (own _ _ s of).0 (here _ _ s of) in
    rw c.end_revisions.ensures (answer_at _ _ s of _ (λ store. IsCurrentText job) job.at kept (answer_as put (λ answer ended. (current, is, ended))))

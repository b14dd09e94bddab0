use Rattle.std.proofs.Common.{◌∙◌, Err, ap, option_map, refl, sym}
use Rattle.bolt_etcd.specs.Store.Newest.{value_if}
use Rattle.bolt_commands.specs.{EtcdAnswers.IsAnswerAt, EtcdAnswers.IsNewestText, EtcdAnswers.entries_ending, KeyAnswers.value_shown}
use Rattle.bolt_commands.specs.{declared.failure.Failure.TheVariants.NoKey}
use Rattle.bolt_commands.proofs.{CutTexts.short_json_put, Doing.answer_as, Doing.answer_nothing}
use Rattle.bolt_commands.proofs.EtcdAnswers.{answer_at, compacted_answer, here, keys, own, unread_store}
use Rattle.bolt_commands.proofs.commands.etcd_get_command.do_etcd_get.Goals as goal

pub returns-in_err-store : goal.returns-in_err-store
returns-in_err-store g c =
    answer_nothing _ _ (unread_store c.args.input.file.now c.args.job.now.meta (λ store. IsAnswerAt c.args.job.now.at store (IsNewestText c.args.job.now)) _
    c.in_err-store.ensures.refused (λ store none. rw none refl)) c.from_residual.ensures.1

pub returns-in_err-refuse_compacted : goal.returns-in_err-refuse_compacted
returns-in_err-refuse_compacted g c =
    let s = c.in_ok-store.store in
    let of = c.in_ok-store.ensures.found in
    let refused = c.in_err-refuse_compacted.ensures.refused in
    compacted_answer _ _ s of _ (λ store. IsNewestText c.args.job.now) _ c.args.job.now.at (refused.1 (own _ _ s of).0 (here _ _ s of)) _ refused.0
    c.from_residual-in_err-refuse_compacted.ensures.1

pub returns-in_default : goal.returns-in_default
returns-in_default g c =
    let job = c.args.job.now in
    let s = c.in_ok-store.store in
    let of = c.in_ok-store.ensures.found in
    let (entries, at, are) = keys _ _ s of in
    let kept = c.in_ok-refuse_compacted.ensures.kept (own _ _ s of).0 (here _ _ s of) in
    let found = rw (c.as_slice.ensures.value, c.up_to.ensures) at (c.find-newest.ensures.revision entries are) in
    let none = ap value_if (sym found) ∙ sym c.value.ensures ∙ ap (option_map (λ value. value.now)) c.in_default.is in
    answer_at _ _ s of (Err NoKey) (λ store. IsNewestText job) job.at kept (answer_nothing NoKey (Err NoKey) (rw none refl) refl)

pub returns : goal.returns
returns g c =
    let job = c.args.job.now in
    let s = c.in_ok-store.store in
    let of = c.in_ok-store.ensures.found in
    let (entries, at, are) = keys _ _ s of in
    let kept = c.in_ok-refuse_compacted.ensures.kept (own _ _ s of).0 (here _ _ s of) in
    let found = rw (c.as_slice.ensures.value, c.up_to.ensures) at (c.find-newest.ensures.revision entries are) in
    let some = ap value_if (sym found) ∙ sym c.value.ensures ∙ ap (option_map (λ value. value.now)) c.in-Some.is in
    let put =
    short_json_put (value_shown job.form job.no_newline c.in-Some.value.now) (entries_ending entries) c.put_value.result
    c.put_value.ensures.written job.form c.put_value.ensures.short c.put_value.ensures.fault in
    rw (c.end_value.ensures, c.find-newest.ensures.unread entries are)
    (answer_at _ _ s of _ (λ store. IsNewestText job) job.at kept (answer_as put (λ answer shown. rw some shown)))

use Rattle.std.proofs.Common.{inl, inr, refl}
use Rattle.bolt_commands.proofs.{Vocabulary.buckets_text, Doing.answer_none, EntryAnswers.entries_put}
use Rattle.bolt_commands.proofs.commands.buckets_command.put_bucket_names.Goals as goal

pub returns-in_err-bucket : goal.returns-in_err-bucket
returns-in_err-bucket g c =
    answer_none _ _ (rw c.as_slice.ensures.value at c.in_err-bucket.ensures.refused)
    (λ meta under nowhere. inl (meta, under, inr (nowhere, refl))) inr c.from_residual.ensures.1

pub returns : goal.returns
returns g c =
    let form = c.args.job.now.form in
    let of = rw c.as_slice.ensures.value at c.in_ok-bucket.ensures.found in
    rw c.end_report.ensures (entries_put of c.buckets.result form (buckets_text form) c.buckets.ensures.written c.buckets.ensures.short c.buckets.ensures.fault)

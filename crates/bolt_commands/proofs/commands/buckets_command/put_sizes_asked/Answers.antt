use Rattle.std.proofs.Common.{inl, inr, refl}
use Rattle.bolt_commands.proofs.{Doing.answer_none, EntryAnswers.sizes_put}
use Rattle.bolt_commands.proofs.commands.buckets_command.put_sizes_asked.Goals as goal

pub returns-in_err-bucket : goal.returns-in_err-bucket
returns-in_err-bucket g c =
    answer_none _ _ (rw c.as_slice.ensures.value at c.in_err-bucket.ensures.refused)
    (λ meta under nowhere. inl (meta, under, inr (nowhere, refl))) inr c.from_residual.ensures.1

pub returns : goal.returns
returns g c =
    let of = rw c.as_slice.ensures.value at c.in_ok-bucket.ensures.found in
    rw c.end_report.ensures (sizes_put of c.put_sizes.result c.args.job.now.form c.put_sizes.ensures.written c.put_sizes.ensures.short c.put_sizes.ensures.fault)

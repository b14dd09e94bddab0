use Rattle.std.proofs.Common.{inl, inr, refl}
use Rattle.bolt_commands.proofs.{Vocabulary.keys_text, Doing.answer_none, EntryAnswers.entries_put}
use Rattle.bolt_report.specs.KeyPrefixes.{with_prefix}
use Rattle.bolt_commands.proofs.commands.keys_command.put_keys_asked.Goals as goal

pub returns-in_err-bucket : goal.returns-in_err-bucket
returns-in_err-bucket g c =
    answer_none _ _ (rw c.as_slice.ensures.value at c.in_err-bucket.ensures.refused)
    (λ meta under nowhere. inl (meta, under, inr (nowhere, refl))) inr c.from_residual.ensures.1

pub returns : goal.returns
returns g c =
    let job = c.args.job.now in
    let of = rw c.as_slice.ensures.value at c.in_ok-bucket.ensures.found in
    let written =
    rw (c.cursor-cursor.ensures.checked, c.cursor-cursor.ensures.start, c.as_slice-prefix.ensures.value) at c.put_keys_with_prefix.ensures.written in
    let short = rw (c.cursor-cursor.ensures.checked, c.cursor-cursor.ensures.start, c.as_slice-prefix.ensures.value) at c.put_keys_with_prefix.ensures.short in
    rw c.end_report.ensures (entries_put of c.put_keys_with_prefix.result job.form (λ entries. keys_text job.form (with_prefix job.prefix.items entries)) written
    short c.put_keys_with_prefix.ensures.fault)

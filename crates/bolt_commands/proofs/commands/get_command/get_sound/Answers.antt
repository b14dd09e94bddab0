use Rattle.std.proofs.Common.{Ok, inl, inr, refl, sym}
use Rattle.bolt_commands.proofs.Vocabulary.{Value, owned_path, value_shown}
use Rattle.bolt_commands.proofs.{AtPaths.held_at, CutTexts.short_json_put, Doing.answer_as, Doing.answer_nothing, ReadFiles.own_trees}
use Rattle.bolt_commands.proofs.commands.get_command.get_sound.Goals as goal

pub returns-in_err-checked : goal.returns-in_err-checked
returns-in_err-checked g c = answer_nothing _ _ (inr c.in_err-checked.ensures.refused) c.from_residual.ensures.1

pub returns-in_err-value : goal.returns-in_err-value
returns-in_err-value g c =
    let opened = c.in_ok-checked.ensures in
    let refused = rw (opened.bytes, c.as_slice.ensures.value) at c.in_err-value.ensures.refused in
    answer_nothing _ _ (inl (_, opened.sound, inr (_, refused, refl))) c.from_residual-in_err-value.ensures.1

pub returns : goal.returns
returns g c =
    let opened = c.in_ok-checked.ensures in
    let job = c.args.job.now in
    let shown = value_shown job.form job.no_newline c.in_ok-value.value.now in
    let trees = own_trees c.args.input.file.now job.meta c.in_ok-checked.checked opened.bytes opened.sound in
    let held =
    held_at c.in_ok-checked.checked (owned_path job.path.items) (Value c.in_ok-value.value.now) trees
    (rw (sym c.as_slice.ensures.value) c.in_ok-value.ensures.holds) in
    let put = short_json_put shown (Ok 0) c.put_value.result c.put_value.ensures.written job.form c.put_value.ensures.short c.put_value.ensures.fault in
    rw c.end_report.ensures (answer_as put (λ answer is. inl (_, opened.sound, inl (_, rw opened.bytes at held, is))))

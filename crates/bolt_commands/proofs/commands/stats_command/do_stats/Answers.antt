use Rattle.std.proofs.Common.{inl, inr, refl}
use Rattle.bolt_commands.proofs.{Vocabulary.owned_path, Doing.answer_nothing, Doing.answer_put, ReadFiles.own_trees, StatsAnswers.stats_missing}
use Rattle.bolt_commands.proofs.commands.stats_command.do_stats.Goals as goal

pub find_stats-requires : goal.find_stats-requires
find_stats-requires g c =
    own_trees c.args.input.file.now c.args.job.now.meta c.in_ok-checked.checked c.in_ok-checked.ensures.bytes c.in_ok-checked.ensures.sound

pub returns-in_err-checked : goal.returns-in_err-checked
returns-in_err-checked g c = answer_nothing _ _ (inr c.in_err-checked.ensures.refused) c.from_residual.ensures.1

pub returns-in_err-stats : goal.returns-in_err-stats
returns-in_err-stats g c =
    let opened = c.in_ok-checked.ensures in
    let job = c.args.job.now in
    let is =
    stats_missing c.args.input.file.now (owned_path job.path.items) job.form _ _
    (rw (opened.bytes, c.as_slice.ensures.value) at c.in_err-stats.ensures.missing) in
    answer_nothing _ _ (inl (_, opened.sound, is)) c.from_residual-in_err-stats.ensures.1

pub returns : goal.returns
returns g c =
    let opened = c.in_ok-checked.ensures in
    let found = rw (opened.bytes, c.as_slice.ensures.value) at c.in_ok-stats.ensures.found in
    rw c.end_write.ensures (answer_put _ c.stats_text.result (inl (_, opened.sound, inl (_, found, refl))) c.stats_text.ensures)

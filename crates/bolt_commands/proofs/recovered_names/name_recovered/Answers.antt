-- The names are written as members are recovered, and the job ends as is then known.
use Rattle.std.proofs.Common.{◌≡◌, ◌∙◌, [], Err, Ok, ap, inr, refl}
use Rattle.bolt_commands.proofs.Vocabulary.{IsRecoveryOf, owned_path, path_of}
use Rattle.bolt_commands.proofs.{Doing.answer_refused, Doing.ends_as, RecoveredAnswers.names_answered, RecoveredAnswers.recovered_none}
use Rattle.bolt_report.specs.MemberNames.{is_wanted}
use Rattle.bolt_commands.proofs.recovered_names.name_recovered.Goals as goal

pub returns-in_err-recovery : goal.returns-in_err-recovery
returns-in_err-recovery g c = answer_refused _ _ (λ failure of. inr (failure, (_, c.in_err-recovery.ensures.refused, of), refl)) c.from_residual.ensures.1

pub returns-in_err-path : goal.returns-in_err-path
returns-in_err-path g c = recovered_none _ _ _ _ (rw c.in_err-path.ensures.memory at c.from_residual-in_err-path.ensures.1)

pub returns-in_err-found : goal.returns-in_err-found
returns-in_err-found g c =
    let opened = c.in_ok-recovery.ensures in
    let r = c.in_ok-recovery.recovery in
    let of : IsRecoveryOf c.args.input.file.now c.args.asked.meta r = record { bytes = opened.file; under = opened.meta; all = opened.all } in
    let same : path_of c.as_slice.result.now ≡ owned_path c.args.asked.path.now = ap path_of c.as_slice.ensures.value ∙ c.in_ok-path.ensures.path in
    let put = c.in_err-found.ensures in
    rw (ends_as _ _ c.from_residual-in_err-found.ensures.1, ← same)
    (names_answered r of _ c.metas_fault-other.ensures c.args.asked.form (is_wanted c.args.asked.names) _ (Err _) put.fault put.written put.found [] put.end)

pub returns : goal.returns
returns g c =
    let opened = c.in_ok-recovery.ensures in
    let r = c.in_ok-recovery.recovery in
    let of : IsRecoveryOf c.args.input.file.now c.args.asked.meta r = record { bytes = opened.file; under = opened.meta; all = opened.all } in
    let same : path_of c.as_slice.result.now ≡ owned_path c.args.asked.path.now = ap path_of c.as_slice.ensures.value ∙ c.in_ok-path.ensures.path in
    let put = c.in_ok-found.ensures in
    rw (c.end_names.ensures, c.find.ensures, c.losses.ensures.losses, ← same)
    (names_answered r of _ c.metas_fault-other.ensures c.args.asked.form (is_wanted c.args.asked.names) _ (Ok _) put.fault put.written put.found _ put.end)

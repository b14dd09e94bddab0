-- All members are returned before the value is written.
use Rattle.std.proofs.Common.{◌≡◌, ◌∙◌, Bool, Err, Ok, ap, inr, refl, true}
use Rattle.bolt_commands.proofs.Vocabulary.{IsRecoveryOf, has_losses, has_recovered, parts, owned_path, path_of, recovery_meta, shortfall}
use Rattle.bolt_commands.proofs.{Doing.answer_nothing, Doing.answer_refused, Doing.ends_as, RecoveredAnswers.none_known, RecoveredAnswers.of_recovery}
use Rattle.bolt_commands.proofs.{RecoveredAnswers.recovered_none, RecoveredAnswers.value_known, RecoveredAnswers.value_put}
use Rattle.bolt_commands.specs.KeyAnswers.{IsRecoveredValue, no_value}
use Rattle.bolt_report.specs.AtPaths.{HoldsNow}
use Rattle.bolt_commands.proofs.commands.get_command.get_recovered.Goals as goal

pub returns-in_err-recovery : goal.returns-in_err-recovery
returns-in_err-recovery g c = answer_refused _ _ (λ failure of. inr (failure, (_, c.in_err-recovery.ensures.refused, of), refl)) c.from_residual.ensures.1

pub returns-in_err-path : goal.returns-in_err-path
returns-in_err-path g c = recovered_none _ _ _ _ (rw c.in_err-path.ensures.memory at c.from_residual-in_err-path.ensures.1)

pub returns-in_err-at : goal.returns-in_err-at
returns-in_err-at g c = recovered_none _ _ _ _ c.from_residual-in_err-at.ensures.1

pub returns-in_err-value : goal.returns-in_err-value
returns-in_err-value g c =
    let r = c.in_ok-recovery.recovery in
    let opened = c.in_ok-recovery.ensures in
    let of : IsRecoveryOf c.args.input.file.now c.args.job.now.meta r = record { bytes = opened.file; under = opened.meta; all = opened.all } in
    let (own, is) = has_recovered c.args.input.file.now (recovery_meta r) in
    let (losses, are) = has_losses c.args.input.file.now (recovery_meta r) in
    let path = owned_path c.args.job.now.path.items in
    let same : path_of c.as_slice-2.result.now ≡ path =
    ap path_of c.as_slice-2.ensures.value ∙ c.in_ok-path.ensures.path ∙ ap owned_path c.as_slice.ensures.value in
    let holds : HoldsNow own path c.in_ok-at.at = rw (same, of.all own is) at (c.in_ok-at.ensures.held own (rw of.bytes is)) in
    let known = c.in_ok-at.ensures.end losses (rw of.bytes are) in
    let (none, why) =
    none_known own path c.in_ok-at.at holds (shortfall (parts losses) c.metas_fault-other.result) _
    (rw (c.find-shortfall.ensures, c.losses.ensures.losses, known) at c.in_err-value.ensures) in
    of_recovery r of _ c.metas_fault-other.ensures (IsRecoveredValue c.args.job.now) _ own is losses are
    (answer_nothing (no_value path own (shortfall (parts losses) c.metas_fault-other.result)) _ (inr (none, refl))
    (rw why at c.from_residual-in_err-value.ensures.1))

pub returns-in_err-put_value : goal.returns-in_err-put_value
returns-in_err-put_value g c =
    let r = c.in_ok-recovery.recovery in
    let opened = c.in_ok-recovery.ensures in
    let of : IsRecoveryOf c.args.input.file.now c.args.job.now.meta r = record { bytes = opened.file; under = opened.meta; all = opened.all } in
    let (own, is) = has_recovered c.args.input.file.now (recovery_meta r) in
    let (losses, are) = has_losses c.args.input.file.now (recovery_meta r) in
    let path = owned_path c.args.job.now.path.items in
    let same : path_of c.as_slice-2.result.now ≡ path =
    ap path_of c.as_slice-2.ensures.value ∙ c.in_ok-path.ensures.path ∙ ap owned_path c.as_slice.ensures.value in
    let holds : HoldsNow own path c.in_ok-at.at = rw (same, of.all own is) at (c.in_ok-at.ensures.held own (rw of.bytes is)) in
    let known = c.in_ok-at.ensures.end losses (rw of.bytes are) in
    let held =
    value_known own path c.in_ok-at.at holds (shortfall (parts losses) c.metas_fault-other.result) _
    (rw (c.find-shortfall.ensures, c.losses.ensures.losses, known) at c.in_ok-value.ensures) in
    let put = c.in_err-put_value.ensures in
    rw (ends_as _ _ c.from_residual-in_err-put_value.ensures.1)
    (of_recovery r of _ c.metas_fault-other.ensures (IsRecoveredValue c.args.job.now) _ own is losses are
    (value_put {A = Bool} c.args.job.now own (shortfall (parts losses) c.metas_fault-other.result) _ held (Err _) put.written put.short put.fault))

pub returns : goal.returns
returns g c =
    let r = c.in_ok-recovery.recovery in
    let opened = c.in_ok-recovery.ensures in
    let of : IsRecoveryOf c.args.input.file.now c.args.job.now.meta r = record { bytes = opened.file; under = opened.meta; all = opened.all } in
    let (own, is) = has_recovered c.args.input.file.now (recovery_meta r) in
    let (losses, are) = has_losses c.args.input.file.now (recovery_meta r) in
    let path = owned_path c.args.job.now.path.items in
    let same : path_of c.as_slice-2.result.now ≡ path =
    ap path_of c.as_slice-2.ensures.value ∙ c.in_ok-path.ensures.path ∙ ap owned_path c.as_slice.ensures.value in
    let holds : HoldsNow own path c.in_ok-at.at = rw (same, of.all own is) at (c.in_ok-at.ensures.held own (rw of.bytes is)) in
    let known = c.in_ok-at.ensures.end losses (rw of.bytes are) in
    let held =
    value_known own path c.in_ok-at.at holds (shortfall (parts losses) c.metas_fault-other.result) _
    (rw (c.find-shortfall.ensures, c.losses.ensures.losses, known) at c.in_ok-value.ensures) in
    let put = c.in_ok-put_value.ensures in
    rw (c.end_listing.ensures, c.find-shortfall.ensures, c.losses.ensures.losses, known)
    (of_recovery r of _ c.metas_fault-other.ensures (IsRecoveredValue c.args.job.now) _ own is losses are
    (value_put {A = Bool} c.args.job.now own (shortfall (parts losses) c.metas_fault-other.result) _ held (Ok true) put.written put.short tt))

use Rattle.std.proofs.Common.{inl, inr, refl}
use Rattle.bolt_commands.proofs.{Vocabulary.meta_of, Doing.answer_put, Doing.answer_refused, ReadFiles.read_active, ReadFiles.refused_active}
use Rattle.bolt_check.proofs.Exports.{some_roles}
use Rattle.bolt_check.specs.RoledFiles.{roles_checked}
use Rattle.bolt_commands.proofs.commands.pages_command.do_pages.Goals as goal

pub returns-in_err-roles : goal.returns-in_err-roles
returns-in_err-roles g c =
    let refused = c.in_err-roles.ensures.refused in
    answer_refused _ _ (λ failure of. inr (_, refused_active _ _ refused, (failure, of, refl))) c.from_residual.ensures.1

pub returns : goal.returns
returns g c =
    let (slot, chosen) = c.in_ok-roles.ensures.meta in
    let sound = c.in_ok-roles.ensures.sound in
    let (roles, are) = some_roles c.args.input.file.now (meta_of (roles_checked c.in_ok-roles.roles)) sound.trees (sound.right refl) in
    let put = rw c.in_ok-roles.ensures.bytes at c.put_pages_asked.ensures in
    rw c.end_write.ensures (answer_put _ c.put_pages_asked.result (inl (_, read_active _ slot _ chosen sound, (roles, are, refl))) (put roles are))

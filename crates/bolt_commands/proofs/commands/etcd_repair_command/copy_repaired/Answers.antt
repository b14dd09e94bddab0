-- The copy is made of the repaired listing; or memory ran out before.
use Rattle.std.proofs.Common.{Err, Ok, inl, inr, refl}
use Rattle.bolt_commands.proofs.{Doing.ends_as}
use Rattle.bolt_commands.proofs.commands.etcd_repair_command.copy_repaired.Goals as goal

pub returns-in_err-repaired : goal.returns-in_err-repaired
returns-in_err-repaired g c = inr (refl, ends_as _ _ c.from_residual.ensures.1)

pub repaired_members_are_whole-requires : goal.repaired_members_are_whole-requires
repaired_members_are_whole-requires g c = let made = c.in_ok-repaired.ensures in rw (made.file, made.meta, made.search) made.all

pub returns-in_err-copied : goal.returns-in_err-copied
returns-in_err-copied g c =
    let made = c.in_ok-repaired.ensures in
    inl (λ listing is.
    (Err _, c.in_err-copied.ensures.copied listing (rw (made.file, made.meta, made.search) is), ends_as _ _ c.from_residual-in_err-copied.ensures.1))

pub returns : goal.returns
returns g c =
    let made = c.in_ok-repaired.ensures in
    inl (λ listing is. (Ok _, c.in_ok-copied.ensures.copied listing (rw (made.file, made.meta, made.search) is), refl))

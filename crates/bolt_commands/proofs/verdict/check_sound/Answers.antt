use Rattle.bolt_commands.proofs.{CheckedBy.checked_so}
use Rattle.bolt_commands.proofs.verdict.check_sound.Goals as goal

pub put_checked-requires : goal.put_checked-requires
put_checked-requires g c =
    let checking = c.args.checking in
    checked_so checking.input.file.now checking.choice c.check.result c.check.ensures.bytes c.check.ensures.sound c.check.ensures.refused

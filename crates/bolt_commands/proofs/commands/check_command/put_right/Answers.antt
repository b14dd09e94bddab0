-- Memory ran out for what bbolt fails on, or it is written.
use Rattle.std.proofs.Common.{inr, refl}
use Rattle.bolt_check.specs.declared.check_fault.CheckFault.TheVariants as check
use Rattle.bolt_commands.proofs.{Vocabulary.meta_of, Doing.answer_nothing, Verdicts.right_found}
use Rattle.bolt_commands.proofs.commands.check_command.put_right.Goals as goal

pub returns-in_err-found : goal.returns-in_err-found
returns-in_err-found g c = answer_nothing _ _ (inr (check.Memory, tt, refl)) c.from_residual.ensures.1

pub returns : goal.returns
returns g c =
    let checking = c.args.checking in
    let sound = c.requires.sound in
    let found = rw sound.bytes at c.in_ok-found.ensures in
    record {
      answer = _;
      is =
          right_found checking.faults checking.input.file.now checking.choice checking.for_bbolt (meta_of c.args.checked) c.in_ok-found.found.of_file.items
          c.in_ok-found.found.on_ways.items
          c.requires.fine sound.under found;
      does = c.put_all.ensures;
    }

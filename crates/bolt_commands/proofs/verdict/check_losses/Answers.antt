-- What is recovered is checked, or nothing is recovered.
use Rattle.bolt_commands.proofs.{LostAnswers.unrecovered_lost, Verdicts.unopened_wrong}
use Rattle.bolt_commands.proofs.verdict.check_losses.Goals as goal

pub returns-in-Err : goal.returns-in-Err
returns-in-Err g c =
    let checking = c.args.checking in
    let failure = c.from.result in
    record {
      is = record {
        answer = _;
        is = (
          unrecovered_lost checking c.in-Err.fault failure c.in-Err.ensures.refused c.from.ensures,
          unopened_wrong checking.faults failure,
        );
        does = c.put_unopened.ensures;
      };
    }

-- What is lost and found is checked, or the file isn't searched.
use Rattle.bolt_commands.proofs.{LostAnswers.unsearched_lost, Verdicts.unopened_wrong}
use Rattle.bolt_commands.proofs.verdict.check_found.Goals as goal

pub returns-in-Err : goal.returns-in-Err
returns-in-Err g c =
    let checking = c.args.checking in
    record {
      is = record {
        answer = _;
        is = (
          unsearched_lost checking c.in-Err.failure c.in-Err.ensures.refused,
          unopened_wrong checking.faults c.in-Err.failure,
        );
        does = c.put_unopened.ensures;
      };
    }

-- Nothing is wrong with a sound file, or something is; or the file is refused.
use Rattle.std.proofs.Common.{◌≡◌, ◌∙◌, false, map, refl, sym, true}
use Rattle.bolt_commands.proofs.{Vocabulary.meta_of, Vocabulary.page_gap_view, Verdicts.refused_file, Verdicts.right_gaps, Verdicts.wrong_gaps}
use Rattle.bolt_commands.specs.CheckAnswers.{is_right}
use Rattle.bolt_commands.proofs.verdict.put_checked.Goals as goal

pub returns-then-is_right : goal.returns-then-is_right
returns-then-is_right g c =
    let checking = c.args.checking in
    let gaps = map page_gap_view c.args.gaps.now in
    let right : is_right checking.faults gaps ≡ true = sym c.is_right.ensures ∙ c.if-is_right.true in
    let (fine, wanted) = right_gaps checking gaps right in
    record { is = (refl, record { sound = rw c.in-Ok.is at c.requires; fine = fine; wanted = wanted }) }

pub returns-else-is_right : goal.returns-else-is_right
returns-else-is_right g c =
    let checking = c.args.checking in
    let gaps = map page_gap_view c.args.gaps.now in
    let wrong : is_right checking.faults gaps ≡ false = sym c.is_right.ensures ∙ c.if-is_right.false in
    record {
      is = record {
        answer = _;
        is = wrong_gaps checking gaps (meta_of c.in-Ok.checked) wrong (rw c.in-Ok.is at c.requires).under;
        does = c.put_findings_after.ensures;
      };
    }

pub returns-in-Err : goal.returns-in-Err
returns-in-Err g c =
    let checking = c.args.checking in
    record {
      is = record {
        answer = _;
        is = refused_file checking (map page_gap_view c.args.gaps.now) c.in-Err.fault (rw c.in-Err.is at c.requires);
        does = c.put_refusal.ensures;
      };
    }

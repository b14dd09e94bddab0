-- Nothing is lost, or something is; or memory ran out.
use Rattle.std.proofs.Common.{◌∙◌, [], inr, map, refl, sym}
use Rattle.bolt_commands.proofs.Vocabulary.{loss_view, page_gap_view, parts, recovery_gaps, recovery_meta}
use Rattle.bolt_commands.proofs.Doing.{answer_nothing}
use Rattle.bolt_commands.proofs.LostAnswers.{none_lost, recovered_lost, some_lost}
use Rattle.bolt_commands.proofs.{CheckedBy.whole_recovered, Verdicts.comes_as}
use Rattle.bolt_commands.specs.declared.failure.Failure.TheVariants.{Memory}
use Rattle.bolt_commands.proofs.verdict.check_recovered.Goals as goal

pub returns-in_default : goal.returns-in_default
returns-in_default g c = record { is = answer_nothing Memory _ (inr (inr (tt, refl)), refl) refl }

pub check_kept-requires : goal.check_kept-requires
check_kept-requires g c =
    let file = c.args.checking.input.file.now in
    let r = c.requires in
    let none = sym c.is_nothing.ensures ∙ c.if-is_nothing.true in
    let ends = rw r.bytes at c.in-Ok.ensures.all in
    record {
      bytes = c.in-Ok.ensures.file ∙ r.bytes;
      under = rw c.in-Ok.ensures.meta r.under.0;
      kept = rw c.in-Ok.ensures.meta (rw r.bytes at c.in-Ok.ensures.kept);
      whole = rw c.in-Ok.ensures.meta (whole_recovered file (recovery_meta c.args.recovery) (map loss_view c.losses.result.now) none
          (λ all are. c.losses.ensures.losses ∙ ends all are));
    }

pub returns-then-is_nothing : goal.returns-then-is_nothing
returns-then-is_nothing g c =
    let checking = c.args.checking in
    let file = checking.input.file.now in
    let r = c.requires in
    let none = sym c.is_nothing.ensures ∙ c.if-is_nothing.true in
    let ends = rw r.bytes at c.in-Ok.ensures.all in
    let whole = rw r.bytes at c.in-Ok.ensures.gaps in
    comes_as c.check_kept.ensures (λ answer found.
    recovered_lost checking (recovery_meta c.args.recovery) (map loss_view c.losses.result.now)
    (recovery_gaps c.finish.new.self) answer
    r.under.0 r.under.1 (λ all are. c.losses.ensures.losses ∙ ends all are) (λ all are. whole all are)
    (none_lost checking (parts (map loss_view c.losses.result.now)) _ [] none answer found))

pub returns : goal.returns
returns g c =
    let checking = c.args.checking in
    let file = checking.input.file.now in
    let r = c.requires in
    let some = sym c.is_nothing.ensures ∙ c.if-is_nothing.false in
    let ends = rw r.bytes at c.in-Ok.ensures.all in
    let whole = rw r.bytes at c.in-Ok.ensures.gaps in
    record {
      is = record {
        answer = _;
        is = (
          recovered_lost checking (recovery_meta c.args.recovery) (map loss_view c.losses.result.now)
              (map page_gap_view c.gaps-gaps.result.now) _
              r.under.0 r.under.1 (λ all are. c.losses.ensures.losses ∙ ends all are) (λ all are. c.gaps-gaps.ensures ∙ whole all are)
              (some_lost checking (parts (map loss_view c.losses.result.now)) _ [] some),
          refl,
        );
        does = c.put_lost_after.ensures;
      };
    }

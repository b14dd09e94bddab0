-- The gaps are found by a recovery; or memory ran out.
use Rattle.std.proofs.Common.{inr, refl}
use Rattle.bolt_commands.proofs.Vocabulary.{all_lost, recovery_gaps}
use Rattle.bolt_commands.proofs.Doing.{answer_nothing}
use Rattle.bolt_commands.proofs.{LostAnswers.none_lost, LostAnswers.searched_lost, ReadFiles.some_page_size, Verdicts.comes_as}
use Rattle.bolt_commands.proofs.CheckedBy.{whole_searched}
use Rattle.bolt_commands.specs.declared.failure.Failure.TheVariants.{Memory}
use Rattle.bolt_commands.proofs.verdict.check_whole.Goals as goal

pub visit_all-requires : goal.visit_all-requires
visit_all-requires g c = some_page_size c.args.checking.input.file.now c.args.checking.choice c.args.searched.now.meta c.requires.search.under

pub returns-in_default : goal.returns-in_default
returns-in_default g c = record { is = answer_nothing Memory _ (inr (inr ((c.args.searched.now.meta, c.requires.search.under), refl)), refl) refl }

pub check_kept-requires : goal.check_kept-requires
check_kept-requires g c =
    let file = c.args.checking.input.file.now in
    let searched = c.args.searched.now in
    let search = c.requires.search in
    record {
      bytes = c.in-Ok.ensures.file;
      under = rw c.in-Ok.ensures.meta search.under;
      kept = rw c.in-Ok.ensures.meta c.in-Ok.ensures.kept;
      whole = rw c.in-Ok.ensures.meta (whole_searched file searched.meta (all_lost searched) c.requires.whole search.lost);
    }

pub returns : goal.returns
returns g c =
    let checking = c.args.checking in
    let file = checking.input.file.now in
    let searched = c.args.searched.now in
    comes_as c.check_kept.ensures (λ answer found.
    searched_lost checking searched (recovery_gaps c.in-Ok.recovery) answer c.requires.search
    (λ all are. c.in-Ok.ensures.gaps all are)
    (none_lost checking (all_lost searched) _ _ c.requires.whole answer found))

-- Something is lost, or nothing is.
use Rattle.std.proofs.Common.{◌∙◌, ap, map, refl, sym}
use Rattle.bolt_commands.proofs.Vocabulary.{all_lost, is_nothing, page_gap_view}
use Rattle.bolt_commands.proofs.{FoundAnswers.are_leaves, LostAnswers.searched_lost, LostAnswers.some_lost}
use Rattle.bolt_commands.proofs.verdict.check_searched.Goals as goal

pub check_whole-requires-clause-whole : goal.check_whole-requires-clause-whole
check_whole-requires-clause-whole g c = ap is_nothing (sym c.lost-lost.ensures) ∙ sym c.is_nothing.ensures ∙ c.if-is_nothing.true

pub put_lost_after-requires : goal.put_lost_after-requires
put_lost_after-requires g c =
    rw c.as_slice-found.ensures.value (are_leaves c.args.checking.input.file.now c.args.searched.now.meta c.args.searched.now.found.items c.requires.views)

pub returns : goal.returns
returns g c =
    let checking = c.args.checking in
    let file = checking.input.file.now in
    let searched = c.args.searched.now in
    let is = c.requires in
    let some = ap is_nothing (sym c.lost-lost.ensures) ∙ sym c.is_nothing.ensures ∙ c.if-is_nothing.false in
    let whole = rw is.bytes at (c.gaps-gaps.ensures some) in
    record {
      is = record {
        answer = _;
        is = (
          searched_lost checking searched (map page_gap_view c.gaps-gaps.result.now) _ is whole
              (some_lost checking (all_lost searched) _ _ some),
          refl,
        );
        does = rw (c.lost-lost.ensures, c.as_slice-found.ensures.value) at c.put_lost_after.ensures;
      };
    }

-- The part is put, and the job ends as it is then known; or the file isn't read.
use Rattle.std.proofs.Common.{Err, Ok, inr, refl}
use Rattle.bolt_commands.proofs.{Doing.answer_nothing, Doing.ends_as, ListAnswers.part_listed, OpenedReads.unopened_unread}
use Rattle.bolt_commands.proofs.commands.list_command.do_list.Goals as goal

pub returns-in_err-contents : goal.returns-in_err-contents
returns-in_err-contents g c =
    answer_nothing _ _ (inr (_, unopened_unread c.each_file_has_found_pages.ensures _ _ _ _ c.in_err-contents.ensures.refused, refl)) c.from_residual.ensures.1

pub returns-in_err-put_listed_part : goal.returns-in_err-put_listed_part
returns-in_err-put_listed_part g c =
    rw (ends_as _ _ c.from_residual-in_err-put_listed_part.ensures.1)
    (part_listed g.O.Sink _ _ c.args.job.now c.args.input.file.now c.put_listed_part.new.contents _ c.metas_fault-other.ensures (Err _)
    c.in_err-put_listed_part.ensures)

pub returns-then-branch : goal.returns-then-branch
returns-then-branch g c =
    let listed =
    part_listed g.O.Sink _ _ c.args.job.now c.args.input.file.now c.put_listed_part.new.contents _ c.metas_fault-other.ensures
    (Ok c.in_ok-put_listed_part.field-0) c.in_ok-put_listed_part.ensures in
    rw (c.end_listing.ensures, c.find.ensures, c.lost.ensures) (rw c.if-branch.true at listed)

pub returns : goal.returns
returns g c =
    let listed =
    part_listed g.O.Sink _ _ c.args.job.now c.args.input.file.now c.put_listed_part.new.contents _ c.metas_fault-other.ensures
    (Ok c.in_ok-put_listed_part.field-0) c.in_ok-put_listed_part.ensures in
    rw c.if-branch.false at listed

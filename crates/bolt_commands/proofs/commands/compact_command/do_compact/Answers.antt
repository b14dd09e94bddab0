-- The copy is made and then reported, or it isn't whole, or the file isn't read.
use Rattle.std.proofs.Common.{◌∙◌, inr, refl, sym}
use Rattle.bolt_commands.proofs.{CopyAnswers.compact_done, CopyAnswers.compact_failed, CopyAnswers.compact_refused, Doing.ends_as}
use Rattle.bolt_commands.proofs.{OpenedReads.found_leaves, OpenedReads.unopened_unread}
use Rattle.bolt_commands.proofs.commands.compact_command.do_compact.Goals as goal

pub returns-in_err-contents : goal.returns-in_err-contents
returns-in_err-contents g c =
    inr (_, unopened_unread c.each_file_has_found_pages.ensures _ _ _ _ c.in_err-contents.ensures.refused, (refl, refl, ends_as _ _ c.from_residual.ensures.1))

pub returns-in-Some : goal.returns-in-Some
returns-in-Some g c =
    let is = sym c.hash_refusal.ensures ∙ c.in-Some.is in
    compact_refused g.O.Sink _ g.T.Sink _ c.args.job.now c.args.input.file.now c.in_ok-contents.contents c.in_ok-contents.ensures.opened _
    c.of_copy-faults.ensures _ is

pub returns-in_err-copy : goal.returns-in_err-copy
returns-in_err-copy g c =
    let right = sym c.hash_refusal.ensures ∙ c.in_default.is in
    compact_failed g.O.Sink _ c.args.job.now c.args.input.file.now c.in_ok-contents.contents c.copy_contents.new.contents _ c.of_copy-faults.ensures right _ _
    c.in_err-copy.ensures.read (ends_as _ _ c.from_residual-in_err-copy.ensures.1)

pub end_copy-requires : goal.end_copy-requires
end_copy-requires g c = rw (c.found.ensures ∙ c.copy_contents.ensures.found) (found_leaves _ _ _ c.in_ok-contents.contents c.in_ok-contents.ensures.opened)

pub returns : goal.returns
returns g c =
    let right = sym c.hash_refusal.ensures ∙ c.in_default.is in
    let told = rw (c.lost.ensures, c.found.ensures ∙ c.copy_contents.ensures.found) at c.end_copy.ensures in
    compact_done g.O.Sink _ c.args.job.now c.args.input.file.now c.in_ok-contents.contents c.copy_contents.new.contents _ c.of_copy-faults.ensures right _ _
    c.in_ok-copy.ensures.read told

-- The paths that are handed over as slices are those of the job.
use Rattle.std.proofs.Common.{◌∙◌, ap, subst₂}
use Rattle.bolt_commands.proofs.Vocabulary.{Path, Wrote, listing_part_text, owned_path, path_of, report_ending}
use Rattle.bolt_commands.proofs.commands.list_command.put_members_part.Goals as goal

pub returns-clause-written : goal.returns-clause-written
returns-clause-written g c = λ whole lists rises.
    subst₂ (λ (path from : Path).
    Wrote g.O.Sink c.args.out.now c.put_member_part.new.sink (listing_part_text c.args.job.now.form path from (g.M.Members.left c.args.members.now whole))
    (report_ending c.put_member_part.result))
    (ap path_of c.as_slice-3.ensures.value ∙ c.in_ok-path.ensures.path ∙ ap owned_path c.as_slice.ensures.value)
    (ap path_of c.as_slice-4.ensures.value ∙ c.in_ok-from.ensures.path ∙ ap owned_path c.as_slice-2.ensures.value)
    (c.put_member_part.ensures.written whole lists rises)

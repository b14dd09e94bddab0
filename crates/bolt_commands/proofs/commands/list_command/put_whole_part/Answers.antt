-- The paths that are handed over as slices are those of the job.
use Rattle.std.proofs.Common.{◌∙◌, ap, subst₂}
use Rattle.bolt_commands.proofs.Vocabulary.{Path, Wrote, listing_lines, part_below, owned_path, path_of, report_ending, rest_from}
use Rattle.bolt_commands.proofs.commands.list_command.put_whole_part.Goals as goal

pub returns-clause-written : goal.returns-clause-written
returns-clause-written g c = λ listing lists.
    subst₂ (λ (path from : Path).
    Wrote g.O.Sink c.args.out.now c.put_list_part.new.sink (listing_lines c.args.job.now.form (rest_from from (part_below path listing)))
    (report_ending c.put_list_part.result))
    (ap path_of c.as_slice-3.ensures.value ∙ c.in_ok-path.ensures.path ∙ ap owned_path c.as_slice.ensures.value)
    (ap path_of c.as_slice-4.ensures.value ∙ c.in_ok-from.ensures.path ∙ ap owned_path c.as_slice-2.ensures.value)
    (c.put_list_part.ensures.written listing lists)

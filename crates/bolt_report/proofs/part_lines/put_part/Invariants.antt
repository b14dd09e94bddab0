use Rattle.std.proofs.Common.{◌≡◌, ◌↔◌}
use Rattle.bolt_report.proofs.Words.{begins_with, lines_form, listing_lines, path_of, take_while, WroteFront}
use Rattle.bolt_report.proofs.part_lines.put_part.Given as goal

-- of the text of the part of what was left, the text of the part of what is left is still to be written
abbrev pub invariant-part : goal.invariant-part
invariant-part g l = record {
  form : lines_form l.lines ≡ lines_form l.initial.lines;
  same : (whole : g.M.Members.Whole) → g.M.Members.reads l.members whole ↔ g.M.Members.reads l.initial.members whole;
  put : (whole : g.M.Members.Whole) → g.M.Members.reads l.initial.members whole → WroteFront g.S.Sink l.initial.sink l.sink
      (listing_lines (lines_form l.initial.lines) (take_while (λ m. begins_with (path_of l.below) m.0) (g.M.Members.left l.initial.members whole)))
      (listing_lines (lines_form l.initial.lines) (take_while (λ m. begins_with (path_of l.below) m.0) (g.M.Members.left l.members whole)));
}

abbrev pub decreases-part : goal.decreases-part
decreases-part g l = g.M.Members.work_left l.members

use Rattle.std.proofs.Common.{◌≡◌, ◌↔◌, ◌||◌}
use Rattle.bolt_report.proofs.Words.{is_bucket_at, lines_form, list_any, listing_lines, member_cmp, path_of, rest_from, Rises, WroteFront}
use Rattle.bolt_report.proofs.ListPartTexts.{left_part}
use Rattle.bolt_tree.specs.ListingParts.{bucket_part, has_bucket}
use Rattle.bolt_report.proofs.part_lines.put_bucket_part.Given as goal

-- of the text of the part of what was left, the text of the part of what is left is still to be written;
-- the bucket was there if it was found or is left
abbrev pub invariant-part : goal.invariant-part
invariant-part g l = record {
  form : lines_form l.lines ≡ lines_form l.initial.lines;
  same : (whole : g.M.Members.Whole) → g.M.Members.reads l.members whole ↔ g.M.Members.reads l.initial.members whole;
  end : (end : g.row.M.Denot) → g.M.Members.ends_as l.members end → g.M.Members.ends_as l.initial.members end;
  has : (whole : g.M.Members.Whole) → g.M.Members.reads l.initial.members whole
      → has_bucket (path_of l.below) (g.M.Members.left l.initial.members whole)
      ≡ (l.found || list_any (is_bucket_at (path_of l.below)) (g.M.Members.left l.members whole));
  rises : (whole : g.M.Members.Whole) → g.M.Members.reads l.initial.members whole → Rises member_cmp (g.M.Members.left l.initial.members whole)
      → Rises member_cmp (g.M.Members.left l.members whole);
  put : (whole : g.M.Members.Whole) → g.M.Members.reads l.initial.members whole → Rises member_cmp (g.M.Members.left l.initial.members whole)
      → WroteFront g.S.Sink l.initial.sink l.sink
      (listing_lines (lines_form l.initial.lines) (rest_from (path_of l.from) (bucket_part (path_of l.below) (g.M.Members.left l.initial.members whole))))
      (listing_lines (lines_form l.initial.lines) (rest_from (path_of l.from) (left_part (path_of l.below) l.found (g.M.Members.left l.members whole))));
}

abbrev pub decreases-part : goal.decreases-part
decreases-part g l = g.M.Members.work_left l.members

use Rattle.std.proofs.Common.{◌≡◌, ◌↔◌, ◌||◌}
use Rattle.bolt_report.proofs.{Words.is_bucket_at, Words.list_any, Words.member_cmp, Words.path_of, Words.Rises, Words.WroteFront}
use Rattle.bolt_report.proofs.{NameTexts.left_names}
use Rattle.bolt_report.specs.MemberNames.{is_wanted, names_text}
use Rattle.bolt_tree.specs.ListingParts.{has_bucket}
use Rattle.bolt_report.proofs.name_lines.put_member_names.Given as goal

-- of the names in what was left, those in what is left are still to be written; the bucket was there if it was found or is left
abbrev pub invariant-members : goal.invariant-members
invariant-members g l = record {
  form : l.items.form ≡ l.fn.form;
  same : (whole : g.M.Members.Whole) → g.M.Members.reads l.members whole ↔ g.M.Members.reads l.initial.members whole;
  end : (end : g.row.M.Denot) → g.M.Members.ends_as l.members end → g.M.Members.ends_as l.initial.members end;
  has : (whole : g.M.Members.Whole) → g.M.Members.reads l.initial.members whole
      → has_bucket (path_of l.asked.bucket.now) (g.M.Members.left l.initial.members whole)
      ≡ (l.found || list_any (is_bucket_at (path_of l.asked.bucket.now)) (g.M.Members.left l.members whole));
  rises : (whole : g.M.Members.Whole) → g.M.Members.reads l.initial.members whole → Rises member_cmp (g.M.Members.left l.initial.members whole)
      → Rises member_cmp (g.M.Members.left l.members whole);
  put : (whole : g.M.Members.Whole) → g.M.Members.reads l.initial.members whole → Rises member_cmp (g.M.Members.left l.initial.members whole)
      → WroteFront g.S.Sink l.initial.sink l.sink
      (names_text l.fn.form (is_wanted l.asked.names) (path_of l.asked.bucket.now) (g.M.Members.left l.initial.members whole))
      (left_names l.fn.form (is_wanted l.asked.names) (path_of l.asked.bucket.now) l.found (g.M.Members.left l.members whole));
}

abbrev pub decreases-members : goal.decreases-members
decreases-members g l = g.M.Members.work_left l.members

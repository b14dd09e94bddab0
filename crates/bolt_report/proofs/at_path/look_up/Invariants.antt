use Rattle.std.proofs.Common.{◌≡◌, ◌↔◌, ◌||◌, List, ℕ}
use Rattle.std.specs.{Option.IfNone, Prelude.IfSome}
use Rattle.bolt_report.proofs.Words.{Contains, Member, Value, is_bucket_at, list_any, path_of}
use Rattle.bolt_tree.specs.ListingParts.{has_bucket}
use Rattle.bolt_report.proofs.at_path.look_up.Given as goal

-- the value is the one that was there, and if none was returned, it is left; the bucket was there if it was returned or is left
abbrev pub invariant-members : goal.invariant-members
invariant-members g l = record {
  same : (whole : g.M.Members.Whole) → g.M.Members.reads l.members whole ↔ g.M.Members.reads l.initial.members whole;
  end : (end : g.row.M.Denot) → g.M.Members.ends_as l.members end → g.M.Members.ends_as l.initial.members end;
  kept : (whole : g.M.Members.Whole) → g.M.Members.reads l.initial.members whole → (m : Member)
      → Contains (g.M.Members.left l.members whole) m → Contains (g.M.Members.left l.initial.members whole) m;
  value : IfSome l.value (λ value. (whole : g.M.Members.Whole) → g.M.Members.reads l.initial.members whole
      → Contains (g.M.Members.left l.initial.members whole) (path_of l.path, Value value.now));
  none : IfNone l.value ((whole : g.M.Members.Whole) → g.M.Members.reads l.initial.members whole → (value : List ℕ)
      → Contains (g.M.Members.left l.initial.members whole) (path_of l.path, Value value)
      → Contains (g.M.Members.left l.members whole) (path_of l.path, Value value));
  bucket : (whole : g.M.Members.Whole) → g.M.Members.reads l.initial.members whole
      → has_bucket (path_of l.parents) (g.M.Members.left l.initial.members whole)
      ≡ (l.has_bucket || list_any (is_bucket_at (path_of l.parents)) (g.M.Members.left l.members whole));
}

abbrev pub decreases-members : goal.decreases-members
decreases-members g l = g.M.Members.work_left l.members

use Rattle.std.proofs.Common.{◌≡◌, ◌↔◌, [], Ok}
use Rattle.std.specs.List.{AllByRecursion}
use Rattle.std.specs.Prelude.{⊤}
use Rattle.bolt_tree.specs.{Tree.tree_of}
use Rattle.bolt_bulk.specs.Private.{FitLimits, HasLeft, HasMemberLengths, IsReady, IsSameWriter, limits_with, Steps}
use Rattle.bolt_layout.specs.declared.Layout.{Layout}
use Rattle.bolt_bulk.proofs.members_copy.put_members.Given as goal

-- the members that are left are left to the pass, which has put pages of the layout
abbrev pub invariant-members : goal.invariant-members
invariant-members g l = record {
  same : (whole : g.M.Members.Whole) → g.M.Members.reads l.members whole ↔ g.M.Members.reads l.initial.members whole;
  end : (end : g.row.M.Denot) → g.M.Members.ends_as l.members end → g.M.Members.ends_as l.initial.members end;
  setup : l.pass.setup ≡ l.initial.writer.setup;
  writer : IsSameWriter l.initial.writer l.writer;
  ready : IsReady l.pass;
  fit : (whole : g.M.Members.Whole) → g.M.Members.reads l.initial.members whole
      → ∥ AllByRecursion HasMemberLengths (g.M.Members.left l.members whole) ∥₁;
  steps : (which : Layout) (whole : g.M.Members.Whole) → g.M.Members.reads l.initial.members whole
      → FitLimits which (tree_of (g.M.Members.listing whole)) l.initial.writer.setup.page_size (limits_with l.limits)
      → Steps {A = ⊤} (record { which = which; tree = tree_of (g.M.Members.listing whole); notes = l.notes }) g.S.Sink l.initial.writer.sink.now
      l.writer.sink.now l.initial.writer.setup []
      (HasLeft (record { which = which; tree = tree_of (g.M.Members.listing whole); notes = l.notes }) l.pass l.writer.next
      (g.M.Members.left l.members whole)) (Ok tt);
}

abbrev pub decreases-members : goal.decreases-members
decreases-members g l = g.M.Members.work_left l.members

use Rattle.std.proofs.Common.{◌≡◌, ◌+◌, ◌*◌, length, vec_len}
use Rattle.bolt_check.proofs.Words.{Carries, forest, HasRoom, IsClaimed, IsMetaPage, IsMetaUse, IsNoted, IsUnlisted, node_at, spots_of, unclaimed}
use Rattle.bolt_check.specs.{TableLengths.table_length, Ways.reached}
use Rattle.bolt_check.proofs.search.search.Given as goal

-- what holds of the spots that are left holds of the whole
abbrev pub invariant-loop-spot : goal.invariant-loop-spot
invariant-loop-spot l = record {
  room : HasRoom l.file l.meta l.table.items;
  unlisted : IsUnlisted l.table.items;
  long : length l.table.items ≡ table_length l.file l.meta;
  carried : Carries (node_at l.file l.meta) (reached (node_at l.file l.meta) l.meta.root) IsMetaPage IsMetaUse
      (forest (node_at l.file l.meta) (spots_of l.pending.items)) (IsClaimed l.table.items) (IsNoted l.table.items);
}

-- each visit of a page claims, and no page leads to as many as that; an inline bucket leads to none
abbrev pub decreases-loop-spot : goal.decreases-loop-spot
decreases-loop-spot l = unclaimed l.table.items * 65536 + vec_len l.pending

use Rattle.std.proofs.Common.{◌≡◌, ◌≤◌, ◌+◌, ◌++◌, length, vec_len}
use Rattle.bolt_check.proofs.{Words.page_spot, Words.shown_node, Words.spots_of, Pendings.kids_from}
use Rattle.bolt_check.proofs.search.push_kids.Given as goal

-- what the entries from here on lead to lies on top
abbrev pub invariant-loop-i : goal.invariant-loop-i
invariant-loop-i l = record {
  within : l.i ≤ length (shown_node l.node).entries;
  pushed : spots_of l.pending.items ≡ kids_from (shown_node l.node) (page_spot l.spot) l.i ++ spots_of l.fn.pending.items;
  few : vec_len l.pending + l.i ≤ vec_len l.fn.pending + length (shown_node l.node).entries;
}

abbrev pub decreases-loop-i : goal.decreases-loop-i
decreases-loop-i l = l.i

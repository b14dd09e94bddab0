use Rattle.std.proofs.Common.{◌≡◌, ◌≤◌, ◌+◌, ◌++◌, length, map, vec_len}
use Rattle.bolt_check.proofs.{Words.page_spot, Words.shown_node, Pendings.kids_from}
use Rattle.bolt_check.specs.Private.Unread.{tagged, unread_of}
use Rattle.bolt_check.proofs.for_bbolt.push_unread.Given as goal

-- what the entries from here on lead to lies on top
abbrev pub invariant-loop-i : goal.invariant-loop-i
invariant-loop-i l = record {
  within : l.i ≤ length (shown_node l.page).entries;
  pushed : unread_of l.unread.items ≡ map (tagged l.in_root l.leaves) (kids_from (shown_node l.page) (page_spot l.spot) l.i) ++ unread_of l.fn.unread.items;
  few : vec_len l.unread + l.i ≤ vec_len l.fn.unread + length (shown_node l.page).entries;
}

abbrev pub decreases-loop-i : goal.decreases-loop-i
decreases-loop-i l = l.i

use Rattle.std.proofs.Common.{◌≡◌, ◌≤◌, ◌+◌, ◌-◌, ◌^◌, length, sum_by}
use Rattle.bolt_stats.proofs.Words.{leaves_left, leaves_on, saturated, LeafElement, used_by_leaves}
use Rattle.bolt_stats.proofs.page_stats.leaf_used.Given as goal

-- with what the elements that are left use it is the whole
abbrev pub invariant-loop-leaf : goal.invariant-loop-leaf
invariant-loop-leaf l = record {
  fits : l.used ≤ 2 ^ 64 - 1;
  whole : saturated (l.used + sum_by (λ (e : LeafElement). 16 + length e.key + length e.value) (leaves_left l.leaf-iterator))
      ≡ saturated (used_by_leaves (leaves_on l.page));
}

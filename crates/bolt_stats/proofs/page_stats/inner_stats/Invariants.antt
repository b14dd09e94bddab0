use Rattle.std.proofs.Common.{◌≡◌, ◌≤◌, ◌+◌, ◌-◌, ◌^◌, sum_by}
use Rattle.bolt_stats.proofs.Words.{leaves_left, leaves_on, saturated, element_figure, figure, Figure}
use Rattle.bolt_stats.proofs.page_stats.inner_stats.Given as goal

-- with what the elements that are left add it is the whole
abbrev pub invariant-loop-leaf : goal.invariant-loop-leaf
invariant-loop-leaf l = record {
  fits : (f : Figure) → figure f l.inner ≤ 2 ^ 64 - 1;
  whole : (f : Figure)
      → saturated (figure f l.inner + sum_by (element_figure f) (leaves_left l.leaf-iterator)) ≡ saturated (sum_by (element_figure f) (leaves_on l.page));
}

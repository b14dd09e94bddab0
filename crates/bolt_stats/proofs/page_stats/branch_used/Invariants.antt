use Rattle.std.proofs.Common.{◌≡◌, ◌≤◌, ◌+◌, ◌-◌, ◌^◌, length, sum_by}
use Rattle.bolt_stats.proofs.Words.{branches_left, branches_on, BranchElement, saturated}
use Rattle.bolt_stats.specs.Figures.{used_by_branches}
use Rattle.bolt_stats.proofs.page_stats.branch_used.Given as goal

-- with what the elements that are left use it is the whole
abbrev pub invariant-loop-branch : goal.invariant-loop-branch
invariant-loop-branch l = record {
  fits : l.used ≤ 2 ^ 64 - 1;
  whole : saturated (l.used + sum_by (λ (e : BranchElement). 16 + length e.key) (branches_left l.branch-iterator))
      ≡ saturated (used_by_branches (branches_on l.page));
}

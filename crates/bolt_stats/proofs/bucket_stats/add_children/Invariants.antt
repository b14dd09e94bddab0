use Rattle.std.proofs.Common.{◌≡◌, ◌+◌, ◌++◌, map}
use Rattle.bolt_stats.proofs.Words.{branches_left, branches_on, BranchElement, saturated, unread_page}
use Rattle.bolt_stats.proofs.bucket_stats.add_children.Given as goal

-- with the children of the elements that are left, all will be opened
abbrev pub invariant-loop-branch : goal.invariant-loop-branch
invariant-loop-branch l =
    l.pages.items ++ map (λ (e : BranchElement). unread_page (saturated (l.depth + 1)) e.child) (branches_left l.branch-iterator)
    ≡ l.initial.pages.items ++ map (λ (e : BranchElement). unread_page (saturated (l.depth + 1)) e.child) (branches_on l.page)

use Rattle.std.proofs.Common.{◌≡◌, ◌-◌}
use Rattle.bolt_format.specs.Elements.{branch_end, branch_fault, element_at, faults_from}
use Rattle.bolt_format.proofs.content_tests.test_branches.Given as goal

-- the first fault from here on is that of all elements
abbrev pub invariant-loop-i : goal.invariant-loop-i
invariant-loop-i l =
    faults_from (branch_fault l.bytes) (branch_end l.bytes) l.free l.i (l.count - l.i)
    ≡ faults_from (branch_fault l.bytes) (branch_end l.bytes) (element_at l.count) 0 l.count

use Rattle.std.proofs.Common.{◌≡◌, ◌-◌}
use Rattle.bolt_format.specs.Elements.{element_at, faults_from, head_fault, leaf_end, leaf_fault}
use Rattle.bolt_format.proofs.bucket_value.test_inline_leaves.Given as goal

-- the first fault from here on is that of all elements
abbrev pub invariant-loop-i : goal.invariant-loop-i
invariant-loop-i l =
    faults_from (leaf_fault head_fault l.bytes) (leaf_end l.bytes) l.free l.i (l.count - l.i)
    ≡ faults_from (leaf_fault head_fault l.bytes) (leaf_end l.bytes) (element_at l.count) 0 l.count

use Rattle.std.proofs.Common.{◌≡◌, ◌-◌}
use Rattle.std.specs.List.{find, range_with_len}
use Rattle.bolt_format.specs.{Elements.branch_end, Elements.branch_key_start, Gaps.first_elsewhere, Gaps.is_elsewhere, Gaps.written_start}
use Rattle.bolt_format.proofs.gaps.first_branch_gap.Given as goal

-- the first of all elements is the first from here on, whose data bbolt writes here
abbrev pub invariant-loop-i : goal.invariant-loop-i
invariant-loop-i l = record {
  rest : find (is_elsewhere (branch_key_start l.bytes) (branch_end l.bytes) l.count)
      (range_with_len l.i (l.count - l.i)) ≡ first_elsewhere (branch_key_start l.bytes) (branch_end l.bytes) l.count;
  here : l.written ≡ written_start (branch_end l.bytes) l.count l.i;
}

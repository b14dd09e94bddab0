use Rattle.std.proofs.Common.{◌≡◌, ◌<◌, ◌^◌, length}
use Rattle.bolt_check.specs.Counts.{counted}
use Rattle.bolt_format.specs.ElementsLeft.{leaves_left}
use Rattle.bolt_repair.specs.Candidates.{under_revision_keys}
use Rattle.bolt_repair.proofs.candidates.count_on.Given as goal

-- those so far and those among the elements that are left are all
abbrev pub invariant-loop-leaf : goal.invariant-loop-leaf
invariant-loop-leaf l = record {
  fits : l.n < 2 ^ 64;
  all : counted l.n (length (under_revision_keys (leaves_left l.leaf-iterator))) ≡ counted 0 (length (under_revision_keys (leaves_left l.fn.elements)));
}

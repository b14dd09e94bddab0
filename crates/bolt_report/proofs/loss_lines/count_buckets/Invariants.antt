use Rattle.std.proofs.Common.{◌≡◌, ◌≤◌, take}
use Rattle.bolt_report.proofs.Words.{bucket_count}
use Rattle.bolt_format.specs.TreePages.{leaves_on}
use Rattle.bolt_report.proofs.loss_lines.count_buckets.Given as goal

-- the buckets among the elements before this one are counted
abbrev pub invariant-loop-i : goal.invariant-loop-i
invariant-loop-i l = (l.count ≡ bucket_count (take l.i (leaves_on l.page))) × (l.count ≤ l.i)

use Rattle.std.proofs.Common.{◌≡◌, ◌-◌}
use Rattle.std.specs.List.{list_any, range_with_len}
use Rattle.bolt_format.specs.Elements.{page_has_bucket, is_bucket_element}
use Rattle.bolt_format.proofs.bucket_value.has_bucket.Given as goal

-- whether one of them is, is whether one of the rest is
abbrev pub invariant-loop-i : goal.invariant-loop-i
invariant-loop-i l = list_any (is_bucket_element l.bytes) (range_with_len l.i (l.count - l.i)) ≡ page_has_bucket l.bytes l.count

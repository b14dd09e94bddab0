-- The items so far are those of the entries so far.
use Rattle.std.proofs.Common.{◌≡◌, map, take}
use Rattle.bolt_bulk.specs.Private.{value_item}
use Rattle.bolt_bulk.proofs.bucket_runs.value_items.Given as goal

abbrev pub invariant-loop-entry : goal.invariant-loop-entry
invariant-loop-entry l = l.items.items ≡ map value_item (take l.entry-index l.entries)

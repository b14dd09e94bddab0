use Rattle.bolt_tree.proofs.SeekCounts.{seek_counted}
use Rattle.bolt_tree.proofs.laws.seeks_are_counted.Goals as goal

pub returns : goal.returns
returns c =
    λ file meta start trees is entries sorted key.
    seek_counted (record { file = file; meta = meta; start = start }) (record { trees = trees; start = is }) key entries sorted

use Rattle.bolt_tree.proofs.SeekCounts.{seek_bounded}
use Rattle.bolt_tree.proofs.laws.seeks_are_bounded.Goals as goal

pub returns : goal.returns
returns c =
    λ file meta start trees is entries sorted key n gap.
    seek_bounded (record { file = file; meta = meta; start = start }) (record { trees = trees; start = is }) key entries sorted n gap

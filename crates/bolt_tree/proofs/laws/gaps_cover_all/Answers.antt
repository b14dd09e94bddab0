use Rattle.bolt_tree.proofs.GapLemmas.{gaps_cover}
use Rattle.bolt_tree.proofs.laws.gaps_cover_all.Goals as goal

pub returns : goal.returns
returns c =
    λ file meta start trees is entries sorted.
    gaps_cover (record { file = file; meta = meta; start = start }) (record { trees = trees; start = is }) entries sorted

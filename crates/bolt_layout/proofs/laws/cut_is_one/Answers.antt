use Rattle.bolt_layout.proofs.{Words.BranchElement, Words.Laid, Words.LeafElement, OneCut.cut_is_one}
use Rattle.bolt_layout.proofs.laws.cut_is_one.Goals as goal

pub returns : goal.returns
returns c = record { leaves = cut_is_one (Laid LeafElement); branches = cut_is_one (Laid BranchElement) }

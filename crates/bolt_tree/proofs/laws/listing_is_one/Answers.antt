use Rattle.bolt_tree.proofs.{Words.IsEntry, Words.Root_page, Single.lists_once}
use Rattle.bolt_tree.proofs.laws.listing_is_one.Goals as goal

pub returns : goal.returns
returns c = λ file meta a b h k. lists_once (IsEntry file meta) (Root_page meta.root) a b h k

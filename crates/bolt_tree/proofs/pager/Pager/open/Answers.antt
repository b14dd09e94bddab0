use Rattle.bolt_tree.proofs.Words.{good_on_way, pager_checked}
use Rattle.bolt_tree.proofs.pager.Pager.open.Goals as goal

pub known-requires : goal.known-requires
unfolding pager_checked
known-requires c = rw (c.bytes.ensures, c.meta.ensures) (good_on_way c.args.self.now.checked c.args.id c.requires)

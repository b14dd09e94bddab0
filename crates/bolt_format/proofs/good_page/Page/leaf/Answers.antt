use Rattle.std.proofs.Common.{rules}
use Rattle.bolt_format.specs.{Elements.leaf_elements, Elements.value_fault, ShownGoodPages.shown}
use Rattle.bolt_format.specs.declared.header.Kind.TheVariants as kind
use Rattle.bolt_format.proofs.GoodPages.{good_content, good_leaf, slice_get-made}
use Rattle.bolt_format.proofs.good_page.Page.leaf.Goals as goal

pub leaf_at-requires-clause-table : goal.leaf_at-requires-clause-table
unfolding shown
leaf_at-requires-clause-table c = (good_leaf value_fault _ _ c.args.i (good_content _ kind.Leaf _ _ c.args.self.now.good c.requires.kind) c.requires.below).0

pub leaf_at-requires-clause-data : goal.leaf_at-requires-clause-data
unfolding shown
leaf_at-requires-clause-data c = (good_leaf value_fault _ _ c.args.i (good_content _ kind.Leaf _ _ c.args.self.now.good c.requires.kind) c.requires.below).1

pub returns-clause-element : goal.returns-clause-element
unfolding shown leaf_elements
returns-clause-element c = search (rules, slice_get-made)

pub returns-clause-bucket : goal.returns-clause-bucket
unfolding shown
returns-clause-bucket c h = search (rules, good_leaf, good_content)

use Rattle.bolt_tree.proofs.{Words.cursors_of, Words.leaf_view, Words.path_of, Entering.leads_inside, Entering.past_value}
use Rattle.bolt_tree.proofs.open_buckets.OpenBuckets.after.Goals as goal

pub returns-then-leaf-clause-ahead : goal.returns-then-leaf-clause-ahead
returns-then-leaf-clause-ahead c = (
  c.requires.on.0 c.if-leaf.true,
  leads_inside c.args.self.now.checked (path_of c.args.self.now.path.items) (leaf_view c.args.leaf.now) c.requires.on.1 c.if-leaf.true,
)

pub returns-else-leaf-clause-left : goal.returns-else-leaf-clause-left
returns-else-leaf-clause-left c = λ listing lists.
    past_value c.args.self.now.checked (cursors_of c.args.self.now) (path_of c.args.self.now.path.items) (leaf_view c.args.leaf.now) c.requires.placed
    c.requires.on.1
    c.if-leaf.false listing lists

use Rattle.bolt_tree.proofs.{Standing.begins_here, Words.bucket_checked, Words.leaf_view}
use Rattle.bolt_tree.proofs.bucket.Bucket.bucket_at.Goals as goal

pub of-requires-clause-begins : goal.of-requires-clause-begins
unfolding bucket_checked
of-requires-clause-begins c =
    begins_here c.args.cursor.now c.args.self.now.checked c.requires (leaf_view c.in_ok-leaf.leaf) c.in_ok-leaf.ensures.entry c.if-not-leaf.false

use Rattle.std.proofs.Common.{◌∙◌}
use Rattle.bolt_tree.proofs.{Words.bucket_checked, Words.bucket_start, Words.leaf_view, Words.start_at, Words.∥∥₁_map, Looking.begins_inside}
use Rattle.bolt_tree.proofs.{Looking.same_kind}
use Rattle.bolt_tree.proofs.bucket.Bucket.bucket.Goals as goal

pub returns-then-not-leaf-clause-bucket : goal.returns-then-not-leaf-clause-bucket
unfolding bucket_checked bucket_start
returns-then-not-leaf-clause-bucket c =
    λ e is same.
    same_kind c.args.self.now.checked (start_at c.args.self.now.at) c.args.key.now (leaf_view c.in_ok-leaf.leaf) c.args.self.now.begins
    c.in_ok-leaf.ensures.element e is same ∙ c.if-not-leaf.true

pub of-requires-clause-begins : goal.of-requires-clause-begins
unfolding bucket_checked bucket_start
of-requires-clause-begins c =
    begins_inside c.args.self.now.checked (start_at c.args.self.now.at) c.args.key.now (leaf_view c.in_ok-leaf.leaf) c.args.self.now.begins
    c.in_ok-leaf.ensures.element c.if-not-leaf.false

pub returns-clause-bucket : goal.returns-clause-bucket
returns-clause-bucket c =
    ∥∥₁_map c.in_ok-leaf.ensures.element (λ (is, at). (leaf_view c.in_ok-leaf.leaf, is, at, c.if-not-leaf.false, c.of.ensures.start, c.of.ensures.sequence))

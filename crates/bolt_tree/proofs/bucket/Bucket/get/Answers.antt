use Rattle.std.proofs.Common.{◌∙◌, refl}
use Rattle.bolt_tree.proofs.{Words.bucket_checked, Words.bucket_start, Words.leaf_view, Words.start_at, Words.∥∥₁_map, Looking.same_kind}
use Rattle.bolt_tree.proofs.bucket.Bucket.get.Goals as goal

pub returns-then-leaf : goal.returns-then-leaf
unfolding bucket_checked bucket_start
returns-then-leaf c =
    λ e is same.
    same_kind c.args.self.now.checked (start_at c.args.self.now.at) c.args.key.now (leaf_view c.in_ok-leaf.leaf) c.args.self.now.begins
    c.in_ok-leaf.ensures.element e is same ∙ c.if-leaf.true

pub returns : goal.returns
returns c = ∥∥₁_map c.in_ok-leaf.ensures.element (λ (is, at). (leaf_view c.in_ok-leaf.leaf, is, at, c.if-leaf.false, refl))

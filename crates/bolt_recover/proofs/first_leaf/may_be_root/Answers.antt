use Rattle.std.proofs.Common.{refl}
use Rattle.bolt_recover.proofs.RootLeaf.{not_root}
use Rattle.bolt_recover.proofs.first_leaf.may_be_root.Goals as goal

pub returns-in-Ok-Leaf : goal.returns-in-Ok-Leaf
returns-in-Ok-Leaf c = λ e alone.
    not_root c.args.file.now c.args.meta.now c.in-Ok-Leaf.leaf _ (rw (c.root.ensures, c.in-Ok-Leaf.field-0-is) at c.in-Ok-Leaf.ensures.page) refl
    (c.has_buckets_alone.ensures e) alone

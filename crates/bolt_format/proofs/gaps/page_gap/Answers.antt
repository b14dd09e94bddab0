use Rattle.bolt_format.specs.declared.header.Kind.TheVariants as kind
use Rattle.bolt_format.proofs.GoodPages.{good_content, good_content_at, good_within}
use Rattle.bolt_format.proofs.gaps.page_gap.Goals as goal

pub known_span-span-requires : goal.known_span-span-requires
known_span-span-requires c = good_within c.args.file.now c.args.meta.now c.args.id c.requires

pub branch_gap-requires : goal.branch_gap-requires
branch_gap-requires c =
    good_content _ kind.Branch _ _ (good_content_at c.args.file.now c.args.meta.now c.args.id c.known_span-span.result c.requires c.known_span-span.ensures)
    c.in-Branch.is

pub leaf_gap-requires : goal.leaf_gap-requires
leaf_gap-requires c =
    good_content _ kind.Leaf _ _ (good_content_at c.args.file.now c.args.meta.now c.args.id c.known_span-span.result c.requires c.known_span-span.ensures)
    c.in-Leaf.is

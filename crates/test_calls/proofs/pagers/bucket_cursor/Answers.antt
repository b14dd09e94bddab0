use Rattle.std.proofs.Common.{◌∙◌, sym}
use Rattle.bolt_format.specs.{ElementPlaces.leaf_view, ShownGoodPages.shown}
use Rattle.test_calls.proofs.pagers.bucket_cursor.Goals as goal

pub open-root-requires : goal.open-root-requires
open-root-requires c = rw (c.new-pager.ensures.checked, c.meta.ensures) (∣ (1, c.ways_go_on.ensures.root _ _) ∣₁)

pub new-cursor-requires : goal.new-cursor-requires
new-cursor-requires c =
    rw (c.open-root.ensures.checked, c.inline.ensures.elements) (
    ∣ c.buckets_begin_on_ways.ensures.inline _ _ _ 1 0 (shown c.open-root.result) (leaf_view c.leaf-bucket.result)
    (rw (c.new-pager.ensures.checked, c.meta.ensures) (c.ways_go_on.ensures.root _ _)) c.open-root.ensures.page (sym c.kind.ensures ∙ c.in-Leaf.is)
    c.leaf-bucket.ensures.element
    c.if-not-bucket.false (sym c.head-head.ensures.root ∙ c.if-head-eq0.true) ∣₁
    )

pub new-cursor-requires-in-Leaf : goal.new-cursor-requires-in-Leaf
new-cursor-requires-in-Leaf c =
    rw (c.open-root.ensures.checked, c.head-head.ensures.root) (
    ∣ c.buckets_begin_on_ways.ensures.page _ _ _ 1 0 (shown c.open-root.result) (leaf_view c.leaf-bucket.result)
    (rw (c.new-pager.ensures.checked, c.meta.ensures) (c.ways_go_on.ensures.root _ _)) c.open-root.ensures.page (sym c.kind.ensures ∙ c.in-Leaf.is)
    c.leaf-bucket.ensures.element
    c.if-not-bucket.false (λ e. c.if-head-eq0.false (c.head-head.ensures.root ∙ e)) ∣₁
    )

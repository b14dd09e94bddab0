use Rattle.std.proofs.Common.{◌∙◌, sym}
use Rattle.bolt_format.specs.{ElementPlaces.branch_view, ShownGoodPages.shown}
use Rattle.test_calls.proofs.pagers.opened_pages.Goals as goal

pub open-root-requires : goal.open-root-requires
open-root-requires c = rw (c.new-pager.ensures.checked, c.meta.ensures) (∣ (1, c.ways_go_on.ensures.root _ _) ∣₁)

pub open-child-requires : goal.open-child-requires
open-child-requires c =
    rw c.open-root.ensures.checked (
    ∣ (
      2,
      c.ways_go_on.ensures.child _ _ _ 1 1 (shown c.open-root.result) (branch_view c.branch-root.result)
          (rw (c.new-pager.ensures.checked, c.meta.ensures) (c.ways_go_on.ensures.root _ _)) c.open-root.ensures.page (sym c.kind.ensures ∙ c.in-Branch.is)
          c.branch-root.ensures,
    ) ∣₁
    )

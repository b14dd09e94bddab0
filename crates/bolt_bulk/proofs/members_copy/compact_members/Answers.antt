-- The plan, the first pages, and the pages of all buckets, which are the layout.
use Rattle.std.proofs.{lemmas.Grind.common_steps, Math.Logic.∥∥₁_elim, Props.props, lemmas.Result.err_from_is_err_and}
use Rattle.std.proofs.Common.{Err, List, length, Result, subst, ◌≡◌, ◌*◌, ◌++◌, ℕ, refl, sym, ap, arith}
use Rattle.bolt_tree.specs.Tree.{tree_of}
use Rattle.bolt_layout.specs.{Copies.layout_of_listing, Layout.layout_high_water, Layout.layout_pages, Layout.placed_bytes, Laid.Placed}
use Rattle.bolt_bulk.specs.{Compacting.Copies, Compacting.CopiesEach, declared.members_copy.Done.Done, declared.bulk_fault.BulkFault.BulkFault}
use Rattle.bolt_bulk.specs.Private.{first_pages, FitLimits, limits_with, stopped_by}
use Rattle.bolt_bulk.proofs.CopyLemmas.{copied, layout_parts, layout_written, stops_first, stops_later, stops_unplanned}
use Rattle.bolt_bulk.proofs.{FileLayouts.some_bytes, FileLayouts.too_large, FileLayouts.within_mark, WalkLeft.whole_again}
use Rattle.bolt_bulk.proofs.members_copy.compact_members.Goals.{After-a_listing_has_one_layout, After-setup_of-setup}
use Rattle.bolt_format.proofs.Exports.{size_bounds}
use Rattle.std.specs.Prelude.{IsErrAnd}
use Rattle.bolt_bulk.proofs.members_copy.compact_members.Goals as goal

-- the limits are those of the layout, also at the setup's page size
fit : (g : _) (c : After-setup_of-setup g) (whole : g.M.Members.Whole) → g.M.Members.reads c.args.members.now whole
    → FitLimits c.args.blueprint.now.layout (tree_of (g.M.Members.listing whole)) c.setup_of-setup.result.page_size (limits_with c.in_ok-limits.limits)
fit g c whole is =
    subst (λ (n : ℕ). FitLimits c.args.blueprint.now.layout (tree_of (g.M.Members.listing whole)) n (limits_with c.in_ok-limits.limits))
    (sym c.setup_of-setup.ensures.page_size) (c.in_ok-limits.ensures.fit whole is)

-- after both passes they are the members of the same listing
there : (g : _) (c : After-setup_of-setup g) (whole : g.M.Members.Whole) → g.M.Members.reads c.args.members.now whole
    → g.M.Members.reads c.plan_within.new.members whole
there g c whole is = (c.in_ok-plan.ensures.again.same whole).1 ((c.in_ok-limits.ensures.again.same whole).1 is)

-- the layout has as many bytes as its pages
long : (g : _) (c : After-a_listing_has_one_layout g) (whole : g.M.Members.Whole) → g.M.Members.reads c.args.members.now whole
    → length (layout_of_listing c.args.blueprint.now.layout c.args.blueprint.now.page_size (g.M.Members.listing whole) c.args.blueprint.now.sequence)
    ≡ layout_high_water c.args.blueprint.now.layout c.args.blueprint.now.page_size (tree_of (g.M.Members.listing whole)) * c.args.blueprint.now.page_size
long g c whole is = c.a_listing_has_one_layout.ensures.length c.args.blueprint.now.layout (g.M.Members.listing whole) (c.requires.one whole is)

-- the first pages, with these after them, are the layout
written : (g : _) (c : After-setup_of-setup g) (whole : g.M.Members.Whole) → g.M.Members.reads c.args.members.now whole → (others : List Placed)
    → layout_pages c.args.blueprint.now.layout c.setup_of-setup.result.page_size (tree_of (g.M.Members.listing whole)) ≡ others
    → layout_of_listing c.args.blueprint.now.layout c.args.blueprint.now.page_size (g.M.Members.listing whole) c.args.blueprint.now.sequence
    ≡ first_pages c.args.blueprint.now.page_size c.in_ok-plan.plan.root c.args.blueprint.now.sequence c.in_ok-plan.plan.high_water
    ++ placed_bytes c.setup_of-setup.result.page_size others
written g c whole is others all =
    let planned = c.in_ok-plan.ensures.plans whole ((c.in_ok-limits.ensures.again.same whole).1 is) in
    grind (arith, layout_written)

-- what a call promises that stops early
stopped : (g : _) (c : After-a_listing_has_one_layout g) (new : g.row.S.Denot) (result : Result Done BulkFault) (e : BulkFault)
    → IsErrAnd result (λ f. f ≡ e)
    → ((whole : g.M.Members.Whole) → g.M.Members.reads c.args.members.now whole
    → Copies g.S.Sink.taken g.S.Sink.failed c.args.sink.now new
    (layout_of_listing c.args.blueprint.now.layout c.args.blueprint.now.page_size (g.M.Members.listing whole) c.args.blueprint.now.sequence) (Err e))
    → CopiesEach g.S.Sink.taken g.S.Sink.failed c.args.sink.now new (g.M.Members.reads c.args.members.now) g.M.Members.listing c.args.blueprint.now.layout
    c.args.blueprint.now.page_size c.args.blueprint.now.sequence result
stopped g c new result e same copied =
    let (_, is, e_is) = err_from_is_err_and result same in
    grind arith

pub plan_within-requires : goal.plan_within-requires
plan_within-requires g c κs = grind (arith, whole_again, fit)

pub put_pages-requires : goal.put_pages-requires
put_pages-requires g c κs = grind (arith, whole_again)

pub returns-in_err-limits-clause-copies : goal.returns-in_err-limits-clause-copies
returns-in_err-limits-clause-copies g c =
    let began : After-a_listing_has_one_layout g = (goal.at.returns-in_err-limits-clause-copies g c).After-a_listing_has_one_layout in
    stopped g began _ _ (stopped_by c.in_err-limits.field-0.0) c.from_residual.ensures.1 (λ whole is.
    stops_unplanned g.S.Sink c.args.sink.now _ c.in_err-limits.field-0.0
    (some_bytes _ _ c.args.blueprint.now.page_size (long g began whole is) c.args.blueprint.now.accepted) (λ e. c.in_err-limits.ensures.large e whole is))

pub returns-in_err-plan-clause-copies : goal.returns-in_err-plan-clause-copies
returns-in_err-plan-clause-copies g c =
    let began : After-a_listing_has_one_layout g = (goal.at.returns-in_err-plan-clause-copies g c).After-a_listing_has_one_layout in
    stopped g began _ _ (stopped_by c.in_err-plan.field-0.0) c.from_residual-in_err-plan.ensures.1 (λ whole is.
    let planned = c.in_err-plan.ensures.plans whole ((c.in_ok-limits.ensures.again.same whole).1 is) in
    stops_unplanned g.S.Sink c.args.sink.now _ c.in_err-plan.field-0.0
    (some_bytes _ _ c.args.blueprint.now.page_size (long g began whole is) c.args.blueprint.now.accepted) planned.large)

pub returns-in_err-put_first_pages-clause-copies : goal.returns-in_err-put_first_pages-clause-copies
returns-in_err-put_first_pages-clause-copies g c =
    let began : After-a_listing_has_one_layout g = (goal.at.returns-in_err-put_first_pages-clause-copies g c).After-a_listing_has_one_layout in
    stopped g began c.put_first_pages.new.sink _ _ c.from_residual-in_err-put_first_pages.ensures.1 (λ whole is.
    let planned = c.in_ok-plan.ensures.plans whole ((c.in_ok-limits.ensures.again.same whole).1 is) in
    let parts =
    layout_parts c.args.blueprint.now.layout c.args.blueprint.now.page_size (tree_of (g.M.Members.listing whole)) c.args.blueprint.now.sequence
    c.in_ok-plan.plan.root c.in_ok-plan.plan.high_water planned.root planned.high_water in
    stops_first g.S.Sink c.args.sink.now c.put_first_pages.new.sink _ _ _ parts planned.fits c.in_err-put_first_pages.ensures)

pub overflow_mul-result : goal.overflow_mul-result
overflow_mul-result g c = ∥∥₁_elim c.requires.some (Prim.hlevel props) (λ is.
    let whole = is.0 in
    let is = is.1 in
    let ends =
    c.in_ok-ended.ensures.pages c.args.blueprint.now.layout whole (there g (goal.at.overflow_mul-result g c).After-setup_of-setup whole is)
    (fit g (goal.at.overflow_mul-result g c).After-setup_of-setup whole is) in
    let few =
    within_mark c.args.blueprint.now.page_size c.setup_of-setup.result.greatest_high_water c.in_ok-ended.ended.high_water
    (c.in_ok-ended.ended.high_water * c.args.blueprint.now.page_size) c.setup_of-setup.ensures.greatest_high_water ends.returned.within refl in
    omega arith)

pub returns-in_err-ended-clause-copies : goal.returns-in_err-ended-clause-copies
returns-in_err-ended-clause-copies g c =
    let began : After-a_listing_has_one_layout g = (goal.at.returns-in_err-ended-clause-copies g c).After-a_listing_has_one_layout in
    stopped g began c.put_pages.new.sink _ _ c.from_residual-in_err-ended.ensures.1 (λ whole is.
    let planned = c.in_ok-plan.ensures.plans whole ((c.in_ok-limits.ensures.again.same whole).1 is) in
    let ends =
    c.in_err-ended.ensures.pages c.args.blueprint.now.layout whole (there g (goal.at.returns-in_err-ended-clause-copies g c).After-setup_of-setup whole is)
    (fit g (goal.at.returns-in_err-ended-clause-copies g c).After-setup_of-setup whole is) in
    let layout = written g (goal.at.returns-in_err-ended-clause-copies g c).After-setup_of-setup whole is ends.others ends.all in
    let low = (size_bounds c.args.blueprint.now.page_size c.args.blueprint.now.accepted).0 in
    let high_water : layout_high_water c.args.blueprint.now.layout c.setup_of-setup.result.page_size (tree_of (g.M.Members.listing whole))
    ≡ layout_high_water c.args.blueprint.now.layout c.args.blueprint.now.page_size (tree_of (g.M.Members.listing whole)) =
    ap (λ (n : ℕ). layout_high_water c.args.blueprint.now.layout n (tree_of (g.M.Members.listing whole))) c.setup_of-setup.ensures.page_size in
    stops_later g.S.Sink c.args.sink.now c.put_pages.new.sink _ _ _ layout planned.fits c.put_first_pages.new.sink _
    c.in_ok-put_first_pages.ensures ends.puts ends.short
    (λ e. let above = ends.returned.large e in
    too_large c.args.blueprint.now.page_size c.setup_of-setup.result.greatest_high_water
    (layout_high_water c.args.blueprint.now.layout c.args.blueprint.now.page_size (tree_of (g.M.Members.listing whole))) _ (omega arith)
    c.setup_of-setup.ensures.greatest_high_water (omega arith) (long g began whole is)))

pub returns-clause-copies : goal.returns-clause-copies
returns-clause-copies g c =
    let began : After-a_listing_has_one_layout g = (goal.at.returns-clause-copies g c).After-a_listing_has_one_layout in
    grind (arith, common_steps, there, fit, written, long)

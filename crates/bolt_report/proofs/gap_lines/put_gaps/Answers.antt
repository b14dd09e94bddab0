use Rattle.std.proofs.Common.{◌≡◌, ◌∙◌, ◌<◌, ℕ, List, Some, ap, get_or, length, map, option_map, slice_get}
use Rattle.std.proofs.lemmas.Option.{slice_get-get_or, slice_get-map}
use Rattle.bolt_recover.specs.declared.page_gaps.PageGap.{PageGap}
use Rattle.bolt_report.proofs.Words.{gap_line, page_gap_view, Wrote-element, Wrote-element_return}
use Rattle.bolt_report.proofs.gap_lines.put_gaps.Goals as goal

view_at : (gaps : List PageGap) (i : ℕ) (d : PageGap) → i < length gaps
    → slice_get (map page_gap_view gaps) i ≡ Some (page_gap_view (get_or gaps i d))
view_at gaps i d within = slice_get-map page_gap_view gaps i ∙ ap (option_map page_gap_view) (slice_get-get_or gaps i d within)

pub returns-in_err-put_gap : goal.returns-in_err-put_gap
returns-in_err-put_gap g c =
    Wrote-element_return gap_line (map page_gap_view c.args.gaps.now) c.loop-gap.gap-index _ _
    (view_at c.args.gaps.now c.loop-gap.gap-index _ c.loop-gap-test.true) c.loop-gap.invariant
    c.in_err-put_gap.ensures c.from_residual.ensures.0

pub loop-gap-preserved : goal.loop-gap-preserved
loop-gap-preserved g c =
    Wrote-element gap_line (map page_gap_view c.args.gaps.now) c.loop-gap.gap-index _ (view_at c.args.gaps.now c.loop-gap.gap-index _ c.loop-gap-test.true)
    c.loop-gap.invariant
    c.in_ok-put_gap.ensures

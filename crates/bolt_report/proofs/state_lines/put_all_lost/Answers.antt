use Rattle.std.proofs.Common.{◌∙◌, ap, option_map}
use Rattle.std.proofs.lemmas.Option.{slice_get-map}
use Rattle.bolt_format.proofs.Exports.{Wrote-element, Wrote-element_return}
use Rattle.bolt_recover.specs.ShownStates.{place_view}
use Rattle.bolt_report.proofs.Words.{slice_get-get_or}
use Rattle.bolt_report.specs.StateLines.{lost_line}
use Rattle.bolt_report.proofs.state_lines.put_all_lost.Goals as goal

pub returns-in_err-put_lost_state : goal.returns-in_err-put_lost_state
returns-in_err-put_lost_state g c =
    Wrote-element_return (lost_line c.args.metas.now) _ c.loop-place.place-index _ _
    (slice_get-map place_view c.args.places.now c.loop-place.place-index ∙ ap (option_map place_view) (slice_get-get_or _ _ _ c.loop-place-test.true))
    c.loop-place.invariant c.in_err-put_lost_state.ensures c.from_residual.ensures.0

pub loop-place-preserved : goal.loop-place-preserved
loop-place-preserved g c =
    Wrote-element (lost_line c.args.metas.now) _ c.loop-place.place-index _
    (slice_get-map place_view c.args.places.now c.loop-place.place-index ∙ ap (option_map place_view) (slice_get-get_or _ _ _ c.loop-place-test.true))
    c.loop-place.invariant c.in_ok-put_lost_state.ensures

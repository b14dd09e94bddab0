use Rattle.std.proofs.Common.{◌∙◌, ap, option_map}
use Rattle.std.proofs.lemmas.Option.{slice_get-map}
use Rattle.bolt_format.proofs.Exports.{Wrote-element, Wrote-element_return}
use Rattle.bolt_recover.specs.ShownStates.{state_view}
use Rattle.bolt_report.proofs.Words.{slice_get-get_or}
use Rattle.bolt_report.specs.StateLines.{kept_line}
use Rattle.bolt_report.proofs.state_lines.put_all_kept.Goals as goal

pub returns-in_err-put_kept : goal.returns-in_err-put_kept
returns-in_err-put_kept g c =
    Wrote-element_return (kept_line c.args.metas.now) _ c.loop-state.state-index _ _
    (slice_get-map state_view c.args.states.now c.loop-state.state-index ∙ ap (option_map state_view) (slice_get-get_or _ _ _ c.loop-state-test.true))
    c.loop-state.invariant c.in_err-put_kept.ensures c.from_residual.ensures.0

pub loop-state-preserved : goal.loop-state-preserved
loop-state-preserved g c =
    Wrote-element (kept_line c.args.metas.now) _ c.loop-state.state-index _
    (slice_get-map state_view c.args.states.now c.loop-state.state-index ∙ ap (option_map state_view) (slice_get-get_or _ _ _ c.loop-state-test.true))
    c.loop-state.invariant c.in_ok-put_kept.ensures

-- Each run that closes is one step on; a run that stays, or the first new one, ends the climb.
use Rattle.std.proofs.Common.{◌≡◌, ◌∙◌, ◌+◌, arith, refl}
use Rattle.std.proofs.{lemmas.List.map-set, lemmas.List.length-set, lemmas.Result.err_from_is_err_and}
use Rattle.bolt_format.specs.ElementPlaces.{branch_view}
use Rattle.bolt_layout.specs.{Levels.overflow_of, Limits.one_less}
use Rattle.bolt_bulk.specs.Private.{no_run, one_closed, run_push, run_view}
use Rattle.bolt_bulk.proofs.ClimbLemmas.{climb_closes, climb_stays, climb_stops, no_room_by, room_by, run_at, standing_set, up_key}
use Rattle.bolt_bulk.proofs.upper_runs.UpperRuns.climb.Goals as goal

pub take_page-requires-clause-standing : goal.take_page-requires-clause-standing
take_page-requires-clause-standing g c =
    (run_at _ c.loop-i.self.runs.items c.loop-i.i c.index_mut.result.now c.loop-i-test.true (omega arith) c.index_mut.ensures.value
    c.loop-i.invariant.standing).standing

pub returns-in_err-take_page-clause-climbs : goal.returns-in_err-take_page-clause-climbs
returns-in_err-take_page-clause-climbs g c =
    let here =
    run_at _ c.loop-i.self.runs.items c.loop-i.i c.index_mut.result.now c.loop-i-test.true (omega arith) c.index_mut.ensures.value
    c.loop-i.invariant.standing in
    let p = err_from_is_err_and c.from_residual.result c.from_residual.ensures.1 in
    rw (p.1, p.2) (record {
      writes = climb_stops here.at c.loop-i.invariant.climbs _ (rw c.loop-i.invariant.same.setup at c.in_err-take_page.ensures.takes.writes);
      runs = tt;
      limits = tt;
      marked = tt;
    })

pub returns-in-None : goal.returns-in-None
returns-in-None g c =
    let old = run_view c.index_mut.result.now in
    let here =
    run_at _ c.loop-i.self.runs.items c.loop-i.i c.index_mut.result.now c.loop-i-test.true (omega arith) c.index_mut.ensures.value
    c.loop-i.invariant.standing in
    let room =
    room_by c.args.writer.now.setup.page_size c.args.key.now (branch_view c.loop-i.closed) c.loop-i.writer.next old _ c.in-None.is
    (rw c.loop-i.invariant.same.setup at c.in_ok-take_page.ensures.takes.up) in
    let stays =
    climb_stays here.at c.loop-i.invariant.climbs here.within room (rw c.loop-i.invariant.same.setup at c.in_ok-take_page.ensures.takes.writes.pages) in
    grind (arith, map-set, standing_set)

pub loop-i-preserved : goal.loop-i-preserved
loop-i-preserved g c =
    let old = run_view c.index_mut.result.now in
    let e = branch_view c.loop-i.closed in
    let here =
    run_at _ c.loop-i.self.runs.items c.loop-i.i c.index_mut.result.now c.loop-i-test.true (omega arith) c.index_mut.ensures.value
    c.loop-i.invariant.standing in
    let (closed, named) =
    no_room_by c.args.writer.now.setup.page_size c.args.key.now e c.loop-i.writer.next old _ c.in-Some.up c.in-Some.is
    (rw c.loop-i.invariant.same.setup at c.in_ok-take_page.ensures.takes.up) in
    let took : run_view c.take_page.new.self ≡ no_run (one_less old.allowed) (one_closed old.closed) =
    (rw c.loop-i.invariant.same.setup at c.in_ok-take_page.ensures.takes.run) ∙ (rw closed refl) in
    let next : c.take_page.new.writer.next ≡ c.loop-i.writer.next + (1 + overflow_of c.args.writer.now.setup.page_size (run_push old e).size) =
    (rw c.loop-i.invariant.same.setup at c.in_ok-take_page.ensures.takes.marked) ∙ (rw closed refl) in
    let set_is = map-set run_view c.loop-i.self.runs.items c.loop-i.i c.take_page.new.self in
    let closes =
    climb_closes here.at c.loop-i.invariant.climbs here.within closed (rw c.loop-i.invariant.same.setup at c.in_ok-take_page.ensures.takes.writes.pages) in
    grind (arith, up_key, standing_set, length-set)

-- The runs that are left come to the same as all of them: each that closes is one step on, and a fault leaves something out.
use Rattle.std.proofs.Common.{arith}
use Rattle.std.proofs.{lemmas.List.map-set, lemmas.List.length-set, lemmas.Result.err_from_is_err_and}
use Rattle.bolt_format.specs.ElementPlaces.{branch_view}
use Rattle.bolt_bulk.specs.Private.{run_view}
use Rattle.bolt_bulk.proofs.ClimbLemmas.{close_more, close_stops, run_at, standing_set, up_key}
use Rattle.bolt_bulk.proofs.upper_runs.UpperRuns.close_all.Goals as goal

pub take_last_page-requires-clause-standing : goal.take_last_page-requires-clause-standing
take_last_page-requires-clause-standing g c =
    (run_at _ c.loop-i.self.runs.items c.loop-i.i c.index_mut.result.now c.loop-i-test.true (omega arith) c.index_mut.ensures.value
    c.loop-i.invariant.standing).standing

pub returns-in_err-closed-clause-closes : goal.returns-in_err-closed-clause-closes
returns-in_err-closed-clause-closes g c =
    let here =
    run_at _ c.loop-i.self.runs.items c.loop-i.i c.index_mut.result.now c.loop-i-test.true (omega arith) c.index_mut.ensures.value
    c.loop-i.invariant.standing in
    let p = err_from_is_err_and c.from_residual.result c.from_residual.ensures.1 in
    rw (p.1, p.2) (record {
      closes = close_stops here.at c.loop-i.invariant.closes _ (rw c.loop-i.invariant.same.setup at c.in_err-closed.ensures.closes.closes);
      root = tt;
    })

pub loop-i-preserved : goal.loop-i-preserved
loop-i-preserved g c =
    let here =
    run_at _ c.loop-i.self.runs.items c.loop-i.i c.index_mut.result.now c.loop-i-test.true (omega arith) c.index_mut.ensures.value
    c.loop-i.invariant.standing in
    let more =
    close_more here.at c.loop-i.invariant.closes (run_view c.take_last_page.new.self) (branch_view c.in_ok-closed.closed) c.take_last_page.new.writer.next
    c.in_ok-closed.ensures.closes.up (rw c.loop-i.invariant.same.setup at c.in_ok-closed.ensures.closes.closes.marked)
    (rw c.loop-i.invariant.same.setup at c.in_ok-closed.ensures.closes.closes.writes.pages) in
    grind (arith, up_key, map-set, standing_set, length-set)

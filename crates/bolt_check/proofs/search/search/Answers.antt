use Rattle.std.proofs.Common.{◌∙◌, ◌∷◌, ap, inl, length, vec_len}
use Rattle.bolt_lemmas.proofs.Exports.{none_left, passed_on}
use Rattle.bolt_check.proofs.Words.{forest, IsClaimed, IsMetaPage, IsSearchFault, node_at, spot_at, spots_of}
use Rattle.bolt_check.proofs.{Visited.begin_carries, Visited.ended, Visited.reported_back, Visited.spots_pop}
use Rattle.bolt_check.proofs.{Visited.stored, Visiting.carries_on}
use Rattle.bolt_check.specs.Ways.{reached}
use Rattle.bolt_check.proofs.search.search.Goals as goal

pub loop-spot-init : goal.loop-spot-init
loop-spot-init c = record {
  room = c.in_ok-table.ensures.room;
  unlisted = c.in_ok-table.ensures.unlisted;
  long = c.in_ok-table.ensures.length;
  carried = begin_carries (node_at c.args.file.now c.args.meta.now) c.args.meta.now.root c.in_ok-pending.pending.items c.in_ok-table.table.items
      c.in_ok-pending.ensures c.in_ok-table.ensures.metas c.in_ok-table.ensures.uses;
}

pub loop-spot-preserved : goal.loop-spot-preserved
loop-spot-preserved c =
    let popped = spots_pop c.loop-spot.pending.items c.pop.new.self.items c.in-Some.spot c.in-Some.ensures.items in
    let was = c.deref_mut.ensures.value in
    rw (stored c.loop-spot.table c.deref_mut.result.now c.step.new.table was c.step.auto.table)
    (record {
      room = c.in_ok-step.ensures.room;
      unlisted = let next = rw was at c.in_ok-step.ensures.unlisted in next c.loop-spot.invariant.unlisted;
      long = c.in_ok-step.ensures.length ∙ ap length was ∙ c.loop-spot.invariant.long;
      carried = carries_on (node_at c.args.file.now c.args.meta.now) (rw popped at c.loop-spot.invariant.carried) (rw was at c.in_ok-step.ensures.carried);
    })

pub returns-clause-clean : goal.returns-clause-clean
returns-clause-clean c =
    (ended (node_at c.args.file.now c.args.meta.now) c.loop-spot.pending.items c.loop-spot.invariant.carried
    (none_left c.loop-spot.pending.items c.pop.new.self.items
    (vec_len c.loop-spot.pending) c.in_default.ensures.cases.0 c.in_default.ensures.rest c.in_default.ensures.items)).0

pub returns-clause-covered : goal.returns-clause-covered
returns-clause-covered c =
    (ended (node_at c.args.file.now c.args.meta.now) c.loop-spot.pending.items c.loop-spot.invariant.carried
    (none_left c.loop-spot.pending.items c.pop.new.self.items
    (vec_len c.loop-spot.pending) c.in_default.ensures.cases.0 c.in_default.ensures.rest c.in_default.ensures.items)).1

pub returns-in_err-step-clause-first : goal.returns-in_err-step-clause-first
returns-in_err-step-clause-first c =
    let nodes = node_at c.args.file.now c.args.meta.now in
    let popped = spots_pop c.loop-spot.pending.items c.pop.new.self.items c.in-Some.spot c.in-Some.ensures.items in
    let carried = rw popped at c.loop-spot.invariant.carried in
    passed_on c.from_residual-in_err-step.result c.in_err-step.field-0.0 (IsSearchFault nodes (reached nodes c.args.meta.now.root) IsMetaPage)
    (reported_back nodes (reached nodes c.args.meta.now.root) (forest nodes (spot_at c.in-Some.spot ∷ spots_of c.pop.new.self.items))
    IsMetaPage (IsClaimed c.loop-spot.table.items) c.in_err-step.field-0.0 carried.first (rw c.deref_mut.ensures.value at c.in_err-step.ensures.reported))
    c.from_residual-in_err-step.ensures.1

pub returns-clause-uses : goal.returns-clause-uses
returns-clause-uses c = λ n u h. c.loop-spot.invariant.carried.uses n u (inl h)

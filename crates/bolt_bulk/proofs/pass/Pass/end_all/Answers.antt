-- What is open of the root bucket ends, which is the rest of the layout.
use Rattle.std.proofs.Common.{◌∙◌, [], Err, arith, subst, sym}
use Rattle.std.proofs.lemmas.Result.{err_from_is_err_and}
use Rattle.std.specs.Prelude.{⊤}
use Rattle.bolt_layout.specs.declared.Layout.TheVariants.{Balanced}
use Rattle.bolt_bulk.specs.{Private.bucket_runs, Private.FitLimits, Private.limits_with, Private.runs_end_put, declared.limits.Limits.Limits}
use Rattle.bolt_bulk.proofs.{PassAt.steps_none, PassEnds.closes_by, PassEnds.ends_after, PassEnds.ends_early, PassEnds.has_end}
use Rattle.bolt_bulk.proofs.pass.Pass.end_all.Goals as goal

pub returns-in_err-leave_to-clause-ends : goal.returns-in_err-leave_to-clause-ends
returns-in_err-leave_to-clause-ends g c = λ wanted put has. ends_early c.from_residual.ensures.1 (c.in_err-leave_to.ensures.steps wanted [] put has tt)

pub returns-in_err-bucket_ends-clause-ends : goal.returns-in_err-bucket_ends-clause-ends
returns-in_err-bucket_ends-clause-ends g c = λ wanted put has.
    ends_after c.in_ok-leave_to.ensures.on.setup (c.in_ok-leave_to.ensures.steps wanted [] put has tt)
    (λ all mid. ends_early c.from_residual-in_err-bucket_ends.ensures.1 (steps_none {A = ⊤} {At = λ _. ⊤} (Err _) mid.at c.in_err-bucket_ends.ensures.fault tt))

pub returns-in_err-root-clause-ends : goal.returns-in_err-root-clause-ends
returns-in_err-root-clause-ends g c = λ wanted put has.
    let setup = c.in_ok-leave_to.ensures.same.setup ∙ c.requires.setup ∙ sym c.in_ok-leave_to.ensures.on.setup in
    let closed = (closes_by setup c.in_err-root.ensures.closes).0 in
    let p = err_from_is_err_and c.from_residual-in_err-root.result c.from_residual-in_err-root.ensures.1 in
    rw (p.1, p.2) (ends_after c.in_ok-leave_to.ensures.on.setup (c.in_ok-leave_to.ensures.steps wanted [] put has tt)
    (λ all mid. let end = has_end wanted c.leave_to.new.self c.leave_to.new.writer.next all mid c.in_ok-leave_to.ensures.on.depth_is in
    record {
      others = runs_end_put c.leave_to.new.self.setup.page_size (bucket_runs c.leave_to.new.self.bucket c.leave_to.new.writer.next);
      all = end.pages;
      puts = closed.writes.pages;
      short = closed.short;
      returned = record {
        root = tt;
        high_water = tt;
        within = tt;
        noted = tt;
        held = tt;
        large = λ h. let m = closed.writes.large h in let n = end.high_water in omega (arith, m, n);
      };
    }))

pub returns-clause-ends : goal.returns-clause-ends
returns-clause-ends g c = λ wanted put has.
    let setup = c.in_ok-leave_to.ensures.same.setup ∙ c.requires.setup ∙ sym c.in_ok-leave_to.ensures.on.setup in
    let (closed, root) = closes_by setup c.in_ok-root.ensures.closes in
    ends_after c.in_ok-leave_to.ensures.on.setup (c.in_ok-leave_to.ensures.steps wanted [] put has tt)
    (λ all mid. let end = has_end wanted c.leave_to.new.self c.leave_to.new.writer.next all mid c.in_ok-leave_to.ensures.on.depth_is in
    record {
      others = runs_end_put c.leave_to.new.self.setup.page_size (bucket_runs c.leave_to.new.self.bucket c.leave_to.new.writer.next);
      all = end.pages;
      puts = closed.writes.pages;
      short = tt;
      returned = record {
        root = root ∙ end.root;
        high_water = closed.marked ∙ end.high_water;
        within = rw (c.in_ok-root.ensures.same.setup, setup) at c.close_runs.new.writer.within;
        noted = λ asked which.
            let next = closed.marked in
            let within = c.close_runs.new.writer.within in
            let counted = c.close_runs.new.writer.setup.fits in
            subst (λ (l : Limits). FitLimits Balanced wanted.tree c.leave_to.new.self.setup.page_size (limits_with l)) (sym c.take_limits.ensures)
            (end.noted c.bucket_ends.new.self c.in_ok-bucket_ends.ensures.ends asked which (omega arith));
        held = end.held;
        large = tt;
      };
    })

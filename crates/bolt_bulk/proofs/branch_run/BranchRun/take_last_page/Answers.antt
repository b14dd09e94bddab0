-- A run that took one more can close; if memory runs out, its page is left out.
use Rattle.std.proofs.Common.{rules, subst, sym}
use Rattle.bolt_format.specs.ElementPlaces.{branch_view}
use Rattle.bolt_bulk.specs.Private.{IsPushed, run_view, RunView}
use Rattle.bolt_bulk.proofs.{PutsLemmas.closes_early, RunLemmas.pushed}
use Rattle.bolt_bulk.proofs.branch_run.BranchRun.take_last_page.Goals as goal

pub close-requires : goal.close-requires
close-requires g c =
    subst (λ (r : RunView). IsPushed r) (sym c.in_ok-push_page.ensures.run)
    (pushed (run_view c.args.self.now) (branch_view c.args.closed) c.requires.standing c.requires.closed)

pub returns-in_err-push_page-clause-closes : goal.returns-in_err-push_page-clause-closes
returns-in_err-push_page-clause-closes g c = record { closes = closes_early c.from_residual.ensures.1 c.in_err-push_page.ensures.fault; up = search rules }

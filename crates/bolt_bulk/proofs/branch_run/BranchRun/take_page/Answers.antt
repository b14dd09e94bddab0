-- A run that stays open for the next page stands, and any other can close.
use Rattle.std.proofs.Common.{◌∙◌, ap, subst, sym}
use Rattle.bolt_format.specs.ElementPlaces.{branch_view}
use Rattle.bolt_bulk.specs.Private.{IsPushed, IsStanding, key_size, run_kept, run_stays, run_view, RunView}
use Rattle.bolt_bulk.proofs.RunLemmas.{pushed, stays_standing}
use Rattle.bolt_bulk.proofs.branch_run.BranchRun.take_page.Goals as goal

pub returns-then-stays-clause-standing : goal.returns-then-stays-clause-standing
returns-then-stays-clause-standing g c =
    let same = c.in_ok-push_page.ensures.run in
    let stays =
    ap (λ (r : RunView). run_stays c.args.writer.now.setup.page_size r (key_size c.args.key.now)) (sym same) ∙ (sym c.stays.ensures.stays ∙ c.if-stays.true) in
    let kept = c.stays.ensures.kept c.if-stays.true ∙ ap (λ (r : RunView). run_kept c.args.writer.now.setup.page_size r (key_size c.args.key.now)) same in
    subst (λ (r : RunView). IsStanding r) (sym kept)
    (stays_standing c.args.writer.now.setup.page_size (key_size c.args.key.now) (run_view c.args.self.now) (branch_view c.args.closed)
    c.args.writer.now.setup.high c.requires.standing c.requires.closed stays)

pub close-requires : goal.close-requires
close-requires g c =
    subst (λ (r : RunView). IsPushed r) (sym (c.stays.ensures.same c.if-stays.false ∙ c.in_ok-push_page.ensures.run))
    (pushed (run_view c.args.self.now) (branch_view c.args.closed) c.requires.standing c.requires.closed)

use Rattle.std.proofs.Common.{◌≡◌}
use Rattle.bolt_recover.specs.{Private.StatesTried.HasTried}
use Rattle.bolt_recover.proofs.states.States.add_pages.Given as goal

-- the pages so far were tried
abbrev pub invariant-loop-root : goal.invariant-loop-root
invariant-loop-root l = record {
  metas : l.self.metas ≡ l.fn.self.metas;
  tried : HasTried l.fn.file l.fn.page_size l.root l.self;
}

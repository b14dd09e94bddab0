use Rattle.std.proofs.Common.{◌≡◌, ◌⊎◌, length, true}
use Rattle.bolt_etcd.specs.Store.RevisionsLeft.{ForPass, ahead_of, begins_with_other, pass_entries}
use Rattle.bolt_etcd.proofs.RevisionSteps.{Goes}
use Rattle.bolt_etcd.proofs.store.revisions.Revisions.next.Given as goal

abbrev pub invariant-rest : goal.invariant-rest
invariant-rest l = record {
  goes : Goes l.fn.self l.self;
  opens : (l.self ≡ l.fn.self) ⊎ ForPass l.fn.self (λ entries. begins_with_other (ahead_of l.fn.self entries) ≡ true);
}

abbrev pub decreases-rest : goal.decreases-rest
decreases-rest l = length (ahead_of l.self (pass_entries l.fn.self))

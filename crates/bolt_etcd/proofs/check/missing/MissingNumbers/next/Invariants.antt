use Rattle.std.proofs.Common.{◌≡◌, ◌≤◌, None}
use Rattle.bolt_etcd.specs.{Private.MissingLeft.missing_left, Store.RevisionsLeft.ForPass, Store.RevisionsLeft.number_ahead}
use Rattle.bolt_etcd.specs.{Store.RevisionsLeft.pass_checked, Store.RevisionsLeft.pass_start}
use Rattle.bolt_etcd.proofs.check.missing.MissingNumbers.next.Given as goal

-- nothing was returned, and nothing is known already
abbrev pub invariant-rest : goal.invariant-rest
invariant-rest l = record {
  none : l.self.pending ≡ None;
  checked : pass_checked l.self.pass ≡ pass_checked l.fn.self.pass;
  start : pass_start l.self.pass ≡ pass_start l.fn.self.pass;
  behind : number_ahead l.self.pass ≤ number_ahead l.fn.self.pass;
  left : ForPass l.fn.self.pass (λ entries. missing_left l.fn.self entries ≡ missing_left l.self entries);
}

abbrev pub decreases-rest : goal.decreases-rest
decreases-rest l = number_ahead l.self.pass

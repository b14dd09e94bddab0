use Rattle.std.proofs.Common.{◌≡◌, ◌≤◌}
use Rattle.bolt_etcd.specs.Check.ForNames.{ForGranted}
use Rattle.bolt_etcd.specs.Private.FaultsLeft.{faults_leases, faults_left, faults_number}
use Rattle.bolt_etcd.proofs.check.name_faults.NameFaults.next.Given as goal

-- nothing was returned so far
abbrev pub invariant-rest : goal.invariant-rest
invariant-rest l = record {
  left : ForGranted (faults_leases l.fn.self) (λ granted. faults_left l.fn.self granted ≡ faults_left l.self granted);
  fewer : faults_number l.self ≤ faults_number l.fn.self;
  leases : faults_leases l.self ≡ faults_leases l.fn.self;
}

abbrev pub decreases-rest : goal.decreases-rest
decreases-rest l = faults_number l.self

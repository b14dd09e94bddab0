use Rattle.std.proofs.Common.{◌≡◌, flat_map}
use Rattle.bolt_etcd.specs.{Check.CheckLines.name_fault_lines, Check.ForNames.ForGranted, Private.FaultsLeft.faults_leases}
use Rattle.bolt_etcd.specs.{Private.FaultsLeft.faults_left, Private.FaultsLeft.faults_number}
use Rattle.bolt_etcd.proofs.ListedTexts.{Listed}
use Rattle.bolt_etcd.proofs.check.check_texts.put_name_faults.Given as goal

-- the lines of those that are ahead are still to be written, and the others were counted
abbrev pub invariant-rest : goal.invariant-rest
invariant-rest g l = record {
  leases : faults_leases l.pass ≡ faults_leases l.fn.pass;
  listed : ForGranted (faults_leases l.fn.pass)
      (λ granted.
      Listed g.S.Sink l.initial.sink l.sink (flat_map name_fault_lines (faults_left l.fn.pass granted))
      (flat_map name_fault_lines (faults_left l.pass granted)) l.number);
}

abbrev pub decreases-rest : goal.decreases-rest
decreases-rest g l = faults_number l.pass

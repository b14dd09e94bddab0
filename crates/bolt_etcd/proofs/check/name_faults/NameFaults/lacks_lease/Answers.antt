use Rattle.std.proofs.Common.{◌∙◌, ap}
use Rattle.bolt_etcd.specs.{Check.NameFaults.has_lease, Check.NameFaults.lacks_lease, Wire.Revisions.RevisionView}
use Rattle.bolt_etcd.proofs.Leases.{lacks}
use Rattle.bolt_etcd.proofs.check.name_faults.NameFaults.lacks_lease.Goals as goal

pub returns-in-Some : goal.returns-in-Some
returns-in-Some c = rw c.in-Some.is (λ entries are.
    lacks _ _ entries c.decode-lease.result.content.lease are (λ value. value.now) c.get.result c.is_none.result c.to_be_bytes.result c.if-lease-eq0.false
    c.to_be_bytes.ensures c.get.ensures c.is_none.ensures
    ∙ ap (λ (r : RevisionView). lacks_lease (has_lease entries) r) c.decode-lease.ensures)

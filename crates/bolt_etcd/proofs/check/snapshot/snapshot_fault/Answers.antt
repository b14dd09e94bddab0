use Rattle.std.proofs.Common.{rules}
use Rattle.bolt_etcd.proofs.SnapshotLemmas.{no_fault_iff}
use Rattle.bolt_etcd.proofs.check.snapshot.snapshot_fault.Goals as goal

pub returns-then-extra-eq0-clause-snapshot : goal.returns-then-extra-eq0-clause-snapshot
returns-then-extra-eq0-clause-snapshot c = no_fault_iff c.args.file.now _ (search rules)

pub returns-then-extra-ne-HASH_LEN-clause-snapshot : goal.returns-then-extra-ne-HASH_LEN-clause-snapshot
returns-then-extra-ne-HASH_LEN-clause-snapshot c = no_fault_iff c.args.file.now _ (search rules)

pub returns-then-ne-clause-snapshot : goal.returns-then-ne-clause-snapshot
returns-then-ne-clause-snapshot c = no_fault_iff c.args.file.now _ (search rules)

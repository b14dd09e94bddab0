use Rattle.std.proofs.Common.{length}
use Rattle.bolt_etcd.specs.Wire.ShownRecords.{shown_record}
use Rattle.bolt_etcd.proofs.Fields.{Goes}
use Rattle.bolt_etcd.proofs.wire.record.Record.decode.Given as goal

abbrev pub invariant-loop-rest : goal.invariant-loop-rest
invariant-loop-rest l = Goes l.bytes (shown_record l.record) l.rest

abbrev pub decreases-loop-rest : goal.decreases-loop-rest
decreases-loop-rest l = length l.rest

use Rattle.std.proofs.Common.{refl, rules}
use Rattle.bolt_tree.specs.{ShownEntries.shown_entry}
use Rattle.bolt_etcd.specs.Wire.ShownRecords.{shown_record}
use Rattle.bolt_etcd.proofs.NumberedShown.{shows}
use Rattle.bolt_etcd.proofs.wire.numbered_entry.NumberedEntry.of.Goals as goal

pub returns-clause-is : goal.returns-clause-is
returns-clause-is c =
    shows (shown_entry c.args.entry.now) c.in-Value.value.now c.in_ok-key.key (shown_record c.in_ok-record.record) _ (search rules) (search rules)
    c.in_ok-record.ensures refl refl refl refl

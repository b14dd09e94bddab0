-- Values of the code without where their bytes lie in memory.
use Rattle.std.specs.Prelude.{ℕ, List}
use Rattle.std.specs.Borrow.{Bor}
use Rattle.bolt_etcd.specs.{Wire.Records.RecordView, Wire.Fields.Field, Wire.Fields.Fixed, Wire.Fields.LengthDelimited, Wire.Fields.Value}
use Rattle.bolt_etcd.specs.{Wire.Fields.Varint}
use Rattle.bolt_etcd.specs.declared.{wire.record.Record.Record, wire.Field.Field as CodeField, wire.Value.Value as CodeValue}
use Rattle.bolt_etcd.specs.declared.wire.Value.TheVariants as code

abbrev pub shown_value : CodeValue → Value
shown_value (code.Varint n) = Varint n
shown_value (code.LengthDelimited bytes) = LengthDelimited bytes.now
shown_value code.Fixed = Fixed

abbrev pub shown_field : CodeField → Field
shown_field f = record { number = f.number; value = shown_value f.value }

abbrev pub shown_record : Record → RecordView
shown_record r = record { name = r.name.now; created = r.created; modified = r.modified; version = r.version; value = r.value.now; lease = r.lease }

-- what was read, as it is shown, and the bytes after it
abbrev pub before : {A B : Type 0} → (A → B) → A × Bor (List ℕ) → B × List ℕ
before shown x = (shown x.0, x.1.now)

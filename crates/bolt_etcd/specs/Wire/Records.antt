-- etcd's record of a key, a message of protocol buffers. Of several fields with one number the last one counts.
use Rattle.std.specs.Prelude.{ℕ, List, [], ◌∷◌, Option, Some, None, option_map, ◌==◌, if◌then◌else◌}
use Rattle.bolt_etcd.specs.Wire.Fields.{◌>>=◌, Field, Fixed, LengthDelimited, Value, Varint, fields}

pub record RecordView : Type 0 where
  pub name : List ℕ
  pub created : ℕ
  pub modified : ℕ
  pub version : ℕ
  pub value : List ℕ
  pub lease : ℕ

-- a field that isn't there is empty or 0
abbrev pub empty : RecordView
empty = record { name = []; created = 0; modified = 0; version = 0; value = []; lease = 0 }

abbrev pub varint_in : Value → Option ℕ
varint_in (Varint n) = Some n
varint_in (LengthDelimited bytes) = None
varint_in Fixed = None

abbrev pub bytes_in : Value → Option (List ℕ)
bytes_in (Varint n) = None
bytes_in (LengthDelimited bytes) = Some bytes
bytes_in Fixed = None

-- a record with one more field, which must have its wire type if it is a known one; others are passed over
unfoldable pub with : RecordView → Field → Option RecordView
with r f =
    if f.number == 1 then option_map (λ x. record r { name = x }) (bytes_in f.value)
    else if f.number == 2 then option_map (λ x. record r { created = x }) (varint_in f.value)
    else if f.number == 3 then option_map (λ x. record r { modified = x }) (varint_in f.value)
    else if f.number == 4 then option_map (λ x. record r { version = x }) (varint_in f.value)
    else if f.number == 5 then option_map (λ x. record r { value = x }) (bytes_in f.value)
    else if f.number == 6 then option_map (λ x. record r { lease = x }) (varint_in f.value)
    else Some r

abbrev pub with_all : RecordView → List Field → Option RecordView
with_all r [] = Some r
with_all r (f ∷ later) = with r f >>= λ next. with_all next later

-- the record that bytes are, if they are one
unfoldable pub record_of : List ℕ → Option RecordView
record_of bytes = fields bytes >>= with_all empty

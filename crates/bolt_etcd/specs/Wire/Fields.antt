-- The wire format of protocol buffers: a message is a list of fields, each a tag and a value.
use Rattle.std.specs.Prelude.{ℕ, zero, suc, ◌+◌, ◌*◌, ◌/◌, ◌%◌, ◌^◌, List, [], ◌∷◌, length, take, drop, Option, Some, None, nat_lt, ◌==◌}
use Rattle.std.specs.Prelude.{if◌then◌else◌}

infixl 10 ◌>>=◌
abbrev pub ◌>>=◌ : {A B : Type 0} → Option A → (A → Option B) → Option B
None >>= f = None
(Some x) >>= f = f x

-- What is read is a value and the bytes after it.
abbrev pub Read : Type 0 → Type 0
Read A = Option (A × List ℕ)

-- a number in at most n bytes: seven bits from each, the lowest first, ended by the first byte below 128
unfoldable pub varint_within : ℕ → List ℕ → Read ℕ
varint_within zero bytes = None
varint_within (suc n) [] = None
varint_within (suc n) (b ∷ bytes) = if nat_lt b 128 then Some (b, bytes) else do
  high ← varint_within n bytes
  Some (b % 128 + 128 * high.0, high.1)

-- a varint has at most ten bytes; bits above the 64th are dropped
unfoldable pub varint : List ℕ → Read ℕ
varint bytes = do
  n ← varint_within 10 bytes
  Some (n.0 % 2 ^ 64, n.1)

-- the first n bytes
abbrev pub first : ℕ → List ℕ → Read (List ℕ)
first n bytes = if nat_lt (length bytes) n then None else Some (take n bytes, drop n bytes)

pub data Value : Type 0 where
  Varint : ℕ → Value
  LengthDelimited : List ℕ → Value
  Fixed : Value

-- a value of a wire type: 0 is a varint, 1 eight bytes, 2 a varint and as many bytes as it says, 5 four bytes
unfoldable pub value : ℕ → List ℕ → Read Value
value wire_type bytes =
    if wire_type == 0 then (do
      n ← varint bytes
      Some (Varint n.0, n.1))
    else if wire_type == 1 then (do
      fixed ← first 8 bytes
      Some (Fixed, fixed.1))
    else if wire_type == 2 then (do
      n ← varint bytes
      text ← first n.0 n.1
      Some (LengthDelimited text.0, text.1))
    else if wire_type == 5 then (do
      fixed ← first 4 bytes
      Some (Fixed, fixed.1))
    else None

pub record Field : Type 0 where
  pub number : ℕ
  pub value : Value

-- a tag, which is the field's number, not 0, above the three bits of its wire type; and then its value
unfoldable pub field : List ℕ → Read Field
field bytes = do
  tag ← varint bytes
  if tag.0 / 8 == 0 then None else do
    v ← value (tag.0 % 8) tag.1
    Some (record { number = tag.0 / 8; value = v.0 }, v.1)

-- at most n fields, to the end of the bytes
abbrev pub fields_up_to : ℕ → List ℕ → Option (List Field)
fields_up_to n [] = Some []
fields_up_to zero (b ∷ bytes) = None
fields_up_to (suc n) (b ∷ bytes) = do
  f ← field (b ∷ bytes)
  later ← fields_up_to n f.1
  Some (f.0 ∷ later)

-- the fields of a message; each takes a byte at least
abbrev pub fields : List ℕ → Option (List Field)
fields bytes = fields_up_to (length bytes) bytes

-- the first field, and the fields of the bytes after it
abbrev pub field_and_later : List ℕ → Option (List Field)
field_and_later bytes = do
  f ← field bytes
  later ← fields f.1
  Some (f.0 ∷ later)

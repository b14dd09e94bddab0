-- The header at the start of a page: docs/FORMAT.md, "Page header".
use Rattle.std.specs.Prelude.{◌==◌, ℕ, List, Option, Some, None, if◌then◌else◌}
use Rattle.bolt_format.specs.{Bytes.number_at, declared.header.Kind.Kind}
use Rattle.bolt_format.specs.declared.header.Kind.TheVariants as kind

-- the fields of the header in the first 16 bytes
abbrev pub id_field : List ℕ → ℕ
id_field bytes = number_at bytes 0 8

abbrev pub flags_field : List ℕ → ℕ
flags_field bytes = number_at bytes 8 2

abbrev pub count_field : List ℕ → ℕ
count_field bytes = number_at bytes 10 2

abbrev pub overflow_field : List ℕ → ℕ
overflow_field bytes = number_at bytes 12 4

-- flags are exactly one of four
abbrev pub flags_of : Kind → ℕ
flags_of kind.Branch = 0x01
flags_of kind.Leaf = 0x02
flags_of kind.Meta = 0x04
flags_of kind.Freelist = 0x10

abbrev pub kind_of : ℕ → Option Kind
kind_of flags =
    if flags == flags_of kind.Branch then Some kind.Branch
    else (if flags == flags_of kind.Leaf then Some kind.Leaf
    else (if flags == flags_of kind.Meta then Some kind.Meta
    else (if flags == flags_of kind.Freelist then Some kind.Freelist
    else None)))

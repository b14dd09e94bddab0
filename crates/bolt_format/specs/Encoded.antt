-- The bytes of headers, of the head of a bucket's value and of a meta page, as they are written. Each part directly follows the preceding
-- one: docs/FORMAT.md, "Page header", "Elements", "Buckets" and "Meta pages".
use Rattle.std.specs.Prelude.{ℕ, List, ◌++◌, Bool, if◌then◌else◌}
use Rattle.byteorder.specs.Endian.{little_bytes}
use Rattle.bolt_format.specs.{Bytes.fnv_of, Headers.flags_of, Metas.magic, Metas.version, declared.header.Kind.Kind, declared.meta.Meta.Meta}
use Rattle.bolt_format.specs.declared.header.Kind.TheVariants as kind

-- a number in n bytes, the lowest first
unfoldable pub number_bytes : ℕ → ℕ → List ℕ
number_bytes n x = little_bytes n x

unfoldable pub header_bytes : (number : ℕ) → Kind → (count overflow : ℕ) → List ℕ
header_bytes number kind count overflow =
    number_bytes 8 number ++ (number_bytes 2 (flags_of kind) ++ (number_bytes 2 count ++ number_bytes 4 overflow))

-- the header of an element: `pos` is the distance from its own start to its key, and `key` and `value` are lengths
unfoldable pub branch_header : (pos key child : ℕ) → List ℕ
branch_header pos key child = number_bytes 4 pos ++ (number_bytes 4 key ++ number_bytes 8 child)

abbrev pub leaf_flag : Bool → ℕ
leaf_flag is_bucket = if is_bucket then 1 else 0

unfoldable pub leaf_header : (is_bucket : Bool) → (pos key value : ℕ) → List ℕ
leaf_header is_bucket pos key value =
    number_bytes 4 (leaf_flag is_bucket) ++ (number_bytes 4 pos ++ (number_bytes 4 key ++ number_bytes 4 value))

-- the first bytes of a bucket's value
unfoldable pub head_bytes : (root sequence : ℕ) → List ℕ
head_bytes root sequence = number_bytes 8 root ++ number_bytes 8 sequence

-- the record of a meta, to its checksum
unfoldable pub meta_record : Meta → List ℕ
meta_record meta =
    number_bytes 4 magic
    ++ (number_bytes 4 version
    ++ (number_bytes 4 meta.page_size
    ++ (number_bytes 4 0
    ++ (number_bytes 8 meta.root
    ++ (number_bytes 8 meta.root_sequence
    ++ (number_bytes 8 meta.freelist
    ++ (number_bytes 8 meta.high_water
    ++ number_bytes 8 meta.txid)))))))

-- what is on a meta page before its zeros
unfoldable pub meta_bytes : (number : ℕ) → Meta → List ℕ
meta_bytes number meta = header_bytes number kind.Meta 0 0 ++ (meta_record meta ++ number_bytes 8 (fnv_of (meta_record meta)))

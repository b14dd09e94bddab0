-- The meta that is assumed if a file has none that is valid: docs/RECOVERY.md, "An assumed meta".
use Rattle.std.specs.Prelude.{ℕ}
use Rattle.std.specs.Int.{div_ceil}
use Rattle.bolt_format.specs.{declared.meta.Meta.Meta, declared.meta.TheConstants.NO_FREELIST}

-- an assumed meta: the page size and root page, no freelist, and as high-water mark the number of pages that begin in the file
abbrev pub assumed_meta : (file_len page_size root : ℕ) → Meta
assumed_meta file_len page_size root = record {
  page_size = page_size;
  root = root;
  root_sequence = 0;
  freelist = NO_FREELIST;
  high_water = div_ceil file_len page_size;
  txid = 0;
}

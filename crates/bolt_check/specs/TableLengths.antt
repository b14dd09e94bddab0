-- How long the table of pages is: docs/RECOVERY.md, "The recovering walk".
use Rattle.std.specs.Prelude.{ℕ, ◌/◌, List, length, min}
use Rattle.bolt_format.specs.declared.meta.Meta.{Meta}

-- the table of pages has a place for each page that lies whole in the file and below the mark
abbrev pub table_length : List ℕ → Meta → ℕ
table_length file meta = min (length file / meta.page_size) meta.high_water

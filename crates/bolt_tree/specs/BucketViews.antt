-- A bucket as contracts see it: the file, the meta that it is read under, and where the bucket's tree begins.
use Rattle.std.specs.Prelude.{ℕ, List}
use Rattle.bolt_format.specs.{Elements.LeafElement, declared.meta.Meta.Meta}
use Rattle.bolt_check.specs.{CheckedFiles.bytes_of, CheckedFiles.meta_of, declared.checked.Checked.Checked}
use Rattle.bolt_tree.specs.Entries.{AreEntries, IsEntry, Start}

pub record BucketView : Type 0 where
  pub file : List ℕ
  pub meta : Meta
  pub start : Start

-- a bucket of a checked file
abbrev pub bucket_in : Checked → Start → BucketView
bucket_in checked start = record { file = bytes_of checked; meta = meta_of checked; start = start }

-- the entries of the buckets of a checked file
abbrev pub entries_of : Checked → Start → LeafElement → Type 0
entries_of checked = IsEntry (bytes_of checked) (meta_of checked)

-- the list is that of the entries of the bucket, in order
abbrev pub AreEntriesOf : BucketView → List LeafElement → Type 0
AreEntriesOf b entries = AreEntries (IsEntry b.file b.meta) b.start entries

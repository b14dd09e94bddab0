-- What a bucket of the code shows.
use Rattle.std.specs.Prelude.{ℕ}
use Rattle.bolt_check.specs.declared.checked.Checked.{Checked}
use Rattle.bolt_tree.specs.{Entries.Start, Starts.start_at, declared.bucket.Bucket.Bucket}

unfoldable pub bucket_checked : Bucket → Checked
bucket_checked bucket = bucket.checked

unfoldable pub bucket_start : Bucket → Start
bucket_start bucket = start_at bucket.at

unfoldable pub bucket_sequence : Bucket → ℕ
bucket_sequence bucket = bucket.sequence

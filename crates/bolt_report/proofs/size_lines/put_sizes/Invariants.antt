use Rattle.std.proofs.Common.{◌≡◌, List, length}
use Rattle.bolt_report.proofs.Words.{AreSized, bucket_checked, bucket_start, bytes_of, cursor_checked, cursor_place, cursor_start, entries_left}
use Rattle.bolt_report.proofs.Words.{ForEntries, meta_of, Sized, sizes_text, the_entries, WroteFront}
use Rattle.bolt_report.proofs.size_lines.put_sizes.Given as goal

-- of the text of all buckets, the text of those that are left is still to be written
abbrev pub invariant-rest : goal.invariant-rest
invariant-rest g l = record {
  checked : cursor_checked l.cursor ≡ bucket_checked l.bucket;
  start : cursor_start l.cursor ≡ bucket_start l.bucket;
  form : l.items.form ≡ l.fn.form;
  put : ForEntries (bucket_checked l.bucket) (bucket_start l.bucket) (λ entries. (sized : List Sized)
      → AreSized (bytes_of (bucket_checked l.bucket)) (meta_of (bucket_checked l.bucket)) entries sized → (rest : List Sized)
      × AreSized (bytes_of (bucket_checked l.bucket)) (meta_of (bucket_checked l.bucket)) (entries_left entries (cursor_place l.cursor)) rest
      × WroteFront g.S.Sink l.initial.sink l.sink (sizes_text l.fn.form sized) (sizes_text l.fn.form rest));
}

abbrev pub decreases-rest : goal.decreases-rest
decreases-rest g l = length (entries_left (the_entries l.bucket).0 (cursor_place l.cursor))

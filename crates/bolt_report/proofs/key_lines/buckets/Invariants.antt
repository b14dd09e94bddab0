use Rattle.std.proofs.Common.{◌≡◌, flat_map, length}
use Rattle.bolt_report.proofs.Words.{bucket_checked, bucket_name, bucket_start, cursor_checked, cursor_place, cursor_start, entries_left, ForEntries}
use Rattle.bolt_report.proofs.Words.{the_entries, WroteFront}
use Rattle.bolt_report.proofs.key_lines.buckets.Given as goal

-- of the text of all entries, the text of those that are left is still to be written
abbrev pub invariant-rest : goal.invariant-rest
invariant-rest g l = record {
  checked : cursor_checked l.cursor ≡ bucket_checked l.bucket;
  start : cursor_start l.cursor ≡ bucket_start l.bucket;
  form : l.items.form ≡ l.fn.form;
  put : ForEntries (bucket_checked l.bucket) (bucket_start l.bucket)
      (λ entries. WroteFront g.S.Sink l.initial.sink l.sink (flat_map (bucket_name l.fn.form) entries)
      (flat_map (bucket_name l.fn.form) (entries_left entries (cursor_place l.cursor))));
}

abbrev pub decreases-rest : goal.decreases-rest
decreases-rest g l = length (entries_left (the_entries l.bucket).0 (cursor_place l.cursor))

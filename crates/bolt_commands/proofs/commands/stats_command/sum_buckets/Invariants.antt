use Rattle.std.proofs.Common.{◌≡◌, length}
use Rattle.bolt_commands.proofs.Vocabulary.{ForEntries, IsTotal, Stats, bucket_checked, bucket_start, bytes_of, cursor_checked, cursor_place}
use Rattle.bolt_commands.proofs.Vocabulary.{cursor_start, entries_left, meta_of, no_stats, the_entries}
use Rattle.bolt_commands.proofs.commands.stats_command.sum_buckets.Given as goal

-- what the figures so far and the entries that are left come to, all entries do
abbrev pub invariant-rest : goal.invariant-rest
invariant-rest l = record {
  checked : cursor_checked l.cursor ≡ bucket_checked l.bucket;
  start : cursor_start l.cursor ≡ bucket_start l.bucket;
  sum : ForEntries (bucket_checked l.bucket) (bucket_start l.bucket) (λ entries. (total : Stats)
      → ∥ IsTotal (bytes_of (bucket_checked l.bucket)) (meta_of (bucket_checked l.bucket)) (entries_left entries (cursor_place l.cursor)) l.total total ∥₁
      → ∥ IsTotal (bytes_of (bucket_checked l.bucket)) (meta_of (bucket_checked l.bucket)) entries no_stats total ∥₁);
}

abbrev pub decreases-rest : goal.decreases-rest
decreases-rest l = length (entries_left (the_entries l.bucket).0 (cursor_place l.cursor))

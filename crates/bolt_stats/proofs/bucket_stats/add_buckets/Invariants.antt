use Rattle.std.proofs.Common.{◌≡◌, ◌+◌, ◌⊎◌, ℕ, max, sum_by, vec_len}
use Rattle.bolt_stats.proofs.Words.{greatest, Has, roots_of, unread_bucket, UnreadBucket}
use Rattle.bolt_stats.proofs.bucket_stats.add_buckets.Given as goal

-- what is open and what is left are the whole
abbrev pub invariant-roots : goal.invariant-roots
invariant-roots l = record {
  sums : (w : ℕ → ℕ)
      → sum_by w (roots_of l.buckets.items) + sum_by w l.roots.items ≡ sum_by w (roots_of l.initial.buckets.items) + sum_by w l.initial.roots.items;
  from : (m : ℕ) → Has (roots_of l.buckets.items) m ⊎ Has l.roots.items m → Has (roots_of l.initial.buckets.items) m ⊎ Has l.initial.roots.items m;
  deepest : (f : UnreadBucket → ℕ) → max (greatest f l.buckets.items) (greatest (λ (root : ℕ). f (unread_bucket l.above root)) l.roots.items)
      ≡ max (greatest f l.initial.buckets.items) (greatest (λ (root : ℕ). f (unread_bucket l.above root)) l.initial.roots.items);
}

abbrev pub decreases-roots : goal.decreases-roots
decreases-roots l = vec_len l.roots

-- The buckets that wait while one within them is open, as the code keeps them.
use Rattle.std.specs.Prelude.{◌≡◌, ◌≤◌, ◌+◌, ℕ, true, length}
use Rattle.bolt_bulk.specs.{Private.FormatLimits.longest_key, Private.OpenBuckets.IsOpenBucket, Private.OpenBuckets.leaf_run_view}
use Rattle.bolt_bulk.specs.{Private.RunViews.leaves_have_room, declared.waiting_bucket.WaitingBucket.WaitingBucket}

-- a waiting bucket has room for the bucket that it waits for
pub record IsWaiting (page_size : ℕ) (waiting : WaitingBucket) : Type 0 where
  pub bucket : IsOpenBucket waiting.bucket
  pub key : length waiting.key.now ≤ longest_key
  pub room : leaves_have_room page_size (leaf_run_view waiting.bucket.leaves) (32 + length waiting.key.now) ≡ true

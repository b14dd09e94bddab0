use Rattle.std.proofs.Common.{◌≡◌, ◌<◌, ◌^◌, length, max}
use Rattle.std.specs.Option.{option_map}
use Rattle.bolt_check.specs.Counts.{counted}
use Rattle.bolt_tree.specs.{Buckets.bucket_checked, Buckets.bucket_start, EntriesLeft.ForBucket}
use Rattle.bolt_etcd.specs.{Store.CurrentKeys.nameless_key, Wire.Numbered.numbered, Store.Statuses.newest_main, Store.Stores.revisions}
use Rattle.bolt_etcd.specs.Store.RevisionsLeft.{ahead_of, number_ahead, pass_checked, pass_start}
use Rattle.bolt_etcd.proofs.CountedNumbers.{nameless_after}
use Rattle.bolt_etcd.proofs.store.status.Numbers.count.Given as goal

-- what is known so far, and the entries ahead, give what is known of all
abbrev pub invariant-rest : goal.invariant-rest
invariant-rest l = record {
  checked : pass_checked l.pass ≡ bucket_checked l.bucket;
  start : pass_start l.pass ≡ bucket_start l.bucket;
  fits : l.numbers.revisions < 2 ^ 64;
  newest : ForBucket l.bucket (λ entries. max l.numbers.newest (newest_main (numbered (ahead_of l.pass entries))) ≡ newest_main (numbered entries));
  revisions : ForBucket l.bucket
      (λ entries. counted l.numbers.revisions (length (revisions (ahead_of l.pass entries))) ≡ counted 0 (length (revisions entries)));
  nameless : ForBucket l.bucket
      (λ entries. nameless_after l.up_to (option_map (λ key. key.now) l.numbers.nameless) (numbered (ahead_of l.pass entries))
      ≡ nameless_key l.up_to (numbered entries));
}

abbrev pub decreases-rest : goal.decreases-rest
decreases-rest l = number_ahead l.pass

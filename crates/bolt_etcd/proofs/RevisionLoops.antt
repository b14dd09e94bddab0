-- A loop over the revisions of a bucket.
use Rattle.std.proofs.Common.{◌≡◌, ◌∙◌, ◌<◌, ◌^◌, ℕ, List, length, Option, None, ap, arith}
use Rattle.bolt_check.specs.Counts.{counted}
use Rattle.bolt_format.specs.Elements.{LeafElement}
use Rattle.bolt_tree.specs.{Buckets.bucket_checked, Buckets.bucket_start, declared.bucket.Bucket.Bucket, EntriesLeft.ForBucket}
use Rattle.bolt_etcd.specs.{Wire.Revisions.RevisionView, Store.Stores.unread_elements}
use Rattle.bolt_etcd.specs.Store.RevisionsLeft.{CountsUnread, ForPass, GivesFirst, ahead_of, pass_checked, pass_unread, pass_start}
use Rattle.bolt_etcd.specs.declared.store.revisions.Revisions.{Revisions}
use Rattle.bolt_etcd.proofs.RevisionSteps.{moved_to}

-- the pass is over this bucket, and has counted the entries that it has gone over
pub record Passed (bucket : Bucket) (pass : Revisions) : Type 0 where
  pub checked : pass_checked pass ≡ bucket_checked bucket
  pub start : pass_start pass ≡ bucket_start bucket
  pub counts : ForBucket bucket (λ entries. CountsUnread entries (ahead_of pass entries) 0 (pass_unread pass))

module _ (bucket : Bucket) (here next : Revisions) (x : Option RevisionView) (passed : Passed bucket here)
    (given : ForPass here (λ entries. GivesFirst (ahead_of here entries) (ahead_of next entries) x))
    (counts : ForPass here (λ entries. CountsUnread (ahead_of here entries) (ahead_of next entries) (pass_unread here) (pass_unread next))) where
  pub given_in : ForBucket bucket (λ entries. GivesFirst (ahead_of here entries) (ahead_of next entries) x)
  given_in = moved_to _ _ _ _ (λ entries. GivesFirst (ahead_of here entries) (ahead_of next entries) x) passed.checked passed.start given

  counts_in : ForBucket bucket (λ entries. CountsUnread (ahead_of here entries) (ahead_of next entries) (pass_unread here) (pass_unread next))
  counts_in =
      moved_to _ _ _ _ (λ entries. CountsUnread (ahead_of here entries) (ahead_of next entries) (pass_unread here) (pass_unread next)) passed.checked
      passed.start counts

  pub passed_more : pass_checked next ≡ pass_checked here → pass_start next ≡ pass_start here → Passed bucket next
  passed_more checked start = record {
    checked = checked ∙ passed.checked;
    start = start ∙ passed.start;
    counts = λ entries are. counts_in entries are ∙ passed.counts entries are;
  }

  -- at its end it has counted all of them
  pub counted_all : (n : ℕ) → x ≡ None → n ≡ pass_unread next → n < 2 ^ 64 → ForBucket bucket (λ entries. n ≡ counted 0 (length (unread_elements entries)))
  counted_all n none is fits = λ entries are.
      let (no_more, end) = rw none at (given_in entries are) in
      let all = counts_in entries are ∙ passed.counts entries are in
      let last = ap (λ (es : List LeafElement). counted (pass_unread next) (length (unread_elements es))) end in
      let small : n ≡ counted n 0 = omega arith in
      small ∙ ap (λ (k : ℕ). counted k 0) is ∙ omega (arith, last, all)

-- What is promised of an order by name, or of the keys that there are, is promised for each list of them; there is exactly one (`laws`).
use Rattle.std.specs.Prelude.{ℕ, List, Option, map, Bool, false, None, Some}
use Rattle.bolt_lemmas.specs.Order.{Rises}
use Rattle.bolt_tree.specs.{declared.bucket.Bucket.Bucket, EntriesLeft.ForBucket}
use Rattle.bolt_etcd.specs.{Store.Current.AreCurrent, Check.NameFaults.AreByName, Store.Newest.until}
use Rattle.bolt_etcd.specs.Store.Orders.{stored_key_cmp}
use Rattle.bolt_etcd.specs.{Wire.Revisions.RevisionView, Wire.ShownRevisions.shown_revision}
use Rattle.bolt_etcd.specs.{Check.StoreFaults.name_lines, Store.Stores.revisions, declared.wire.revision.Revision.Revision}
use Rattle.bolt_etcd.specs.Check.NameFaults.{has_lease}

-- a property holds of the leases that are there; without a bucket of leases there is none
abbrev pub ForGranted : Option Bucket → ((ℕ → Bool) → Type 0) → Type 0
ForGranted None P = P (λ lease. false)
ForGranted (Some leases) P = ForBucket leases (λ entries. P (has_lease entries))

-- a property holds of the lines of revisions, name by name, with these leases, if the revisions are in the order of their keys
abbrev pub ForNameLines : List Revision → (compacted : Option ℕ) → (leases : Option Bucket) → (List (List ℕ) → Type 0) → Type 0
ForNameLines found compacted leases P =
    Rises stored_key_cmp (map shown_revision found)
    → ForGranted leases (λ granted. (by_name : List RevisionView) → AreByName (map shown_revision found) by_name → P (name_lines compacted granted by_name))

-- a property holds of the current keys of a bucket at a transaction
abbrev pub ForCurrent : Bucket → (up_to : ℕ) → (List RevisionView → Type 0) → Type 0
ForCurrent bucket up_to P = ForBucket bucket (λ entries. (current : List RevisionView) → AreCurrent (until up_to (revisions entries)) current → P current)

-- revisions are the current keys of a bucket at a transaction
abbrev pub AreCurrentAt : Bucket → (up_to : ℕ) → List RevisionView → Type 0
AreCurrentAt bucket up_to rs = ForBucket bucket (λ entries. AreCurrent (until up_to (revisions entries)) rs)

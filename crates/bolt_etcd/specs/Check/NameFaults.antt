-- What is missing of the names of a store. The revisions are looked at by rising name, and of one name in their order: each must follow
-- the one before it of its name, and the lease of the newest one must be there.
use Rattle.std.specs.Prelude.{ℕ, ◌==◌, ◌&&◌, ◌||◌, Bool, true, false, List, [], ◌∷◌, not, Option, Some, None, if◌then◌else◌}
use Rattle.std.specs.{Int.to_be_bytes, Int.w64, List.list_any, List.Sorted.IsPermutation, List.Sorted.IsSortedBy, Ordering.is_lt}
use Rattle.std.specs.{Ordering.ordering_then, Str.bytes_eq, declared.cmp.Ordering.Ordering}
use Rattle.bolt_format.specs.Elements.{LeafElement}
use Rattle.bolt_etcd.specs.{Check.Follows.follows, Check.MissingNumbers.is_of_later}
use Rattle.bolt_etcd.specs.Store.Orders.{name_cmp, stored_key_cmp}
use Rattle.bolt_etcd.specs.{Store.Newest.is_named, Wire.Revisions.RevisionView, Wire.Revisions.name_of}

-- revisions are ordered by name, and those of one name by their stored keys
abbrev pub by_name_cmp : RevisionView → RevisionView → Ordering
by_name_cmp a b = ordering_then (name_cmp a b) (stored_key_cmp a b)

-- `sorted` has the revisions `rs` by name, and those of one name in their order
pub record AreByName (rs sorted : List RevisionView) : Type 0 where
  pub same : IsPermutation rs sorted
  pub rises : IsSortedBy (λ a b. is_lt (by_name_cmp a b)) sorted

-- whether a bucket has a value under the lease's number in eight bytes, if these are its entries
abbrev pub is_lease : ℕ → LeafElement → Bool
is_lease lease e = bytes_eq e.key (to_be_bytes w64 lease) && not e.is_bucket

abbrev pub has_lease : List LeafElement → ℕ → Bool
has_lease entries lease = list_any (is_lease lease) entries

-- the revision before this one, if it is of the same name
abbrev pub before_of : Option RevisionView → RevisionView → Option RevisionView
before_of None r = None
before_of (Some before) r = if is_named (name_of r) before then Some before else None

-- whether a revision doesn't follow the one before it. Without the transaction of the last compaction nobody knows
abbrev pub lacks_one_before : Option ℕ → Option RevisionView → RevisionView → Bool
lacks_one_before None before r = false
lacks_one_before (Some compacted) before r = is_of_later compacted r && not (follows (before_of before r) r)

-- whether a revision is the newest of its name, if these come next
abbrev pub is_newest : RevisionView → List RevisionView → Bool
is_newest r [] = true
is_newest r (next ∷ later) = not (is_named (name_of r) next)

-- whether a revision has a lease that isn't there
abbrev pub lacks_lease : (ℕ → Bool) → RevisionView → Bool
lacks_lease granted r = not (r.content.lease == 0) && not (granted r.content.lease)

-- what is missing of a revision
pub record NameFaultView : Type 0 where
  pub revision : RevisionView
  pub one_before : Bool
  pub lease : Bool

abbrev pub fault_of : Option ℕ → (ℕ → Bool) → Option RevisionView → RevisionView → List RevisionView → NameFaultView
fault_of compacted granted before r later =
    record { revision = r; one_before = lacks_one_before compacted before r; lease = is_newest r later && lacks_lease granted r }

-- the faults of revisions of which anything is missing, if revision `before` comes before the first of them
abbrev pub name_faults : Option ℕ → (ℕ → Bool) → Option RevisionView → List RevisionView → List NameFaultView
name_faults compacted granted before [] = []
name_faults compacted granted before (r ∷ later) =
    let fault = fault_of compacted granted before r later in
    if fault.one_before || fault.lease then fault ∷ name_faults compacted granted (Some r) later else name_faults compacted granted (Some r) later

-- The orders of names and of revisions: by name, by stored key, and by the sums of names. Those of one name stand together by the sums too, and that
-- order mostly looks at no name.
use Rattle.std.specs.Prelude.{◌/◌, ◌^◌, ℕ, List}
use Rattle.std.specs.{List.Sorted.IsPermutation, List.Sorted.IsSortedBy, Ordering.is_lt, Ordering.nat_cmp, Ordering.ordering_then}
use Rattle.std.specs.{declared.cmp.Ordering.Ordering}
use Rattle.bolt_format.specs.Bytes.{fnv_of}
use Rattle.bolt_check.specs.Keys.{key_cmp}
use Rattle.bolt_etcd.specs.Wire.Revisions.{RevisionView, name_of}

abbrev pub name_cmp : RevisionView → RevisionView → Ordering
name_cmp a b = key_cmp (name_of a) (name_of b)

abbrev pub stored_key_cmp : RevisionView → RevisionView → Ordering
stored_key_cmp a b = key_cmp a.stored_key b.stored_key

-- the upper 40 bits of the checksum of a name
abbrev pub name_sum : List ℕ → ℕ
name_sum name = fnv_of name / 2 ^ 24

-- names are ordered by their sums, and then as bytes
abbrev pub sums_cmp : List ℕ → List ℕ → Ordering
sums_cmp a b = ordering_then (nat_cmp (name_sum a) (name_sum b)) (key_cmp a b)

-- revisions are ordered by the sums of their names, and those of one sum by name
abbrev pub name_sum_cmp : RevisionView → RevisionView → Ordering
name_sum_cmp a b = sums_cmp (name_of a) (name_of b)

-- revisions are ordered by the sums of names, and those of one name by their stored keys
abbrev pub by_sum_cmp : RevisionView → RevisionView → Ordering
by_sum_cmp a b = ordering_then (name_sum_cmp a b) (stored_key_cmp a b)

-- revisions are ordered by the sums of names, and of one name the later ones come first
abbrev pub newest_by_sum_cmp : RevisionView → RevisionView → Ordering
newest_by_sum_cmp a b = ordering_then (name_sum_cmp a b) (stored_key_cmp b a)

-- `sorted` has the revisions `rs` in an order
pub record AreSortedBy (cmp : RevisionView → RevisionView → Ordering) (rs sorted : List RevisionView) : Type 0 where
  pub same : IsPermutation rs sorted
  pub rises : IsSortedBy (λ a b. is_lt (cmp a b)) sorted

abbrev pub AreBySum : List RevisionView → List RevisionView → Type 0
AreBySum rs sorted = AreSortedBy by_sum_cmp rs sorted

abbrev pub AreNewestBySum : List RevisionView → List RevisionView → Type 0
AreNewestBySum rs sorted = AreSortedBy newest_by_sum_cmp rs sorted

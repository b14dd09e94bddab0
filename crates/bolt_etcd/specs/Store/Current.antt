-- Which keys there are, and what each is: the newest revision of each name, if that isn't a deletion.
use Rattle.std.specs.Prelude.{◌≡◌, ◌≢◌, ◌↔◌, Bool, false, List, Some, not}
use Rattle.std.specs.{List.Contains, declared.cmp.Ordering.TheVariants.Less}
use Rattle.bolt_lemmas.specs.Order.{Rises}
use Rattle.bolt_etcd.specs.{Store.Newest.newest, Wire.Revisions.RevisionView, Wire.Revisions.name_of}
use Rattle.bolt_etcd.specs.Store.Orders.{name_cmp, name_sum_cmp, stored_key_cmp}

-- r is the newest revision of its name, and its key is there
abbrev pub IsCurrent : List RevisionView → RevisionView → Type 0
IsCurrent rs r = (newest (name_of r) rs ≡ Some r) × (r.key.deleted ≡ false)

-- `current` has exactly the revisions of `rs` that are current, by rising name
pub record AreCurrent (rs current : List RevisionView) : Type 0 where
  pub rises : Rises name_cmp current
  pub exact : (r : RevisionView) → Contains current r ↔ IsCurrent rs r

-- no two of the revisions `rs` are under one key
abbrev pub HaveOwnKeys : List RevisionView → Type 0
HaveOwnKeys rs = (a b : RevisionView) → Contains rs a → Contains rs b → a.stored_key ≡ b.stored_key → a ≡ b

-- r is a revision of `rs` and no deletion, and no revision of its name in `rs` is later
pub record IsCurrentAmong (rs : List RevisionView) (r : RevisionView) : Type 0 where
  pub has : Contains rs r
  pub there : r.key.deleted ≡ false
  pub last : (other : RevisionView) → Contains rs other → name_of other ≡ name_of r → stored_key_cmp r other ≢ Less

-- `found` has exactly the newest revision of each name in `rs`, if that isn't a deletion, by the sums of names
pub record AreCurrentBySum (rs found : List RevisionView) : Type 0 where
  pub rises : Rises name_sum_cmp found
  pub exact : (r : RevisionView) → Contains found r ↔ IsCurrentAmong rs r

abbrev pub is_there : RevisionView → Bool
is_there r = not r.key.deleted

-- exactly one list of revisions has the property `Is`
abbrev pub IsOne : (List RevisionView → Type 0) → Type 0
IsOne Is = (rs : List RevisionView) × Is rs × ((other : List RevisionView) → Is other → other ≡ rs)

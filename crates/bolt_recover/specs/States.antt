-- The states of a file, and what is left of each: docs/RECOVERY.md, "States".
use Rattle.std.specs.Prelude.{◌≡◌, ◌≢◌, ◌==◌, ◌&&◌, ◌≤◌, ◌<◌, ◌↔◌, ◌⊎◌, ◌+◌, ◌*◌, ◌-◌, ◌^◌, ℕ, Bool, true, false, List, [], ◌∷◌, Contains, length}
use Rattle.std.specs.Prelude.{min}
use Rattle.std.specs.{List.count_by, List.flat_map, List.Sorted.IsSortedBy, Ordering.is_lt, Ordering.nat_cmp, Ordering.ordering_then}
use Rattle.std.specs.{declared.cmp.Ordering.Ordering}
use Rattle.bolt_check.specs.{Counts.saturated, Keys.Key, declared.finding.Finding.Finding}
use Rattle.bolt_format.specs.{Assumed.assumed_meta, Metas.IsInSlot, declared.meta.Meta.Meta, declared.meta.Slot.Slot}
use Rattle.bolt_tree.specs.{Entries.Bucket, Entries.Value, Listing.Member, Paths.last_key}
use Rattle.bolt_recover.specs.{Recovered.ForRecovered, Recoveries.ForLosses, Refusals.KeepsRoot, Refusals.LosesRoot}

-- ---- what a listing has

-- the name of a bucket in the root bucket
abbrev pub root_bucket : Member → List Key
root_bucket (name ∷ [], Bucket sequence) = name ∷ []
root_bucket _ = []

-- the names of the buckets in the root bucket, in order
abbrev pub root_buckets : List Member → List Key
root_buckets listing = flat_map root_bucket listing

abbrev pub is_bucket_member : Member → Bool
is_bucket_member (path, Bucket sequence) = true
is_bucket_member (path, Value value) = false

abbrev pub is_value_member : Member → Bool
is_value_member (path, Bucket sequence) = false
is_value_member (path, Value value) = true

abbrev pub is_root_value : Member → Bool
is_root_value (key ∷ [], Value value) = true
is_root_value _ = false

-- the first of some names; no bytes if there is none
abbrev pub first_name : List Key → Key
first_name [] = []
first_name (name ∷ names) = name

-- a count of losses or of buckets: at most 2^32 - 1
abbrev pub counted32 : ℕ → ℕ
counted32 n = min n (2 ^ 32 - 1)

-- The figures of a listing: how many buckets the root bucket has, and the first and the last of their names; how many buckets there are in all, and
-- how many values. Counts of buckets are at most 2^32 - 1, that of values 2^64 - 1.
pub record FiguresView : Type 0 where
  pub buckets : ℕ
  pub first : Key
  pub last : Key
  pub all_buckets : ℕ
  pub values : ℕ

abbrev pub figures_of : List Member → FiguresView
figures_of listing = record {
  buckets = counted32 (length (root_buckets listing));
  first = first_name (root_buckets listing);
  last = last_key (root_buckets listing);
  all_buckets = counted32 (count_by is_bucket_member listing);
  values = saturated (count_by is_value_member listing);
}

-- ---- the states

-- A page size and a root page; what the file holds under them is read under the meta that is assumed of it.
pub record PlaceView : Type 0 where
  pub page_size : ℕ
  pub root : ℕ

abbrev pub meta_at : List ℕ → PlaceView → Meta
meta_at file place = assumed_meta (length file) place.page_size place.root

-- the root page of a valid meta
abbrev pub IsMetaRoot : List ℕ → PlaceView → Type 0
IsMetaRoot file place = (slot : Slot) × (meta : Meta) × IsInSlot file slot meta × (place ≡ record { page_size = meta.page_size; root = meta.root })

-- what is recovered under this meta has a bucket in the root bucket and no value there
abbrev pub HasBucketsAlone : List ℕ → Meta → Type 0
HasBucketsAlone file meta =
    KeepsRoot file meta × ForRecovered file meta (λ listing. (root_buckets listing ≢ []) × (count_by is_root_value listing ≡ 0))

-- A page from page 2 to the last one that begins in the file, which may be the root page of a state
abbrev pub IsRootPage : List ℕ → ℕ → PlaceView → Type 0
IsRootPage file page_size place =
    (place.page_size ≡ page_size) × (2 ≤ place.root) × (place.root * page_size < length file) × HasBucketsAlone file (meta_at file place)

-- The root page of a valid meta is that of a state, whatever is left of it; so is each page of this size that has buckets alone.
abbrev pub IsState : List ℕ → (page_size : ℕ) → PlaceView → Type 0
IsState file page_size place = IsMetaRoot file place ⊎ IsRootPage file page_size place

-- ---- what is reported of a state

-- A state whose root page is kept, with the number of losses, at most 2^32 - 1, and the figures of what is recovered.
pub record StateView : Type 0 where
  pub place : PlaceView
  pub losses : ℕ
  pub figures : FiguresView

pub record IsKept (file : List ℕ) (s : StateView) : Type 0 where
  pub root : KeepsRoot file (meta_at file s.place)
  pub losses : ForLosses file (meta_at file s.place) (λ losses. s.losses ≡ counted32 (length losses))
  pub figures : ForRecovered file (meta_at file s.place) (λ listing. s.figures ≡ figures_of listing)

-- the root page is lost, and everything with it
abbrev pub IsLost : List ℕ → PlaceView → Type 0
IsLost file place = ∥ ((x : Finding) × LosesRoot file (meta_at file place) x) ∥₁

-- the number of entries: values and buckets
abbrev pub entries_in_figures : FiguresView → ℕ
entries_in_figures f = saturated (f.values + f.all_buckets)

abbrev pub place_cmp : PlaceView → PlaceView → Ordering
place_cmp a b = ordering_then (nat_cmp a.page_size b.page_size) (nat_cmp a.root b.root)

-- fewer losses come first, then more entries, then smaller page sizes and page numbers
abbrev pub state_cmp : StateView → StateView → Ordering
state_cmp a b =
    ordering_then (nat_cmp a.losses b.losses)
    (ordering_then (nat_cmp (entries_in_figures b.figures) (entries_in_figures a.figures)) (place_cmp a.place b.place))

abbrev pub is_place : PlaceView → PlaceView → Bool
is_place a b = (a.page_size == b.page_size) && (a.root == b.root)

-- exactly those of which this holds, and at most one at each place
pub record AreExactly {X : Type 0} (at : X → PlaceView) (Is : X → Type 0) (xs : List X) : Type 0 where
  pub exact : (x : X) → Contains xs x ↔ Is x
  pub once : (place : PlaceView) → count_by (λ x. is_place place (at x)) xs ≤ 1

-- The states of a file: those whose root page is kept, and the places of those whose root page is lost. Each is there once, in order.
pub record AreStates (file : List ℕ) (page_size : ℕ) (kept : List StateView) (lost : List PlaceView) : Type 0 where
  pub kept_are : AreExactly (λ (s : StateView). s.place) (λ s. IsState file page_size s.place × IsKept file s) kept
  pub kept_sorted : IsSortedBy (λ a b. is_lt (state_cmp a b)) kept
  pub lost_are : AreExactly (λ (place : PlaceView). place) (λ place. IsState file page_size place × IsLost file place) lost
  pub lost_sorted : IsSortedBy (λ a b. is_lt (place_cmp a b)) lost

-- there is a state at this place
abbrev pub IsAmong : (kept : List StateView) → (lost : List PlaceView) → PlaceView → Type 0
IsAmong kept lost place = ((s : StateView) × Contains kept s × (s.place ≡ place)) ⊎ Contains lost place

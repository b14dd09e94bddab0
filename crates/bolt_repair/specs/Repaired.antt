-- The repaired listing: docs/RECOVERY.md, "The repaired listing".
use Rattle.std.specs.Prelude.{◌≡◌, ℕ, Bool, List, [], ◌∷◌, None, Option, Some, false, true, flat_map}
use Rattle.std.specs.List.{Contains}
use Rattle.bolt_format.specs.{Elements.LeafElement, Pages.page_at, declared.meta.Meta.Meta}
use Rattle.bolt_tree.specs.{Entries.Bucket, Entries.EntryView, Entries.Item, Entries.Value, InBuckets.members_in, Listing.Member, Merges.merge}
use Rattle.bolt_recover.specs.{Found.AreSought, Recovered.IsRecovered, Sites.leaves_of}
use Rattle.bolt_repair.specs.{Readable.readable, Repairs.AreBack, Repairs.HasMeta, Repairs.IsCompactedAt, Repairs.meta_path, Repairs.store_path}

-- the elements of these pages
abbrev pub elements_on : List ℕ → Meta → List ℕ → List LeafElement
elements_on file meta found = flat_map (λ n. leaves_of (page_at file meta n)) found

-- Whether nothing is under the name `key`. If a value is there, the result is `None`.
abbrev pub lacks_bucket : Option Item → Option Bool
lacks_bucket None = Some true
lacks_bucket (Some (Bucket sequence)) = Some false
lacks_bucket (Some (Value value)) = None

-- the recovered root bucket has the bucket `key`
abbrev pub HasStore : List Member → Type 0
HasStore recovered = (sequence : ℕ) × Contains recovered (store_path, Bucket sequence)

-- Whether the bucket `key` is made: if something goes back, and the bucket isn't there.
abbrev pub MakesStore : List Member → List EntryView → Bool → Type 0
MakesStore recovered [] true = ⊥
MakesStore recovered [] false = Unit {0}
MakesStore recovered (e ∷ back) true = (item : Item) → Contains recovered (store_path, item) → ⊥
MakesStore recovered (e ∷ back) false = (sequence : ℕ) × Contains recovered (store_path, Bucket sequence)

-- Whether the bucket `meta` is made: if nothing is there.
abbrev pub MakesMeta : List Member → Bool → Type 0
MakesMeta recovered true = HasMeta recovered → ⊥
MakesMeta recovered false = HasMeta recovered

-- what is made: the bucket of the revisions, and the bucket `meta`
pub record Made : Type 0 where
  pub store : Bool
  pub meta : Bool

-- The entries `back` go back into the bucket of a file under a meta, beside what is recovered and can be read. The buckets are made, or are there.
-- With `search` pages are looked for even if nothing is lost.
pub record IsRepair (file : List ℕ) (meta : Meta) (search : Bool) (back : List EntryView) (made : Made) : Type 0 where
  pub recovered : List Member
  pub recovers : IsRecovered file meta recovered
  pub found : List ℕ
  pub are_found : AreSought file meta search found
  pub compacted : ℕ
  pub is_compacted : IsCompactedAt (readable recovered) compacted
  pub are_back : AreBack compacted (readable recovered) (elements_on file meta found) back
  pub makes : MakesStore (readable recovered) back made.store
  pub makes_meta : MakesMeta recovered made.meta

-- What is recovered and can be read, with what goes back in its bucket, and with an empty bucket `meta` if it is made.
abbrev pub repaired_listing : List Member → Made → List EntryView → List Member
repaired_listing recovered made back = merge (merge (readable recovered) (members_in made.store store_path back)) (members_in made.meta meta_path [])

-- the repaired listing of a file under a meta
pub record IsRepaired (file : List ℕ) (meta : Meta) (search : Bool) (listing : List Member) : Type 0 where
  pub back : List EntryView
  pub made : Made
  pub repair : IsRepair file meta search back made
  pub repaired : listing ≡ repaired_listing repair.recovered made back

-- What is promised of the repaired listing is promised for each; there is at most one (`laws`).
abbrev pub ForRepaired : List ℕ → Meta → (search : Bool) → (List Member → Type 0) → Type 0
ForRepaired file meta search P = (listing : List Member) → IsRepaired file meta search listing → P listing

-- A store of which revisions are lost and found: docs/RECOVERY.md, "The repaired listing".
use Rattle.std.specs.Prelude.{◌≡◌, ◌↔◌, ◌⊎◌, ◌≤◌, ℕ, false, List, Some}
use Rattle.std.specs.List.{Contains}
use Rattle.bolt_format.specs.{Elements.LeafElement, declared.meta.Meta.Meta}
use Rattle.bolt_check.specs.Sound.{HasSoundTrees}
use Rattle.bolt_tree.specs.{Entries.EntryView, Entries.entry_view, InBuckets.entry_in, Listing.IsListing, Listing.Member}
use Rattle.bolt_recover.specs.{Found.AreFound, Recovered.IsRecovered}
use Rattle.bolt_etcd.specs.{Check.Misplaced.is_misplaced, Wire.Revisions.RevisionView, Wire.Revisions.name_of, Wire.Revisions.revision_of}
use Rattle.bolt_repair.specs.{Repaired.elements_on, Repairs.HasMeta, Repairs.IsCompactedAt, Repairs.store_path}

-- an entry of the bucket of the revisions, which is this revision
abbrev pub IsRevisionIn : List Member → EntryView → RevisionView → Type 0
IsRevisionIn listing e r = Contains listing (entry_in store_path e) × (revision_of e ≡ Some r)

-- What a compaction leaves in the bucket: revisions with records of their own transactions, and of those up to it no deletion, and of each name
-- at most one.
pub record IsCompactedStore (compacted : ℕ) (listing : List Member) : Type 0 where
  pub revisions : (e : EntryView) → Contains listing (entry_in store_path e)
      → (r : RevisionView) × (revision_of e ≡ Some r) × (is_misplaced r ≡ false)
  pub alive : (e : EntryView) (r : RevisionView) → IsRevisionIn listing e r → r.key.main ≤ compacted → r.key.deleted ≡ false
  pub one : (a b : EntryView) (r s : RevisionView) → IsRevisionIn listing a r → IsRevisionIn listing b s → name_of r ≡ name_of s
      → r.key.main ≤ compacted → s.key.main ≤ compacted → a ≡ b

-- an element of a found page, as an entry of the bucket
abbrev pub IsFoundEntry : List LeafElement → Member → Type 0
IsFoundEntry found m = (element : LeafElement) × Contains found element × (entry_in store_path (entry_view element) ≡ m)

-- The listing is what is recovered and, as entries of the bucket, exactly what is found. Nothing is both.
pub record IsRecoveredOrFound (listing recovered : List Member) (found : List LeafElement) : Type 0 where
  pub exact : (m : Member) → Contains listing m ↔ (Contains recovered m ⊎ IsFoundEntry found m)
  pub apart : (m : Member) → IsFoundEntry found m → Contains recovered m → ⊥

-- A file held a sound tree with the listing of a compacted store. It lost entries of the bucket alone, and nothing else than these is found.
pub record LosesRevisions (file : List ℕ) (meta : Meta) (listing : List Member) : Type 0 where
  pub before : List ℕ
  pub under : Meta
  pub was_sound : HasSoundTrees before under
  pub listed : IsListing before under listing
  pub compacted : ℕ
  pub is_compacted : IsCompactedAt listing compacted
  pub store : IsCompactedStore compacted listing
  pub has_meta : HasMeta listing
  pub recovered : List Member
  pub recovers : IsRecovered file meta recovered
  pub found : List ℕ
  pub are_found : AreFound file meta found
  pub loses : IsRecoveredOrFound listing recovered (elements_on file meta found)

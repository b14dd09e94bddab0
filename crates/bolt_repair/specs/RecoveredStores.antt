-- What the recovered listing says of a store.
use Rattle.std.specs.Prelude.{◌≡◌, ◌↔◌, ◌<◌, ◌≤◌, ℕ, true, List, ◌∷◌, ◌++◌, [], Option, Some, filter, length, map}
use Rattle.std.specs.{Borrow.Bor, List.Contains, Option.option_map, Option.option_to_list}
use Rattle.std.specs.declared.cmp.Ordering.TheVariants.{Less}
use Rattle.bolt_lemmas.specs.Order.{Rises}
use Rattle.bolt_check.specs.{Counts.counted, Keys.Key, Keys.key_cmp}
use Rattle.bolt_recover.specs.{Recovered.ForRecovered, declared.lost_and_found.LostAndFound.LostAndFound}
use Rattle.bolt_tree.specs.{Entries.EntryView, Entries.Item, Entries.Value, InBuckets.entry_in, Listing.Member, Listing.member_cmp}
use Rattle.bolt_tree.specs.{ShownEntries.item_view}
use Rattle.bolt_repair.specs.{Candidates.HasKey, Readable.readable, Readable.unread, Repairs.HasMeta, Repairs.IsKeptRevision, Repairs.compaction_path}
use Rattle.bolt_repair.specs.{Repairs.store_path, StorePaths.is_in_store}
use Rattle.bolt_etcd.specs.{Wire.Revisions.RevisionView, Wire.Revisions.revision_of, Wire.UnreadEntries.shown_unread, Wire.ShownRevisions.shown_revision}
use Rattle.bolt_repair.specs.declared.recovered_store.RecoveredStore.{RecoveredStore}

-- an entry of the recovered bucket has this key
abbrev pub HasKeptKey : List Member → Key → Type 0
HasKeptKey recovered key = (item : Item) × Contains recovered (entry_in store_path (record { key = key; item = item }))

-- What the recovered listing says of a store, and which keys its bucket and the candidates have both. If there are candidates, these are the
-- revisions in the bucket.
pub record IsRecoveredStore (recovered : List Member) (candidates : List EntryView) (under : Option Item) (noted : Option (List ℕ))
    (revisions : List RevisionView) (keys : List Key) : Type 0 where
  pub bucket : (item : Item) → Contains recovered (store_path, item) ↔ (under ≡ Some item)
  pub compaction : (value : List ℕ) → Contains recovered (compaction_path, Value value) ↔ (noted ≡ Some value)
  pub kept : (e : EntryView) → Contains candidates e → (r : RevisionView) → Contains revisions r ↔ IsKeptRevision recovered r
  pub rises : Rises key_cmp keys
  pub met : (key : Key) → Contains keys key ↔ (HasKey candidates key × HasKeptKey recovered key)

-- What the code notes is so of these members, in the bucket `key` of those that etcd can read.
pub record IsStoreNoted (members : List Member) (candidates : List EntryView) (noted : RecoveredStore) : Type 0 where
  pub store : IsRecoveredStore (readable members) candidates (option_map item_view noted.bucket)
      (option_map (λ (value : Bor (List ℕ)). value.now) noted.compaction)
      (map shown_revision noted.kept.items) (map (λ (key : Bor (List ℕ)). key.now) noted.met.items)
  pub unread : map shown_unread noted.unread.items ≡ unread members
  pub meta : (noted.has_meta ≡ true) ↔ HasMeta members

-- the entries of the bucket `key` among these
abbrev pub store_entries : List Member → List Member
store_entries members = filter (λ (m : Member). is_in_store m.0) members

-- If there are candidates, there is room for them and for each entry of the recovered bucket `key`.
abbrev pub HasRoomForRecovered : LostAndFound → (candidates room : ℕ) → Type 0
HasRoomForRecovered searched candidates room =
    0 < candidates
    → ForRecovered searched.file.now searched.meta (λ recovered. counted (counted 0 (length (store_entries recovered))) candidates ≤ room)

-- a member comes after these
abbrev pub ComesAfter : List Member → Member → Type 0
ComesAfter before m = (x : Member) → Contains before x → member_cmp x m ≡ Less

-- What is noted of the members before this one becomes what is noted of this one too.
abbrev pub NotesMember : List EntryView → Member → (old new : RecoveredStore) → Type 0
NotesMember candidates m old new =
    (before : List Member) → ComesAfter before m → IsStoreNoted before candidates old → IsStoreNoted (before ++ m ∷ []) candidates new

-- if there are candidates, the revision that the entry is comes after these, if it is one
abbrev pub KeepsRevision : List EntryView → EntryView → (old new : List RevisionView) → Type 0
KeepsRevision candidates entry old new = (e : EntryView) → Contains candidates e → new ≡ old ++ option_to_list (revision_of entry)

-- Up to which transaction the copy of a repair may lack revisions: docs/RECOVERY.md, "What may be missing".
use Rattle.std.specs.Prelude.{◌≡◌, ◌&&◌, ◌≤◌, ◌⊎◌, ℕ, Bool, true, false, List, [], ◌∷◌, Option, Some, None, if◌then◌else◌, max, not}
use Rattle.std.specs.{List.Contains, Ordering.is_lt, Str.bytes_eq}
use Rattle.bolt_check.specs.Keys.{Key, key_cmp}
use Rattle.bolt_format.specs.Bytes.{IsBytes}
use Rattle.bolt_tree.specs.{Entries.EntryView, InBuckets.entry_in, Listing.Member, Paths.Path}
use Rattle.bolt_recover.specs.Losses.{LossView, LostView, everything, parts}
use Rattle.bolt_etcd.specs.{Wire.UnreadEntries.No_record, Wire.UnreadEntries.UnreadView, Wire.UnreadEntries.Unread_key, Wire.RevisionKeys.revision_key}
use Rattle.bolt_etcd.specs.{Wire.Revisions.RevisionView, Wire.Revisions.name_of, Wire.Revisions.revision_of}
use Rattle.bolt_etcd.specs.{declared.wire.revision_key.RevisionKey.RevisionKey}
use Rattle.bolt_etcd.specs.Store.BucketNames.{key_bucket}
use Rattle.bolt_repair.specs.{Readable.unread, Repairs.store_path}
use Rattle.bolt_repair.specs.declared.bound.Bound.{Bound}
use Rattle.bolt_repair.specs.declared.bound.Bound.TheVariants.{Any, Nothing, UpTo}

-- ---- what is reported

-- the greater of two bounds
abbrev pub greater : Bound → Bound → Bound
greater Nothing bound = bound
greater (UpTo n) Nothing = UpTo n
greater (UpTo n) (UpTo m) = UpTo (max n m)
greater (UpTo n) Any = Any
greater Any bound = Any

abbrev pub bound_of_key : Option RevisionKey → Bound
bound_of_key None = Any
bound_of_key (Some k) = UpTo k.main

-- the bound of what is lost below a key of the bucket `key`: the key's transaction, if it is a revision key
abbrev pub bound_below : Option Key → Bound
bound_below None = Any
bound_below (Some key) = bound_of_key (revision_key key)

-- the name of the bucket is within these bounds
abbrev pub is_name_from : Option Key → Bool
is_name_from None = true
is_name_from (Some key) = not (is_lt (key_cmp key_bucket key))

abbrev pub is_name_before : Option Key → Bool
is_name_before None = true
is_name_before (Some key) = is_lt (key_cmp key_bucket key)

abbrev pub holds_store : (lower upper : Option Key) → Bool
holds_store lower upper = is_name_from lower && is_name_before upper

-- the bound of a lost page of the root bucket: any, if the bucket `key` may have been on it
abbrev pub bound_in : (lower upper : Option Key) → Bound
bound_in lower upper = if holds_store lower upper then Any else Nothing

abbrev pub bound_on : Path → (lower upper : Option Key) → Bound
bound_on [] lower upper = bound_in lower upper
bound_on (bucket ∷ []) lower upper = if bytes_eq bucket key_bucket then bound_below upper else Nothing
bound_on (bucket ∷ part ∷ path) lower upper = Nothing

abbrev pub bound_of_loss : LossView → Bound
bound_of_loss loss = bound_on loss.bucket loss.lower loss.upper

abbrev pub bound_of_losses : List LossView → Bound
bound_of_losses [] = Nothing
bound_of_losses (loss ∷ losses) = greater (bound_of_loss loss) (bound_of_losses losses)

abbrev pub bound_of_lost : LostView → Bound
bound_of_lost (everything x) = Any
bound_of_lost (parts losses) = bound_of_losses losses

-- the bound of an entry that isn't copied: its transaction, if it has the key of a revision
abbrev pub bound_of_entry : UnreadView → Bound
bound_of_entry (Unread_key key) = Any
bound_of_entry (No_record k) = UpTo k.main

abbrev pub bound_of_unread : List UnreadView → Bound
bound_of_unread [] = Nothing
bound_of_unread (other ∷ unread_views) = greater (bound_of_entry other) (bound_of_unread unread_views)

-- Of all that is reported: the greatest; any, if the newest state may be lost.
abbrev pub repair_bound : LostView → List UnreadView → (is_older : Bool) → Bound
repair_bound lost unread_views true = Any
repair_bound lost unread_views false = greater (bound_of_lost lost) (bound_of_unread unread_views)

-- ---- what it says

-- a transaction isn't above a bound
abbrev pub IsWithinBound : Bound → ℕ → Type 0
IsWithinBound Nothing main = ⊥
IsWithinBound (UpTo n) main = main ≤ n
IsWithinBound Any main = Unit {0}

-- a key isn't below the first bound, and is below the second
pub record IsKeyBetween (lower upper : Option Key) (key : Key) : Type 0 where
  pub from : (low : Key) → lower ≡ Some low → is_lt (key_cmp key low) ≡ false
  pub before : (end : Key) → upper ≡ Some end → is_lt (key_cmp key end) ≡ true

-- A lost page may have had an entry of the bucket `key` under this key: It is one of the bucket between whose bounds the key lies, or one of the root
-- bucket between whose bounds the name of the bucket lies.
abbrev pub MayTakeOn : Path → (lower upper : Option Key) → Key → Type 0
MayTakeOn [] lower upper key = IsKeyBetween lower upper key_bucket
MayTakeOn (bucket ∷ []) lower upper key = (bucket ≡ key_bucket) × IsKeyBetween lower upper key
MayTakeOn (bucket ∷ part ∷ path) lower upper key = ⊥

abbrev pub MayTake : LossView → Key → Type 0
MayTake loss key = MayTakeOn loss.bucket loss.lower loss.upper key

abbrev pub MayLose : LostView → Key → Type 0
MayLose (everything x) key = Unit {0}
MayLose (parts losses) key = (loss : LossView) × Contains losses loss × MayTake loss key

-- An entry that isn't copied may be what this key had: It has the key, or one that isn't that of a revision.
abbrev pub MayHide : UnreadView → Key → Type 0
MayHide (Unread_key other) key = Unit {0}
MayHide (No_record k) key = revision_key key ≡ Some k

-- something that is reported may have taken the entry under this key
abbrev pub MayBeTaken : LostView → List UnreadView → (is_older : Bool) → Key → Type 0
MayBeTaken lost unread_views is_older key = (is_older ≡ true) ⊎ (MayLose lost key ⊎ ((other : UnreadView) × Contains unread_views other × MayHide other key))

-- no revision of its name in the bucket is of a later transaction
abbrev pub IsLastOfName : List Member → RevisionView → Type 0
IsLastOfName listing last =
    (e : EntryView) (r : RevisionView) → Contains listing (entry_in store_path e) → revision_of e ≡ Some r → name_of r ≡ name_of last
    → r.key.main ≤ last.key.main

-- a key, if there is one, is bytes
abbrev pub IsBytesIf : Option Key → Type 0
IsBytesIf None = Unit {0}
IsBytesIf (Some key) = IsBytes key

-- the second bounds of losses are bytes, as those of a file are
abbrev pub HaveByteBounds : LostView → Type 0
HaveByteBounds (everything x) = Unit {0}
HaveByteBounds (parts losses) = (loss : LossView) → Contains losses loss → IsBytesIf loss.upper

-- The bucket `key` of a whole listing is recovered, but for what is reported.
pub record LosesReported (whole recovered : List Member) (lost : LostView) (is_older : Bool) : Type 0 where
  pub but : (e : EntryView) → Contains whole (entry_in store_path e)
      → Contains recovered (entry_in store_path e) ⊎ MayBeTaken lost (unread recovered) is_older e.key
  pub keys : (e : EntryView) → Contains whole (entry_in store_path e) → IsBytes e.key
  pub bounds : HaveByteBounds lost

-- etcd's HashKV: the sum of what the bucket `key` has at a transaction.
use Rattle.std.specs.Prelude.{ℕ, ◌==◌, ◌&&◌, ◌||◌, Bool, false, List, [], ◌∷◌, ◌++◌, filter, flat_map, nat_lt, not, Option, Some, None}
use Rattle.std.specs.List.{list_any}
use Rattle.bolt_format.specs.Elements.{LeafElement}
use Rattle.bolt_tree.specs.Entries.{entry_view}
use Rattle.bolt_etcd.specs.{Store.Crc32c.crc_of, Histories.Compactions.is_same_revision, Histories.Transactions.live_of, Store.Newest.is_until}
use Rattle.bolt_etcd.specs.{Store.Newest.newest, Store.Newest.until, Wire.Numbered.numbered, Wire.Numbered.numbered_of, Wire.Revisions.RevisionView}
use Rattle.bolt_etcd.specs.{Wire.Revisions.name_of, declared.wire.revision_key.RevisionKey.RevisionKey}
use Rattle.bolt_etcd.specs.Store.BucketNames.{key_bucket}

-- what a name holds, by its newest revision if it has one: that, unless it is a deletion
abbrev pub live_in : Option RevisionView → Option RevisionView
live_in None = None
live_in (Some r) = live_of r

-- r is current at a transaction: its name holds it, by those of no later transaction
abbrev pub is_current_at : (up_to : ℕ) → List RevisionView → RevisionView → Bool
is_current_at up_to rs r = is_same_revision r (live_in (newest (name_of r) (until up_to rs)))

-- The sum leaves out a deletion in the transaction of the last compaction. Up to that transaction it also leaves out all that isn't current,
-- unless nothing is current.
abbrev pub is_left_out : (compacted : ℕ) → RevisionKey → (is_current any_current : Bool) → Bool
is_left_out compacted k is_current any_current = (k.deleted && (k.main == compacted)) || (not (nat_lt compacted k.main) && (any_current && not is_current))

-- the sum has a revision or a mark if it is of no later transaction and isn't left out
abbrev pub is_summed : (up_to compacted : ℕ) → List RevisionView → RevisionView → Bool
is_summed up_to compacted rs r = is_until up_to r && not (is_left_out compacted r.key (is_current_at up_to rs r) (list_any (is_current_at up_to rs) rs))

-- an entry is a revision or a mark that passes a test; a mark counts as a revision of the name without bytes
abbrev pub passes : (RevisionView → Bool) → Option RevisionView → Bool
passes p None = false
passes p (Some r) = p r

abbrev pub summed : (up_to compacted : ℕ) → List LeafElement → List LeafElement
summed up_to compacted entries = filter (λ e. passes (is_summed up_to compacted (numbered entries)) (numbered_of (entry_view e))) entries

-- the sum of `key`, and then of the key and the value of each of these entries
unfoldable pub hash_kv : (up_to compacted : ℕ) → List LeafElement → ℕ
hash_kv up_to compacted entries = crc_of (key_bucket ++ flat_map (λ e. e.key ++ e.value) (summed up_to compacted entries))

-- the hash is unknown if there are entries that are neither revisions nor marks
abbrev pub hash_unless : (unread : List LeafElement) → ℕ → Option ℕ
hash_unless [] hash = Some hash
hash_unless (e ∷ unread) hash = None

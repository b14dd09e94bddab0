-- Up to which transaction a store was compacted: what its bucket `meta` says.
use Rattle.std.specs.Prelude.{◌≡◌, ◌==◌, ◌&&◌, ℕ, Bool, List, Option, Some, None, length, not, if◌then◌else◌}
use Rattle.std.specs.{List.find, Option.option_map, Str.bytes_eq}
use Rattle.bolt_format.specs.Elements.{LeafElement}
use Rattle.bolt_check.specs.Keys.{Key}
use Rattle.bolt_tree.specs.{Entries.Start, Lookups.IsValueAt}
use Rattle.bolt_etcd.specs.{Wire.RevisionKeys.revision_key, declared.wire.revision_key.RevisionKey.RevisionKey}
use Rattle.bolt_etcd.specs.Store.BucketNames.{compaction_key}

abbrev pub main_of : Option RevisionKey → ℕ
main_of (Some k) = k.main
main_of None = 0

-- the transaction of the last compaction by its value: its number, if the value is a revision key of 17 bytes, and otherwise 0
abbrev pub compacted_by : Option (List ℕ) → ℕ
compacted_by (Some value) = if length value == 17 then main_of (revision_key value) else 0
compacted_by None = 0

-- the transaction of the last compaction by the value under `scheduledCompactRev` in a bucket
abbrev pub IsCompacted : (Start → LeafElement → Type 0) → Start → ℕ → Type 0
IsCompacted Entry meta n = (value : Option (List ℕ)) × IsValueAt Entry meta compaction_key value × (n ≡ compacted_by value)

-- the value under a key, if these are the entries of a bucket
abbrev pub is_value_under : Key → LeafElement → Bool
is_value_under key e = bytes_eq e.key key && not e.is_bucket

abbrev pub value_under : Key → List LeafElement → Option (List ℕ)
value_under key entries = option_map (λ (e : LeafElement). e.value) (find (is_value_under key) entries)

-- the transaction of the last compaction by the entries of the bucket `meta`
abbrev pub compacted_in : List LeafElement → ℕ
compacted_in entries = compacted_by (value_under compaction_key entries)

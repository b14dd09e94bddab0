-- What is wrong with a store, as lines: docs/COMMANDS.md, "etcd-check".
use Rattle.std.specs.Prelude.{ℕ, Bool, false, List, [], ◌∷◌, ◌++◌, codes, flat_map, map, Option, Some, None}
use Rattle.std.specs.Option.{option_map}
use Rattle.bolt_format.specs.Elements.{LeafElement}
use Rattle.bolt_check.specs.Keys.{Key}
use Rattle.bolt_etcd.specs.{Check.CheckLines.name_fault_lines, Check.CheckLines.misplaced_line, Check.CheckLines.missing_line}
use Rattle.bolt_etcd.specs.{Check.CheckLines.unread_entry_line, Store.Compacted.compacted_in}
use Rattle.bolt_etcd.specs.{Check.Misplaced.misplaced, Check.MissingNumbers.missing_numbers, Check.NameFaults.has_lease, Check.NameFaults.name_faults}
use Rattle.bolt_etcd.specs.{Wire.Numbered.numbered, Wire.UnreadEntries.unread_entries, Wire.Revisions.RevisionView, Store.StoreBuckets.StoreView}
use Rattle.bolt_etcd.specs.{Store.Stores.revisions}
use Rattle.bolt_etcd.specs.declared.check.missing.Missing.{Missing}
use Rattle.bolt_etcd.specs.Store.BucketNames.{bucket_names, key_bucket, lease_bucket, meta_bucket}

abbrev pub bucket_line : Key → List ℕ
bucket_line name = codes "bucket " ++ (name ++ codes ": missing\n")

-- a line, if there is no bucket under the name
abbrev pub line_without : Key → Option (List LeafElement) → List (List ℕ)
line_without name None = bucket_line name ∷ []
line_without name (Some entries) = []

abbrev pub missing_bucket_lines : StoreView → List Key → List (List ℕ)
missing_bucket_lines store names = flat_map (λ name. line_without name (store.bucket name)) names

-- what is missing by its number, if the transaction of the last compaction is known
abbrev pub missing_if : Option ℕ → List RevisionView → List Missing
missing_if None rs = []
missing_if (Some compacted) rs = missing_numbers compacted rs

-- the lines of the entries of the bucket `key` that are neither revisions nor marks
abbrev pub unread_entry_lines : List LeafElement → List (List ℕ)
unread_entry_lines entries = map unread_entry_line (unread_entries entries)

-- the lines of the entries of the bucket `key`, one after another
abbrev pub entry_lines : Option ℕ → List LeafElement → List (List ℕ)
entry_lines compacted entries =
    unread_entry_lines entries ++ (map misplaced_line (misplaced (revisions entries)) ++ map missing_line (missing_if compacted (numbered entries)))

-- the lines of the revisions of the bucket `key`, name by name
abbrev pub name_lines : Option ℕ → (ℕ → Bool) → List RevisionView → List (List ℕ)
name_lines compacted granted by_name = flat_map name_fault_lines (name_faults compacted granted None by_name)

-- up to which transaction a store was compacted, if it has the bucket `meta`
abbrev pub store_compacted : StoreView → Option ℕ
store_compacted store = option_map compacted_in (store.bucket meta_bucket)

-- whether a lease is there; without the bucket `lease` none is
abbrev pub granted_in : Option (List LeafElement) → ℕ → Bool
granted_in None lease = false
granted_in (Some entries) lease = has_lease entries lease

abbrev pub store_granted : StoreView → ℕ → Bool
store_granted store = granted_in (store.bucket lease_bucket)

-- the lines of the bucket `key` and of its names; without it nothing else is looked at
abbrev pub key_lines : StoreView → Option (List LeafElement) → List (List ℕ)
key_lines store None = []
key_lines store (Some entries) = entry_lines (store_compacted store) entries ++ name_lines (store_compacted store) (store_granted store) store.by_name

-- the lines of a store, in their order
abbrev pub store_lines : StoreView → List (List ℕ)
store_lines store = missing_bucket_lines store bucket_names ++ key_lines store (store.bucket key_bucket)

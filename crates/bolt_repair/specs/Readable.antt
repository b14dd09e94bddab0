-- What etcd can read of a recovered listing: docs/RECOVERY.md, "The repaired listing".
use Rattle.std.specs.Prelude.{◌&&◌, Bool, false, List, [], ◌∷◌, Option, None, filter, if◌then◌else◌, is_none, not}
use Rattle.std.specs.{List.filter_map, Str.bytes_eq}
use Rattle.bolt_check.specs.Keys.{Key}
use Rattle.bolt_tree.specs.{Entries.EntryView, Entries.Item, Listing.Member, Paths.Path}
use Rattle.bolt_etcd.specs.Wire.UnreadEntries.{UnreadView, unread_entry_of}
use Rattle.bolt_etcd.specs.Store.BucketNames.{key_bucket}

-- what an entry of the bucket `key` is, if it is neither a revision nor a mark
abbrev pub unread_in : Key → EntryView → Option UnreadView
unread_in bucket entry = if bytes_eq bucket key_bucket then unread_entry_of entry else None

abbrev pub unread_at : Path → Item → Option UnreadView
unread_at [] item = None
unread_at (bucket ∷ []) item = None
unread_at (bucket ∷ key ∷ []) item = unread_in bucket (record { key = key; item = item })
unread_at (bucket ∷ key ∷ more ∷ path) item = None

-- whether a path is that of something in a bucket in the bucket `key`
abbrev pub is_in_inner_bucket : Path → Bool
is_in_inner_bucket [] = false
is_in_inner_bucket (bucket ∷ []) = false
is_in_inner_bucket (bucket ∷ key ∷ []) = false
is_in_inner_bucket (bucket ∷ key ∷ more ∷ path) = bytes_eq bucket key_bucket

-- whether etcd can read a member: in the bucket `key` it is a revision or a mark
abbrev pub is_readable : Path → Item → Bool
is_readable path item = is_none (unread_at path item) && not (is_in_inner_bucket path)

-- the members that etcd can read
abbrev pub readable : List Member → List Member
readable listing = filter (λ (m : Member). is_readable m.0 m.1) listing

-- the entries of the bucket `key` that are neither revisions nor marks, in their order
abbrev pub unread : List Member → List UnreadView
unread listing = filter_map (λ (m : Member). unread_at m.0 m.1) listing

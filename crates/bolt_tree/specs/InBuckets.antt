-- Entries as members of one bucket.
use Rattle.std.specs.Prelude.{Bool, List, [], ◌∷◌, ◌++◌, if◌then◌else◌, map}
use Rattle.std.specs.declared.cmp.Ordering.{Ordering}
use Rattle.bolt_check.specs.Keys.{key_cmp}
use Rattle.bolt_tree.specs.{Entries.Bucket, Entries.EntryView, Listing.Member, Paths.Path}

abbrev pub entry_in : Path → EntryView → Member
entry_in bucket entry = (bucket ++ entry.key ∷ [], entry.item)

-- the entries of a bucket and, if it is made, before them the bucket itself
abbrev pub members_in : Bool → Path → List EntryView → List Member
members_in is_made bucket entries = if is_made then (bucket, Bucket 0) ∷ map (entry_in bucket) entries else map (entry_in bucket) entries

abbrev pub view_cmp : EntryView → EntryView → Ordering
view_cmp a b = key_cmp a.key b.key

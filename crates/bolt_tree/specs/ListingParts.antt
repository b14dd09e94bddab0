-- The part of a listing below a path: docs/LISTING.md, "The part below a path".
use Rattle.std.specs.Prelude.{◌&&◌, ◌==◌, length, ◌||◌, Bool, false, true, List, [], filter, if◌then◌else◌}
use Rattle.std.specs.{Cmp.Lexicographic.pointwise, List.list_any, List.starts_with, Ordering.is_lt, Str.bytes_eq}
use Rattle.bolt_tree.specs.{Entries.Bucket, Entries.Item, Entries.Value, Listing.Member, Paths.Path, Paths.path_cmp}

-- a path begins with the parts of another
abbrev pub begins_with : Path → Path → Bool
begins_with below path = starts_with bytes_eq path below

-- the members whose paths begin with this one, in order
abbrev pub part_below : Path → List Member → List Member
part_below below listing = filter (λ m. begins_with below m.0) listing

abbrev pub is_bucket : Item → Bool
is_bucket (Value value) = false
is_bucket (Bucket sequence) = true

-- the member of the bucket at a path
abbrev pub is_bucket_at : Path → Member → Bool
is_bucket_at path member = pointwise bytes_eq member.0 path && is_bucket member.1

-- A listing has the bucket at a path: the root bucket, at the empty path, or one of its members.
abbrev pub has_bucket : Path → List Member → Bool
has_bucket path listing = (length path == 0) || list_any (is_bucket_at path) listing

-- the part below a bucket, and nothing if the listing doesn't have it
abbrev pub bucket_part : Path → List Member → List Member
bucket_part path listing = if has_bucket path listing then part_below path listing else []

-- the later of two paths
abbrev pub later_path : Path → Path → Path
later_path a b = if is_lt (path_cmp a b) then b else a

-- What goes back as a listing.
use Rattle.std.specs.Prelude.{◌≡◌, List, map, take}
use Rattle.bolt_tree.specs.{InBuckets.members_in, Listing.Member, Paths.Path, Paths.path_of}
use Rattle.bolt_etcd.specs.{Wire.ShownRevisions.entry_of}
use Rattle.bolt_repair.specs.{declared.put_back.PutBack.PutBack}

unfoldable pub put_back_listing : PutBack → List Member
put_back_listing it = members_in it.is_made (path_of (take it.depth it.parts.items)) (map entry_of it.revisions.now)

-- a listing is that of what goes back
abbrev pub IsPutBack : PutBack → List Member → Type 0
IsPutBack it listing = listing ≡ put_back_listing it

-- the part that is left
unfoldable pub put_back_left : PutBack → List Member
put_back_left it = members_in it.has_bucket (path_of (take it.depth it.parts.items)) (map entry_of it.rest.now)

-- the path of the last member that it returned
unfoldable pub put_back_path : PutBack → Path
put_back_path it = path_of (take it.length it.parts.items)

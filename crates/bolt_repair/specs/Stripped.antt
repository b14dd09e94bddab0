-- The members that etcd can read, one after another.
use Rattle.std.specs.Prelude.{◌≡◌, ◌||◌, ◌⊎◌, Bool, true, false, List, [], ◌∷◌, Option, Some, None, IfSome, if◌then◌else◌, not}
use Rattle.bolt_tree.specs.{Entries.Item, Listing.Member, Paths.Path}
use Rattle.bolt_recover.specs.{RecoveredMembers.recovered_file, RecoveredMembers.recovered_meta, Recovered.IsRecovered}
use Rattle.bolt_recover.specs.{declared.recovered_listing.RecoveredListing.RecoveredListing}
use Rattle.bolt_repair.specs.{Readable.is_readable, NearPaths.near_path, StorePaths.is_near}
use Rattle.bolt_repair.specs.declared.store_path.NearPath.{NearPath}

-- Members without those that etcd can't read, if they come after the bucket or an entry in it. In a recovered listing all of them do, so that
-- what is left is the readable members.
abbrev pub strip : (near : Bool) → List Member → List Member
strip near [] = []
strip near (m ∷ ms) = if not near || is_readable m.0 m.1 then m ∷ strip (is_near m.0) ms else strip true ms

-- the path that is held is this one
abbrev pub KeepsPath : Option NearPath → Path → Type 0
KeepsPath near path = IfSome near (λ (held : NearPath). near_path held ≡ path)

-- the path of the last member, if the recovered listing is at this path
abbrev pub last_of : (has_passed : Bool) → Option NearPath → Path → Path
last_of true (Some near) path = near_path near
last_of true None path = path
last_of false near path = path

-- the recovered listing of its file
abbrev pub ReadsRecovered : RecoveredListing → List Member → Type 0
ReadsRecovered recovered listing = IsRecovered (recovered_file recovered) (recovered_meta recovered) listing

-- the first of those that are left without these is returned, at this path; or none is left
abbrev pub GivesReadable : (near : Bool) → (old new : List Member) → Path → Option Item → Type 0
GivesReadable near old new path (Some item) = strip near old ≡ (path, item) ∷ strip (is_near path) new
GivesReadable near old new path None = (strip near old ≡ []) × (new ≡ []) × (path ≡ [])

-- nothing was passed over, and the path is the same; or something was, after the bucket or an entry in it
abbrev pub PassesOver : (near old new : Bool) → (before after : Path) → Type 0
PassesOver near old new before after = ((new ≡ old) × (after ≡ before)) ⊎ ((new ≡ true) × (near ≡ true))

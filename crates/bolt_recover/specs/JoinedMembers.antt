-- What the members of the joined listing show.
use Rattle.std.specs.Prelude.{ℕ, List, ⊤}
use Rattle.bolt_format.specs.declared.meta.Meta.{Meta}
use Rattle.bolt_tree.specs.{Listing.Member, Merging.merged_left, Merging.merged_path, Merging.merged_work, Paths.Path}
use Rattle.bolt_recover.specs.{Joined.IsJoined, RecoveredMembers.recovered_left, RecoveredMembers.recovered_path, RecoveredMembers.recovered_work}
use Rattle.bolt_recover.specs.{declared.joined_listing.JoinedListing.JoinedListing}
use Rattle.bolt_recover.specs.Private.{FoundLeft.found_left, FoundLeft.found_path, FoundLeft.found_work, Merging.recovered_and_found}

unfoldable pub joined_file : JoinedListing → List ℕ
joined_file joined = joined.file.now

unfoldable pub joined_meta : JoinedListing → Meta
joined_meta joined = joined.meta

-- The part of the joined listing that is left. (There is one listing, so it is the same of each.)
unfoldable pub joined_left : JoinedListing → List Member → List Member
joined_left joined listing =
    merged_left recovered_path recovered_left found_path found_left joined.members (recovered_and_found joined.file.now joined.meta joined.found.now)

-- how much the joined members have to do at most, until everything is returned
unfoldable pub joined_work : JoinedListing → ℕ
joined_work joined = merged_work recovered_work found_work joined.members

-- the path of the last joined member that was returned
unfoldable pub joined_path : JoinedListing → Path
joined_path joined = merged_path recovered_path found_path joined.members

-- all that joined members show, to be unfolded together
unfoldable pub joined_viewers : ⊤
unfolding joined_file joined_left joined_meta joined_path joined_work
joined_viewers = tt

-- What is promised of the joined listing is promised for each; there is exactly one (`laws`).
abbrev pub ForJoined : List ℕ → Meta → (List Member → Type 0) → Type 0
ForJoined file meta P = (listing : List Member) → IsJoined file meta listing → P listing

-- The members of a damaged file that a copy is made of: all that a listing has.
use Rattle.std.specs.Prelude.{List}
use Rattle.bolt_bulk.specs.WholeListings.{IsWholeListing}
use Rattle.bolt_recover.specs.{Joined.IsJoined, JoinedMembers.joined_file, JoinedMembers.joined_left, JoinedMembers.joined_meta}
use Rattle.bolt_recover.specs.{Recovered.IsRecovered, Recoveries.recovery_file, Recoveries.recovery_left, Recoveries.recovery_meta}
use Rattle.bolt_recover.specs.{declared.joined_listing.JoinedListing.JoinedListing, declared.recovery.Recovery.Recovery}
use Rattle.bolt_repair.specs.{Repaired.IsRepaired, RepairedMembers.repaired_file, RepairedMembers.repaired_left, RepairedMembers.repaired_meta}
use Rattle.bolt_repair.specs.{RepairedMembers.repaired_search, declared.repaired_listing.RepairedListing.RepairedListing}
use Rattle.bolt_tree.specs.Listing.{Member}

-- The recovery has all that is recovered of a damaged file.
abbrev pub IsWholeRecovery : Recovery → Type 0
IsWholeRecovery recovery =
    IsWholeListing (λ (r : Recovery) (listing : List Member). IsRecovered (recovery_file r) (recovery_meta r) listing) (λ listing. listing)
    (λ (r : Recovery) (listing : List Member). recovery_left r listing) recovery

-- The joined members are all that is recovered of a damaged file, with all that is found of it.
abbrev pub IsWholeJoined : JoinedListing → Type 0
IsWholeJoined joined =
    IsWholeListing (λ (j : JoinedListing) (listing : List Member). IsJoined (joined_file j) (joined_meta j) listing) (λ listing. listing)
    (λ (j : JoinedListing) (listing : List Member). joined_left j listing) joined

-- The repaired members are all of the repaired listing.
abbrev pub IsWholeRepaired : RepairedListing → Type 0
IsWholeRepaired repaired =
    IsWholeListing (λ (r : RepairedListing) (listing : List Member). IsRepaired (repaired_file r) (repaired_meta r) (repaired_search r) listing)
    (λ listing. listing) (λ (r : RepairedListing) (listing : List Member). repaired_left r listing) repaired

-- The joined listing as the merge of what is recovered and what is found.
use Rattle.std.specs.Prelude.{◌≡◌, ℕ, List}
use Rattle.bolt_format.specs.declared.meta.Meta.{Meta}
use Rattle.bolt_tree.specs.{Listing.Member, Merging.merged_reads, declared.merged.Merged.Merged}
use Rattle.bolt_recover.specs.{Private.Courses.recovered_of, Private.FoundLeft.found_listing, Recovered.IsRecovered}
use Rattle.bolt_recover.specs.RecoveredMembers.{recovered_file, recovered_meta}
use Rattle.bolt_recover.specs.{declared.found_page.FoundPage.FoundPage, declared.found_members.FoundMembers.FoundMembers}
use Rattle.bolt_recover.specs.{declared.recovered_listing.RecoveredListing.RecoveredListing}

-- the recovered listing, and that of what is found
abbrev pub recovered_and_found : List ℕ → Meta → List FoundPage → List Member × List Member
recovered_and_found file meta found = (recovered_of file meta, found_listing found)

-- the recovered listing and that of what is found are merged
abbrev pub ReadsJoined : Merged RecoveredListing FoundMembers → List ℕ → Meta → List FoundPage → Type 0
ReadsJoined members file meta found =
    merged_reads (λ (recovered : RecoveredListing) (listing : List Member). IsRecovered (recovered_file recovered) (recovered_meta recovered) listing)
    (λ (members : FoundMembers) (listing : List Member). listing ≡ found_listing members.found.now) members (recovered_and_found file meta found)

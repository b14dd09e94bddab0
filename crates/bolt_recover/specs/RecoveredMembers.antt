-- What is recovered, also if the root page is lost.
use Rattle.std.specs.Prelude.{ℕ, List, []}
use Rattle.bolt_format.specs.declared.meta.Meta.{Meta}
use Rattle.bolt_check.specs.CheckedFiles.{bytes_of, meta_of}
use Rattle.bolt_tree.specs.{Listing.Member, Paths.Path, Walks.left_of, Walks.walk_checked, Walks.walk_path, WalksLeft.left_number}
use Rattle.bolt_recover.specs.{Recoveries.recovery_file, Recoveries.recovery_left, Recoveries.recovery_meta, Recoveries.recovery_path}
use Rattle.bolt_recover.specs.{Recoveries.recovery_work, declared.recovered_listing.RecoveredListing.RecoveredListing}
use Rattle.bolt_recover.specs.declared.recovered_listing.RecoveredListing.TheVariants.{Recovery, Rootless, Sound}

abbrev pub recovered_file : RecoveredListing → List ℕ
recovered_file (Recovery recovery) = recovery_file recovery
recovered_file (Sound walk) = bytes_of (walk_checked walk)
recovered_file (Rootless root) = root.file.now

abbrev pub recovered_meta : RecoveredListing → Meta
recovered_meta (Recovery recovery) = recovery_meta recovery
recovered_meta (Sound walk) = meta_of (walk_checked walk)
recovered_meta (Rootless root) = root.meta

-- the part of the recovered listing that is left
abbrev pub recovered_left : RecoveredListing → List Member → List Member
recovered_left (Recovery recovery) listing = recovery_left recovery listing
recovered_left (Sound walk) listing = left_of walk listing
recovered_left (Rootless root) listing = []

abbrev pub recovered_work : RecoveredListing → ℕ
recovered_work (Recovery recovery) = recovery_work recovery
recovered_work (Sound walk) = left_number walk
recovered_work (Rootless root) = 0

-- the path of the last member that was returned
abbrev pub recovered_path : RecoveredListing → Path
recovered_path (Recovery recovery) = recovery_path recovery
recovered_path (Sound walk) = walk_path walk
recovered_path (Rootless root) = []

-- What a command opens.
use Rattle.std.specs.Prelude.{◌≡◌, ◌≢◌, ◌⊎◌, List, [], ℕ, Result, Ok, Err}
use Rattle.std.specs.List.{All}
use Rattle.bolt_check.specs.{CheckedFiles.bytes_of, CheckedFiles.meta_of, declared.checked.Checked.Checked}
use Rattle.bolt_check.specs.{declared.check_fault.CheckFault.CheckFault, declared.finding.Finding.Finding}
use Rattle.bolt_format.specs.declared.meta.{Meta.Meta, MetaFault.MetaFault}
use Rattle.bolt_recover.specs.{Found.AreFound, Found.found_numbers, Joined.LacksBucketKey, JoinedMembers.ForJoined, JoinedMembers.joined_file}
use Rattle.bolt_recover.specs.{JoinedMembers.joined_left}
use Rattle.bolt_recover.specs.{JoinedMembers.joined_meta, Losses.LostView, Losses.everything, Losses.parts, Lost.IsAllLost, LostAndFound.all_lost}
use Rattle.bolt_recover.specs.{KeptPages.AreKeptPages, Losses.AreLosses, Recovered.ForRecovered, Recoveries.recovery_claimed}
use Rattle.bolt_recover.specs.{Recoveries.recovery_file, Recoveries.recovery_left, Recoveries.recovery_losses, Recoveries.recovery_meta}
use Rattle.bolt_recover.specs.{ShownFound.IsFoundView}
use Rattle.bolt_recover.specs.{declared.found_page.FoundPage.FoundPage, declared.joined_listing.JoinedListing.JoinedListing}
use Rattle.bolt_recover.specs.{declared.lost_and_found.LostAndFound.LostAndFound}
use Rattle.bolt_recover.specs.{declared.recovery.Recovery.Recovery}
use Rattle.bolt_tree.specs.{Buckets.bucket_checked, Buckets.bucket_start, Paths.Path, declared.bucket.Bucket.Bucket}
use Rattle.bolt_commands.specs.{Answers.refused, FilesRead.IsFileRefusal, FilesRead.IsReadUnder, FilesRead.IsRecoveredUnder, FilesRead.IsRefusedUnder}
use Rattle.bolt_commands.specs.{FilesRead.IsUnreadTo, FilesRead.LeadsNowhere, FilesRead.LeadsTo}
use Rattle.bolt_job.specs.{MetaChoices.HasNoMetaOf, MetaChoices.IsMetaOf, declared.choices.Extent.Extent, declared.choices.MetaChoice.MetaChoice}
use Rattle.bolt_job.specs.declared.choices.Extent.TheVariants.{Losses, FoundPages, Sound}
use Rattle.bolt_commands.specs.declared.failure.Failure.{Failure}
use Rattle.bolt_commands.specs.declared.failure.Failure.TheVariants as failure
use Rattle.bolt_commands.specs.declared.opening.Contents.{Contents}
use Rattle.bolt_commands.specs.declared.opening.Contents.TheVariants as contents

-- the bucket at a path of a file that is read under this choice
pub record IsOpenedBucket (file : List ℕ) (choice : MetaChoice) (path : Path) (bucket : Bucket) : Type 0 where
  pub bytes : bytes_of (bucket_checked bucket) ≡ file
  pub under : IsReadUnder file choice (meta_of (bucket_checked bucket))
  pub led : ∥ LeadsTo file (meta_of (bucket_checked bucket)) path (bucket_start bucket) ∥₁

-- the file is refused, and its first finding is reported
abbrev pub IsUnread : List ℕ → MetaChoice → Failure → Type 0
IsUnread file choice why = (fault : CheckFault) × IsRefusedUnder file choice fault × IsFileRefusal fault (refused why)

-- the path leads to no bucket, or the file is refused
pub record HasNoBucket (file : List ℕ) (choice : MetaChoice) (path : Path) (said : Failure) : Type 0 where
  pub why : ((meta : Meta) × IsReadUnder file choice meta × LeadsNowhere file meta path × (said ≡ failure.NoBucket))
      ⊎ IsUnread file choice said

-- what is lost and found of a file under this choice
pub record IsSearchOf (file : List ℕ) (choice : MetaChoice) (searched : LostAndFound) : Type 0 where
  pub under : IsMetaOf file choice searched.meta
  pub bytes : searched.file.now ≡ file
  pub lost : IsAllLost file searched.meta (all_lost searched)
  pub found : AreFound file searched.meta (found_numbers searched.found.items)
  pub views : All (IsFoundView file searched.meta) searched.found.items

-- the members of both, of which none was returned yet
pub record IsJoinedOf (searched : LostAndFound) (joined : JoinedListing) : Type 0 where
  pub file : joined_file joined ≡ searched.file.now
  pub meta : joined_meta joined ≡ searched.meta
  pub all : ForJoined searched.file.now searched.meta (λ listing. joined_left joined listing ≡ listing)
  pub apart : searched.found.items ≢ [] → ForRecovered searched.file.now searched.meta LacksBucketKey
  pub some : (x : Finding) → all_lost searched ≡ everything x → searched.found.items ≢ []

-- a recovery of the file under this choice, of which no member was returned yet
pub record IsRecoveryOf (file : List ℕ) (choice : MetaChoice) (recovery : Recovery) : Type 0 where
  pub bytes : recovery_file recovery ≡ file
  pub under : IsRecoveredUnder file choice (recovery_meta recovery)
  pub all : ForRecovered file (recovery_meta recovery) (λ listing. recovery_left recovery listing ≡ listing)

-- a recovery of the file under this choice that has come to its end, and lost nothing
pub record IsWholeRecoveryOf (file : List ℕ) (choice : MetaChoice) (recovery : Recovery) : Type 0 where
  pub bytes : recovery_file recovery ≡ file
  pub under : IsMetaOf file choice (recovery_meta recovery)
  pub kept : AreKeptPages file (recovery_meta recovery) (recovery_claimed recovery)
  pub whole : AreLosses file (recovery_meta recovery) []

-- ---- to any extent

pub record IsSoundOf (file : List ℕ) (choice : MetaChoice) (checked : Checked) : Type 0 where
  pub bytes : bytes_of checked ≡ file
  pub under : IsReadUnder file choice (meta_of checked)

-- the file is read under this choice, or refused
abbrev pub IsCheckOf : List ℕ → MetaChoice → Result Checked CheckFault → Type 0
IsCheckOf file choice (Ok checked) = IsSoundOf file choice checked
IsCheckOf file choice (Err fault) = IsRefusedUnder file choice fault

-- a file was opened to this extent
abbrev pub IsOpened : Extent → List ℕ → MetaChoice → Contents → Type 0
IsOpened extent file choice (contents.Sound checked) = (extent ≡ Sound) × IsSoundOf file choice checked
IsOpened extent file choice (contents.Recovered recovery) = (extent ≡ Losses) × IsRecoveryOf file choice recovery
IsOpened extent file choice (contents.Searched searched) = (extent ≡ FoundPages) × IsSearchOf file choice searched

abbrev pub contents_meta : Contents → Meta
contents_meta (contents.Sound checked) = meta_of checked
contents_meta (contents.Recovered recovery) = recovery_meta recovery
contents_meta (contents.Searched searched) = searched.meta

-- what is known so far to be lost of the file, and to be found
abbrev pub contents_lost : Contents → LostView
contents_lost (contents.Sound checked) = parts []
contents_lost (contents.Recovered recovery) = parts (recovery_losses recovery)
contents_lost (contents.Searched searched) = all_lost searched

abbrev pub contents_found : Contents → List FoundPage
contents_found (contents.Sound checked) = []
contents_found (contents.Recovered recovery) = []
contents_found (contents.Searched searched) = searched.found.items

-- why a file isn't searched: it has no such meta, or memory ran out
abbrev pub IsUnsearched : List ℕ → MetaChoice → Failure → Type 0
IsUnsearched file choice why =
    ((fault : MetaFault) × HasNoMetaOf file choice fault × (why ≡ failure.Open fault))
    ⊎ ((meta : Meta) × IsMetaOf file choice meta × (why ≡ failure.Memory))

-- why it isn't opened to this extent
abbrev pub IsUnopened : Extent → List ℕ → MetaChoice → Failure → Type 0
IsUnopened Sound file choice why = IsUnreadTo Sound file choice why
IsUnopened Losses file choice why = IsUnreadTo Losses file choice why
IsUnopened FoundPages file choice why = IsUnsearched file choice why

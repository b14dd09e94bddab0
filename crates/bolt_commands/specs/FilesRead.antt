-- What a command reads of a file: a sound one, what is recovered of a damaged one, or that with what is found; and why it reads none.
use Rattle.std.specs.Prelude.{◌≡◌, ◌≢◌, ◌⊎◌, ℕ, List, [], Bool, true, false, IsTrue, map, Option, Some, None, Ok, Err}
use Rattle.bolt_check.specs.{AccountFindings.AreAccountFindings, Sound.HasRightAccounts, Sound.HasSoundTrees, Sound.IsFirstFinding, Sound.IsUsed}
use Rattle.bolt_check.specs.{declared.check_fault.CheckFault.CheckFault}
use Rattle.bolt_check.specs.{declared.finding.Finding.Finding, ShownFindings.findings_in}
use Rattle.bolt_check.specs.declared.check_fault.CheckFault.TheVariants as check
use Rattle.bolt_format.specs.{Pages.page_at, declared.meta.Meta.Meta, declared.meta.MetaFault.MetaFault}
use Rattle.bolt_recover.specs.{Found.AreFound, JoinRefusals.IsJoinRefusal, Joined.IsJoined, Joined.LacksBucketKey, Losses.AreLosses, Losses.LossView}
use Rattle.bolt_recover.specs.{Losses.LostView, Losses.everything, Losses.parts}
use Rattle.bolt_recover.specs.{Lost.IsAllLost, Sites.leaves_of, Recovered.ForRecovered, Recovered.IsRecovered, Refusals.IsUnrecoverable}
use Rattle.bolt_recover.specs.{Refusals.KeepsRoot, declared.join_fault.JoinFault.JoinFault}
use Rattle.bolt_report.specs.FoundLines.{FoundView}
use Rattle.bolt_tree.specs.{Entries.IsEntry, Entries.Item, Entries.Root_page, Entries.Start, Listing.IsListing, Listing.Member, Paths.Holds}
use Rattle.bolt_tree.specs.{Paths.Names, Paths.Path}
use Rattle.bolt_commands.specs.{Failures.IsFailureOf, Failures.join_failure, FileFaults.IsMetasFault, Shortfalls.shortfall}
use Rattle.bolt_commands.specs.declared.{failure.Failure.Failure, other_meta.OtherMeta.OtherMeta, shortfall.Shortfall.Shortfall}
use Rattle.bolt_commands.specs.Answers.{Answer, JobEnding, refused}
use Rattle.bolt_job.specs.{MetaChoices.HasNoMetaOf, MetaChoices.IsMetaOf, declared.choices.Extent.Extent}
use Rattle.bolt_job.specs.declared.choices.Extent.TheVariants.{Losses, FoundPages, Sound}
use Rattle.bolt_job.specs.declared.choices.MetaChoice.{MetaChoice}
use Rattle.bolt_job.specs.declared.choices.MetaChoice.TheVariants.{Active, Assumed, InSlot}
use Rattle.bolt_commands.specs.declared.failure.Failure.TheVariants as failure

-- a path leads from the root bucket to this one; and what it holds
abbrev pub LeadsTo : List ℕ → Meta → Path → Start → Type 0
LeadsTo file meta path bucket = Names (IsEntry file meta) (Root_page meta.root) path bucket

-- a path leads to none
abbrev pub LeadsNowhere : List ℕ → Meta → Path → Type 0
LeadsNowhere file meta path = (bucket : Start) → LeadsTo file meta path bucket → ⊥

abbrev pub HoldsIn : List ℕ → Meta → Path → Item → Type 0
HoldsIn file meta path item = Holds (IsEntry file meta) (Root_page meta.root) path item

-- only the first finding is reported
abbrev pub IsFileRefusal : CheckFault → Answer → Type 0
IsFileRefusal fault answer = (failure : Failure) × IsFailureOf fault failure × (answer ≡ refused failure)

-- only under the active meta the accounts count
abbrev pub counts_accounts : MetaChoice → Bool
counts_accounts Active = true
counts_accounts (InSlot slot) = false
counts_accounts (Assumed assumed) = false

-- The meta that the file is read under is the one that is chosen. Its trees are sound and, if they count, its accounts are right.
abbrev pub IsReadUnder : List ℕ → MetaChoice → Meta → Type 0
IsReadUnder file choice meta = IsMetaOf file choice meta × HasSoundTrees file meta × (IsTrue (counts_accounts choice) → HasRightAccounts file meta)

-- the trees of a file are sound and its accounts aren't right: the findings are all those of the accounts
abbrev pub HasWrongAccounts : List ℕ → List Finding → Meta → Type 0
HasWrongAccounts file findings meta =
    HasSoundTrees file meta × (HasRightAccounts file meta → ⊥) × AreAccountFindings file meta (IsUsed file meta) findings × (findings ≢ [])

-- why it isn't read
abbrev pub IsRefusedUnder : List ℕ → MetaChoice → CheckFault → Type 0
IsRefusedUnder file choice (check.Open fault) = HasNoMetaOf file choice fault
IsRefusedUnder file choice (check.Structure x) = (meta : Meta) × IsMetaOf file choice meta × IsFirstFinding file meta x
IsRefusedUnder file choice (check.Accounts reported) = IsTrue (counts_accounts choice)
    × ((meta : Meta) × IsMetaOf file choice meta × HasWrongAccounts file (findings_in reported) meta)
IsRefusedUnder file choice check.Memory = Unit {0}

abbrev pub IsReadAnswer : List ℕ → MetaChoice → (Meta → Answer → Type 0) → Answer → Type 0
IsReadAnswer file choice IsAccepted answer =
    ((meta : Meta) × IsReadUnder file choice meta × IsAccepted meta answer)
    ⊎ ((fault : CheckFault) × IsRefusedUnder file choice fault × IsFileRefusal fault answer)

-- the meta under which a file is recovered: its root page is kept; or why nothing is recovered
abbrev pub IsRecoveredUnder : List ℕ → MetaChoice → Meta → Type 0
IsRecoveredUnder file choice meta = IsMetaOf file choice meta × KeepsRoot file meta

abbrev pub IsUnrecoverableUnder : List ℕ → MetaChoice → CheckFault → Type 0
IsUnrecoverableUnder file choice fault = IsUnrecoverable file (IsMetaOf file choice) (HasNoMetaOf file choice) fault

abbrev pub found_page : List ℕ → Meta → ℕ → FoundView
found_page file meta n = record { number = n; elements = leaves_of (page_at file meta n) }

abbrev pub AreFoundPages : List ℕ → Meta → List FoundView → Type 0
AreFoundPages file meta found = (numbers : List ℕ) × AreFound file meta numbers × (found ≡ map (found_page file meta) numbers)

-- the pages that are found if the extent asks for them, and otherwise none
abbrev pub AreFoundTo : Extent → List ℕ → Meta → List FoundView → Type 0
AreFoundTo FoundPages file meta found = AreFoundPages file meta found
AreFoundTo extent file meta found = found ≡ []

-- the joined listing of a file, what is lost and what is found; if everything is lost, a page is found
pub record IsJoinedWith (file : List ℕ) (meta : Meta) (listing : List Member) (lost : LostView) (found : List FoundView) : Type 0 where
  pub joins : IsJoined file meta listing
  pub loses : IsAllLost file meta lost
  pub finds : AreFoundPages file meta found
  pub apart : found ≢ [] → ForRecovered file meta LacksBucketKey
  pub some : (x : Finding) → lost ≡ everything x → found ≢ []

-- why there is none
abbrev pub IsUnjoined : List ℕ → Meta → Failure → Type 0
IsUnjoined file meta why =
    (found : List ℕ) × (fault : JoinFault) × AreFound file meta found × IsJoinRefusal file meta found fault × (why ≡ join_failure fault)

abbrev pub IsUnjoinedUnder : List ℕ → MetaChoice → Failure → Type 0
IsUnjoinedUnder file choice why =
    ((meta : Meta) × IsMetaOf file choice meta × IsUnjoined file meta why)
    ⊎ ((fault : MetaFault) × HasNoMetaOf file choice fault × (why ≡ failure.Open fault))

-- under the meta that is chosen the listing of a sound file, the recovered or the joined one; what is lost of the file, and the pages that are
-- found of it
abbrev pub IsReadTo : Extent → List ℕ → MetaChoice → Meta → List Member → LostView → List FoundView → Type 0
IsReadTo Sound file choice meta listing lost found = IsReadUnder file choice meta × IsListing file meta listing × (lost ≡ parts []) × (found ≡ [])
IsReadTo Losses file choice meta listing lost found =
    IsRecoveredUnder file choice meta × IsRecovered file meta listing × ((losses : List LossView) × AreLosses file meta losses × (lost ≡ parts losses))
    × (found ≡ [])
IsReadTo FoundPages file choice meta listing lost found = IsMetaOf file choice meta × IsJoinedWith file meta listing lost found

-- why it isn't read
abbrev pub IsUnreadTo : Extent → List ℕ → MetaChoice → Failure → Type 0
IsUnreadTo Sound file choice why = (fault : CheckFault) × IsRefusedUnder file choice fault × IsFailureOf fault why
IsUnreadTo Losses file choice why = (fault : CheckFault) × IsUnrecoverableUnder file choice fault × IsFailureOf fault why
IsUnreadTo FoundPages file choice why = IsUnjoinedUnder file choice why

-- if something is lacking, this is reported on standard error
abbrev pub end_listing : Option Shortfall → JobEnding
end_listing None = Ok 0
end_listing (Some lacking) = Err (failure.Lacking lacking)

-- what an output to this extent lacks if this is lost: that, and the newest state, if the other meta is refused
abbrev pub IsLackingTo : Extent → List ℕ → MetaChoice → LostView → Option Shortfall → Type 0
IsLackingTo extent file choice lost lacking = (other : Option OtherMeta) × IsMetasFault extent file choice other × (lacking ≡ shortfall lost other)

-- What is read of what was opened.
use Rattle.std.proofs.Common.{◌≡◌, ℕ, List, [], Option, Some, inl, inr, map, refl}
use Rattle.std.proofs.lemmas.List.Elements.{All-nil}
use Rattle.bolt_commands.proofs.Vocabulary.{AreLosses, Checked, Extent, Failure, IsListing, IsOpened, IsReadTo, IsRecovered}
use Rattle.bolt_commands.proofs.Vocabulary.{IsJoinedWith, IsUnopened, IsUnreadTo, LossView, LostAndFound, Member, MetaChoice, All, FoundView}
use Rattle.bolt_commands.proofs.Vocabulary.{IsFoundLeaf, LostView, Meta, Contents, all_lost, found_view, has_listing, hash_refusal, meta_of}
use Rattle.bolt_commands.proofs.Vocabulary.{contents_found, parts, recovery_meta}
use Rattle.bolt_commands.proofs.{FoundAnswers.are_leaves, ReadFiles.read_trees}
use Rattle.bolt_etcd.specs.declared.check.snapshot.SnapshotFault.{SnapshotFault}
use Rattle.bolt_job.specs.declared.choices.Extent.TheVariants.{Losses, FoundPages, Sound}
use Rattle.bolt_recover.specs.{Found.AreFound, declared.join_fault.JoinFault.TheVariants.Memory, declared.recovery.Recovery.Recovery}
use Rattle.bolt_commands.specs.declared.opening.Contents.TheVariants as contents

module _ {extent : Extent} {file : List ℕ} {choice : MetaChoice} {listing : List Member} where
  pub sound_read : (checked : Checked) → IsOpened extent file choice (contents.Sound checked) → IsListing file (meta_of checked) listing
      → IsReadTo extent file choice (meta_of checked) listing (parts []) []
  sound_read checked (first, of) is = rw first (of.under, is, refl, refl)

  pub recovered_read : (recovery : Recovery) {losses : List LossView} → IsOpened extent file choice (contents.Recovered recovery)
      → IsRecovered file (recovery_meta recovery) listing → AreLosses file (recovery_meta recovery) losses
      → IsReadTo extent file choice (recovery_meta recovery) listing (parts losses) []
  recovered_read recovery (to, of) is are = rw to (of.under, is, (_, are, refl), refl)

  pub searched_read : (searched : LostAndFound) → IsOpened extent file choice (contents.Searched searched)
      → IsJoinedWith file searched.meta listing (all_lost searched) (map found_view searched.found.items)
      → IsReadTo extent file choice searched.meta listing (all_lost searched) (map found_view searched.found.items)
  searched_read searched (to, of) is = rw to (of.under, is)

-- a sound file alone is refused for its hash
pub refused_read : (extent : Extent) (file : List ℕ) (choice : MetaChoice) (o : Contents) → IsOpened extent file choice o
    → (hash : Option SnapshotFault) (fault : SnapshotFault)
    → hash_refusal extent hash ≡ Some fault
    → (meta : Meta) × (listing : List Member) × (lost : LostView) × (found : List FoundView) × IsReadTo extent file choice meta listing lost found
refused_read extent file choice (contents.Sound checked) to hash fault is =
    let (listing, lists) = has_listing file (meta_of checked) (read_trees _ _ _ to.1.under) in (_, _, _, _, sound_read checked to lists)
refused_read extent file choice (contents.Recovered recovery) to hash fault is = absurd (let none = rw to.0 at is in cc)
refused_read extent file choice (contents.Searched searched) to hash fault is = absurd (let none = rw to.0 at is in cc)

-- they are leaves
pub found_leaves : (extent : Extent) (file : List ℕ) (choice : MetaChoice) (o : Contents) → IsOpened extent file choice o
    → All IsFoundLeaf (contents_found o)
found_leaves extent file choice (contents.Sound checked) to = All-nil IsFoundLeaf
found_leaves extent file choice (contents.Recovered recovery) to = All-nil IsFoundLeaf
found_leaves extent file choice (contents.Searched searched) to = are_leaves file searched.meta searched.found.items to.1.views

-- a file that isn't opened isn't read; each has found pages
pub unopened_unread : ((file : List ℕ) (meta : Meta) → (found : List ℕ) × AreFound file meta found)
    → (extent : Extent) (file : List ℕ) (choice : MetaChoice) (why : Failure)
    → IsUnopened extent file choice why → IsUnreadTo extent file choice why
unopened_unread finds Sound file choice why is = is
unopened_unread finds Losses file choice why is = is
unopened_unread finds FoundPages file choice why (inl none) = inr none
unopened_unread finds FoundPages file choice why (inr (meta, under, is)) = let (found, are) = finds file meta in inl (meta, under, (found, Memory, are, tt, is))

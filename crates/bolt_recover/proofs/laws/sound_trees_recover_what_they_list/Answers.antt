use Rattle.std.proofs.Common.{subst}
use Rattle.bolt_recover.proofs.{Words.IsEntry, Words.IsRecovered, Words.lists_once, Words.Root_page, Existing.has_recovered}
use Rattle.bolt_recover.proofs.{SoundListing.sound_listing, SoundWalks.no_loss}
use Rattle.bolt_recover.proofs.laws.sound_trees_recover_what_they_list.Goals as goal

pub returns-clause-listing : goal.returns-clause-listing
returns-clause-listing c = λ file meta listing trees lists.
    let (members, recovered) = has_recovered file meta in
    subst (IsRecovered file meta)
    (lists_once (IsEntry file meta) (Root_page meta.root) members listing (sound_listing file meta members trees recovered) lists) recovered

pub returns-clause-losses : goal.returns-clause-losses
returns-clause-losses c = no_loss

-- Each page is as it was, and so is all that is said of pages.
use Rattle.std.proofs.Common.{◌++◌}
use Rattle.bolt_tree.proofs.Exports.{listing_along}
use Rattle.bolt_etcd.proofs.{TrailingAccounts.agree_more, TrailingAccounts.sound_more, TrailingMetas.chosen_more, TrailingMetas.in_slot_more}
use Rattle.bolt_etcd.proofs.laws.trailing_bytes_change_nothing.Goals as goal

pub returns-clause-metas : goal.returns-clause-metas
returns-clause-metas c = λ file more both slot. let (meta, valid) = both slot in (meta, in_slot_more file more slot meta valid)

pub returns-clause-chosen : goal.returns-clause-chosen
returns-clause-chosen c = λ file more slot meta accounts all sound chosen. chosen_more file more slot meta all sound.trees chosen

pub returns-clause-sound : goal.returns-clause-sound
returns-clause-sound c = λ file more meta accounts all sound. sound_more file more meta all accounts sound

pub returns-clause-listing : goal.returns-clause-listing
returns-clause-listing c = λ file more meta listing all. listing_along file (file ++ more) meta (agree_more file more meta all) listing

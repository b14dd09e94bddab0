-- Sound trees lose nothing. The others are searched.
use Rattle.std.proofs.Common.{arith}
use Rattle.bolt_recover.proofs.{Words.all_lost, Words.merely, Words.sound_reports_nothing, SoundWalks.sound_searched}
use Rattle.bolt_recover.proofs.lost_and_found.LostAndFound.under.Goals as goal

pub invariant_of-result-clause-bytes : goal.invariant_of-result-clause-bytes
invariant_of-result-clause-bytes c = λ i. (c.type_inv.file i).fits

pub invariant_of-result-clause-searched : goal.invariant_of-result-clause-searched
invariant_of-result-clause-searched c = grind (arith, merely, sound_searched, c.in-Ok.ensures, c.new-found.ensures.items)

pub returns-in-Ok-clause-lost : goal.returns-in-Ok-clause-lost
unfolding all_lost
returns-in-Ok-clause-lost c =
    let checked = c.in-Ok.ensures in
    (sound_searched c.args.file.now c.args.meta c.in-Ok.checked c.new-found.result.items checked.bytes checked.meta c.new-found.ensures.items
    checked.trees).lost

pub returns-in-Ok-clause-found : goal.returns-in-Ok-clause-found
returns-in-Ok-clause-found c = grind (arith, sound_searched, c.in-Ok.ensures, c.new-found.ensures.items)

pub of_damaged-requires-clause-damaged : goal.of_damaged-requires-clause-damaged
of_damaged-requires-clause-damaged c = grind (arith, sound_reports_nothing, c.in-Err-Structure.field-0-is, c.in-Err-Structure.ensures.refused)

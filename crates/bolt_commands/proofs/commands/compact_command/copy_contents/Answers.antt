-- What is read, and the copy of it.
use Rattle.std.proofs.Common.{ap, inl, inr, refl}
use Rattle.bolt_lemmas.proofs.Exports.{on_any}
use Rattle.bolt_commands.proofs.{Vocabulary.has_listing, Vocabulary.has_losses, Vocabulary.has_recovered, Vocabulary.meta_of, Vocabulary.parts}
use Rattle.bolt_commands.proofs.{Vocabulary.recovery_meta, CopyAnswers.copy_read}
use Rattle.bolt_commands.proofs.{Doing.ends_as, ReadFiles.read_trees, OpenedReads.recovered_read, OpenedReads.searched_read}
use Rattle.bolt_commands.proofs.{OpenedReads.sound_read}
use Rattle.bolt_commands.specs.declared.opening.Contents.TheVariants.{Recovered, Searched, Sound}
use Rattle.bolt_commands.proofs.commands.compact_command.copy_contents.Goals as goal

pub a_walk_is_whole-requires : goal.a_walk_is_whole-requires
a_walk_is_whole-requires g c = rw c.new-walk.ensures.checked c.new-walk.ensures.all

pub returns-in_err-copied-in-Sound-clause-read : goal.returns-in_err-copied-in-Sound-clause-read
returns-in_err-copied-in-Sound-clause-read g c =
    let checked = c.in-Sound.checked in
    let to = rw c.in-Sound.is at c.requires in
    let asked = rw (c.meta.ensures, c.in-Sound.is) at c.blueprint_of-blueprint.ensures in
    let (own, is) = has_listing c.args.input.file.now (meta_of checked) (read_trees _ _ _ to.1.under) in
    let copy = c.in_err-copied-in-Sound.ensures.copied own (rw (c.new-walk.ensures.checked, to.1.bytes) is) in
    rw c.in-Sound.is (copy_read c.args.job.now _ (Sound checked) (Sound checked) _ (sound_read checked to is) asked _ copy tt _
    (ends_as _ _ c.from_residual.ensures.1))

pub returns-in_ok-copied-in-Sound-clause-read : goal.returns-in_ok-copied-in-Sound-clause-read
returns-in_ok-copied-in-Sound-clause-read g c =
    let checked = c.in-Sound.checked in
    let to = rw c.in-Sound.is at c.requires in
    let asked = rw (c.meta.ensures, c.in-Sound.is) at c.blueprint_of-blueprint.ensures in
    let (own, is) = has_listing c.args.input.file.now (meta_of checked) (read_trees _ _ _ to.1.under) in
    let copy = c.in_ok-copied-in-Sound.ensures.copied own (rw (c.new-walk.ensures.checked, to.1.bytes) is) in
    rw c.in-Sound.is (copy_read c.args.job.now _ (Sound checked) (Sound checked) _ (sound_read checked to is) asked _ copy refl _ refl)

pub returns-in_err-copied-in-Recovered-clause-read : goal.returns-in_err-copied-in-Recovered-clause-read
returns-in_err-copied-in-Recovered-clause-read g c =
    let recovery = c.in-Recovered.recovery in
    let to = rw c.in-Recovered.is at c.requires in
    let asked = rw (c.meta.ensures, c.in-Recovered.is) at c.blueprint_of-blueprint.ensures in
    let (own, is) = has_recovered c.args.input.file.now (recovery_meta recovery) in
    let (lost, are) = has_losses c.args.input.file.now (recovery_meta recovery) in
    let copy = c.in_err-copied-in-Recovered.ensures.copied own (rw to.1.bytes is) in
    rw c.in-Recovered.is
    (copy_read c.args.job.now _ (Recovered recovery) (Recovered c.copy_members-in-Recovered.new.members) _ (recovered_read recovery to is are) asked _ copy
    tt _ (ends_as _ _ c.from_residual-in_err-copied-in-Recovered.ensures.1))

pub returns-in_ok-copied-in-Recovered-clause-read : goal.returns-in_ok-copied-in-Recovered-clause-read
returns-in_ok-copied-in-Recovered-clause-read g c =
    let recovery = c.in-Recovered.recovery in
    let to = rw c.in-Recovered.is at c.requires in
    let asked = rw (c.meta.ensures, c.in-Recovered.is) at c.blueprint_of-blueprint.ensures in
    let (own, is) = has_recovered c.args.input.file.now (recovery_meta recovery) in
    let (lost, are) = has_losses c.args.input.file.now (recovery_meta recovery) in
    let copy = c.in_ok-copied-in-Recovered.ensures.copied own (rw to.1.bytes is) in
    let known = ap parts (c.in_ok-copied-in-Recovered.ensures.end lost (rw to.1.bytes are)) in
    rw c.in-Recovered.is
    (copy_read c.args.job.now _ (Recovered recovery) (Recovered c.copy_members-in-Recovered.new.members) _ (recovered_read recovery to is are) asked _ copy
    known _ refl)

pub returns-in-Searched-clause-read : goal.returns-in-Searched-clause-read
returns-in-Searched-clause-read g c =
    let searched = c.in-Searched.searched in
    let to = rw c.in-Searched.is at c.requires in
    let asked = rw (c.meta.ensures, c.in-Searched.is) at c.blueprint_of-blueprint.ensures in
    rw c.in-Searched.is (elim c.copy_joined.ensures [
      | inl (own, is, (made, copy, ends)) ↦
          copy_read c.args.job.now _ (Searched searched) (Searched searched) _ (searched_read searched to is) asked made copy (on_any made refl) _ ends
      | inr (why, unjoined, same, ends) ↦ inr (why, rw to.0 unjoined, same, ends)
    ])

-- What is read, and the part of it that is put.
use Rattle.std.proofs.Common.{Err, Ok, [], ap, inl, inr, refl}
use Rattle.bolt_lemmas.proofs.Exports.{on_any}
use Rattle.bolt_commands.proofs.Vocabulary.{IsRecovered, all_lost, has_listing, has_losses, has_recovered, meta_of, parts, recovery_file}
use Rattle.bolt_commands.proofs.Vocabulary.{recovery_left, recovery_meta}
use Rattle.bolt_commands.proofs.{Doing.ends_as, ListAnswers.members_put, ReadFiles.read_trees, OpenedReads.recovered_read}
use Rattle.bolt_commands.proofs.{OpenedReads.searched_read, OpenedReads.sound_read}
use Rattle.bolt_commands.proofs.commands.list_command.put_listed_part.Goals as goal

pub returns-in-Sound : goal.returns-in-Sound
returns-in-Sound g c =
    let checked = c.in-Sound.checked in
    let to = rw c.in-Sound.is at c.requires in
    let (own, is) = has_listing c.args.input.file.now (meta_of checked) (read_trees _ _ _ to.1.under) in
    inl (_, own, parts [], [], sound_read checked to is, on_any c.put_sound_part.result refl, c.put_sound_part.ensures own (rw to.1.bytes is))

pub returns-in_err-put_members_part-in-Recovered : goal.returns-in_err-put_members_part-in-Recovered
returns-in_err-put_members_part-in-Recovered g c =
    let r = c.in-Recovered.recovery in
    let to = rw c.in-Recovered.is at c.requires in
    let put = c.in_err-put_members_part-in-Recovered.ensures in
    let (own, is) = has_recovered c.args.input.file.now (recovery_meta r) in
    let (lost, are) = has_losses c.args.input.file.now (recovery_meta r) in
    let ends = ends_as _ _ c.from_residual.ensures.1 in
    let puts =
    members_put c.args.job.now own (IsRecovered (recovery_file r) (recovery_meta r)) (recovery_left r) (rw to.1.bytes is) (to.1.all own is) is.rises (Err _)
    put.fault put.written put.found _ ends in
    inl (_, own, parts lost, [], recovered_read r to is are, rw ends tt, puts)

pub returns-in_ok-put_members_part-in-Recovered : goal.returns-in_ok-put_members_part-in-Recovered
returns-in_ok-put_members_part-in-Recovered g c =
    let r = c.in-Recovered.recovery in
    let to = rw c.in-Recovered.is at c.requires in
    let put = c.in_ok-put_members_part-in-Recovered.ensures in
    let (own, is) = has_recovered c.args.input.file.now (recovery_meta r) in
    let (lost, are) = has_losses c.args.input.file.now (recovery_meta r) in
    let known = ap parts (put.end lost (rw to.1.bytes are)) in
    let puts =
    members_put c.args.job.now own (IsRecovered (recovery_file r) (recovery_meta r)) (recovery_left r) (rw to.1.bytes is) (to.1.all own is) is.rises (Ok _)
    put.fault put.written put.found _ refl in
    inl (_, own, parts lost, [], recovered_read r to is are, known, puts)

pub returns-in-Searched : goal.returns-in-Searched
returns-in-Searched g c =
    let searched = c.in-Searched.searched in
    let to = rw c.in-Searched.is at c.requires in
    elim c.put_joined_part.ensures [
      | inl (own, is, puts) ↦ inl (_, own, all_lost searched, _, searched_read searched to is, on_any c.put_joined_part.result refl, puts)
      | inr (why, unjoined, same, ends) ↦ inr (why, rw to.0 unjoined, same, ends)
    ]

-- The copy is made of the joined listing; or there is none.
use Rattle.std.proofs.Common.{Err, Ok, inl, refl}
use Rattle.bolt_commands.proofs.{Doing.ends_as, FoundAnswers.joined_with}
use Rattle.bolt_commands.proofs.commands.compact_command.copy_joined.Goals as goal

pub joined_members_are_whole-requires : goal.joined_members_are_whole-requires
joined_members_are_whole-requires g c = let joins = c.in_ok-joined.ensures.joined in rw (joins.file, joins.meta) joins.all

pub returns-in_err-copied : goal.returns-in_err-copied
returns-in_err-copied g c =
    let joins = c.in_ok-joined.ensures.joined in
    let searched = c.requires in
    let (own, is) = c.each_file_has_a_joined_listing.ensures c.args.input.file.now c.args.searched.now.meta in
    let copy = c.in_err-copied.ensures.copied own (rw (joins.file, joins.meta, searched.bytes) is) in
    inl (own, joined_with searched joins own is, (Err _, copy, ends_as _ _ c.from_residual-in_err-copied.ensures.1))

pub returns : goal.returns
returns g c =
    let joins = c.in_ok-joined.ensures.joined in
    let searched = c.requires in
    let (own, is) = c.each_file_has_a_joined_listing.ensures c.args.input.file.now c.args.searched.now.meta in
    let copy = c.in_ok-copied.ensures.copied own (rw (joins.file, joins.meta, searched.bytes) is) in
    inl (own, joined_with searched joins own is, (Ok _, copy, refl))

-- The part is put, as it is of the joined listing; or there is none.
use Rattle.std.proofs.Common.{Err, Ok, inl, refl}
use Rattle.bolt_commands.proofs.{Vocabulary.IsJoined, Vocabulary.joined_file, Vocabulary.joined_left, Vocabulary.joined_meta, Doing.ends_as}
use Rattle.bolt_commands.proofs.{FoundAnswers.joined_with, ListAnswers.members_put}
use Rattle.bolt_commands.proofs.commands.list_command.put_joined_part.Goals as goal

pub returns-in_err-put_members_part : goal.returns-in_err-put_members_part
returns-in_err-put_members_part g c =
    let j = c.in_ok-joined.joined in
    let joins = c.in_ok-joined.ensures.joined in
    let put = c.in_err-put_members_part.ensures in
    let (own, is) = c.each_file_has_a_joined_listing.ensures c.args.input.file.now c.args.searched.now.meta in
    let here : IsJoined c.args.searched.now.file.now c.args.searched.now.meta own = rw c.requires.bytes is in
    let there : IsJoined (joined_file j) (joined_meta j) own = rw (joins.file, joins.meta) here in
    let puts =
    members_put c.args.job.now own (IsJoined (joined_file j) (joined_meta j)) (joined_left j) there (joins.all own here)
    (c.joined_members_rise.ensures own there) (Err _) put.fault put.written put.found _
    (ends_as _ _ c.from_residual-in_err-put_members_part.ensures.1) in
    inl (own, joined_with c.requires joins own is, puts)

pub returns : goal.returns
returns g c =
    let j = c.in_ok-joined.joined in
    let joins = c.in_ok-joined.ensures.joined in
    let put = c.in_ok-put_members_part.ensures in
    let (own, is) = c.each_file_has_a_joined_listing.ensures c.args.input.file.now c.args.searched.now.meta in
    let here : IsJoined c.args.searched.now.file.now c.args.searched.now.meta own = rw c.requires.bytes is in
    let there : IsJoined (joined_file j) (joined_meta j) own = rw (joins.file, joins.meta) here in
    let puts =
    members_put c.args.job.now own (IsJoined (joined_file j) (joined_meta j)) (joined_left j) there (joins.all own here)
    (c.joined_members_rise.ensures own there) (Ok _) put.fault put.written put.found _ refl in
    inl (own, joined_with c.requires joins own is, puts)

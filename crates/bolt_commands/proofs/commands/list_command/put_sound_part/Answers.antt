-- The path leads to a bucket exactly if the listing has it.
use Rattle.std.proofs.Common.{◌≡◌, true}
use Rattle.bolt_commands.proofs.Vocabulary.{finds, props, ∥∥₁_elim}
use Rattle.bolt_commands.proofs.{Doing.ends_as, ListAnswers.none_put, ListAnswers.whole_cut, ListAnswers.whole_put, ListedBuckets.has_named}
use Rattle.bolt_commands.proofs.{ListedBuckets.none_named}
use Rattle.bolt_commands.proofs.commands.list_command.put_sound_part.Goals as goal

pub returns-in_default : goal.returns-in_default
returns-in_default g c = λ listing is.
    let nowhere = rw c.as_slice.ensures.value at c.in_default.ensures.refused.1 in
    none_put g.O.Sink _ c.args.job.now listing (none_named _ _ listing is _ nowhere)

pub returns-in_err-put_whole_part : goal.returns-in_err-put_whole_part
returns-in_err-put_whole_part g c = λ listing is.
    let named = rw c.as_slice.ensures.value at c.in-Ok.ensures.named in
    let has : finds c.args.job.now listing ≡ true = ∥∥₁_elim named (hlevel props) (λ led. has_named _ _ listing is _ _ led) in
    let put = c.in_err-put_whole_part.ensures in
    whole_cut c.args.job.now listing has _ (put.written listing is) put.fault _ (ends_as _ _ c.from_residual.ensures.1)

pub returns : goal.returns
returns g c = λ listing is.
    let named = rw c.as_slice.ensures.value at c.in-Ok.ensures.named in
    let has : finds c.args.job.now listing ≡ true = ∥∥₁_elim named (hlevel props) (λ led. has_named _ _ listing is _ _ led) in
    whole_put c.args.job.now listing has (c.in_ok-put_whole_part.ensures.written listing is)

use Rattle.bolt_commands.proofs.Verdicts.{comes_as}
use Rattle.bolt_commands.proofs.verdict.check_to.Goals as goal

pub returns-in-Sound : goal.returns-in-Sound
returns-in-Sound g c = comes_as c.check_sound.ensures (λ answer is. rw c.in-Sound.is is)

pub returns-in-Losses : goal.returns-in-Losses
returns-in-Losses g c = comes_as c.check_losses.ensures (λ answer is. rw c.in-Losses.is is)

pub returns-in-FoundPages : goal.returns-in-FoundPages
returns-in-FoundPages g c = comes_as c.check_found.ensures (λ answer is. rw c.in-FoundPages.is is)

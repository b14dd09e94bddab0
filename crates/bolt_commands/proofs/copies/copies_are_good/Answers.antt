use Rattle.bolt_commands.proofs.Vocabulary.{∥∥₁_map}
use Rattle.bolt_commands.proofs.copies.copies_are_good.Goals as goal

pub returns : goal.returns
returns c = λ listing one. ∥∥₁_map one (λ tree. c.whole_copies_are_good.ensures listing c.args.sequence tree c.fits.ensures)

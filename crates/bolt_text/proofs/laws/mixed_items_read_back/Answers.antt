use Rattle.bolt_text.proofs.MixedParts.{mixed_back, mixed_word}
use Rattle.bolt_text.proofs.laws.mixed_items_read_back.Goals as goal

pub returns-clause-printable : goal.returns-clause-printable
returns-clause-printable c = λ bytes are. mixed_word bytes are

pub returns-clause-same : goal.returns-clause-same
returns-clause-same c = λ bytes are. mixed_back bytes are

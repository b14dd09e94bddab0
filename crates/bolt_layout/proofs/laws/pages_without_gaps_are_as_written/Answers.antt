use Rattle.bolt_layout.proofs.AsWritten.{all_there, inline_there, page_written}
use Rattle.bolt_layout.proofs.laws.pages_without_gaps_are_as_written.Goals as goal

pub returns : goal.returns
returns c = record { page = page_written; inline = inline_there; file = all_there }

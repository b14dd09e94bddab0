use Rattle.bolt_commands.proofs.CopyFindings.{copies_brought}
use Rattle.bolt_commands.proofs.laws.copies_fail_on_what_they_hold.Goals as goal

pub returns : goal.returns
returns c = copies_brought c.layouts_fail_on_what_they_hold.ensures c.layout_has_length.ensures

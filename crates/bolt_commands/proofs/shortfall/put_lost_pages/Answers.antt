use Rattle.std.proofs.Common.{append-nil}
use Rattle.bolt_commands.proofs.shortfall.put_lost_pages.Goals as goal

pub returns : goal.returns
returns g c = rw (append-nil c.args.end.now) at c.put_pieces.ensures

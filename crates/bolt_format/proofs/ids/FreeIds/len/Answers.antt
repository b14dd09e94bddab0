use Rattle.std.proofs.Common.{sym}
use Rattle.bolt_format.proofs.FreeLemmas.{length-shown_ids}
use Rattle.bolt_format.proofs.ids.FreeIds.len.Goals as goal

pub returns : goal.returns
returns c = sym (length-shown_ids c.args.self.now)

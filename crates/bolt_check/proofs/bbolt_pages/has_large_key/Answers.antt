use Rattle.std.proofs.Common.{rules}
use Rattle.bolt_check.proofs.{AnyLemmas.any_next, Words.le-ltb}
use Rattle.bolt_check.proofs.bbolt_pages.has_large_key.Goals as goal

pub loop-i-preserved : goal.loop-i-preserved
loop-i-preserved c = search (rules, any_next, le-ltb)

use Rattle.std.proofs.Common.{rules}
use Rattle.bolt_repair.proofs.KeyWalks.{below_all}
use Rattle.bolt_repair.proofs.candidates.start.Goals as goal

pub returns-then-is_under_lesser_key : goal.returns-then-is_under_lesser_key
returns-then-is_under_lesser_key c = search (rules, below_all)

use Rattle.std.proofs.Common.{rules}
use Rattle.bolt_stats.proofs.{FigureLemmas.figure_add}
use Rattle.bolt_stats.proofs.page_stats.leaf_stats.Goals as goal

pub returns : goal.returns
returns c = search (rules, figure_add)

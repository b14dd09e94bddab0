use Rattle.std.proofs.Common.{rules}
use Rattle.std.proofs.lemmas.List.{length-map, take-map}
use Rattle.bolt_text.proofs.path_order.path_above.Goals as goal

pub returns : goal.returns
returns c = search (rules, length-map, take-map)

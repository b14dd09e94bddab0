use Rattle.std.proofs.Common.{arith}
use Rattle.bolt_lemmas.proofs.Exports.{nothing_asked}
use Rattle.bolt_bulk.proofs.{LeafPuts.entries_size, LeafPuts.inline_wrote, PutsLemmas.puts}
use Rattle.bolt_bulk.proofs.held.put_inline_value.Goals as goal

pub put_elements-requires-clause-held : goal.put_elements-requires-clause-held
put_elements-requires-clause-held g c = nothing_asked c.args.entries.now

pub put_elements-requires-clause-size : goal.put_elements-requires-clause-size
put_elements-requires-clause-size g c = let size = entries_size c.args.entries.now in omega (arith, c.requires.size)

pub returns-in_err-put_unless_empty : goal.returns-in_err-put_unless_empty
returns-in_err-put_unless_empty g c = grind (arith, puts, inline_wrote)

pub returns-in_err-put_unless_empty-2 : goal.returns-in_err-put_unless_empty-2
returns-in_err-put_unless_empty-2 g c = grind (arith, puts, inline_wrote)

pub returns : goal.returns
returns g c = grind (arith, puts, inline_wrote)

use Rattle.std.proofs.Common.{rules}
use Rattle.bolt_tree.proofs.{KeptLemmas.file_of, KeptLemmas.resumed}
use Rattle.bolt_tree.proofs.cursor.Cursor.resume.Goals as goal

pub invariant_of-self : goal.invariant_of-self
invariant_of-self c = search (rules, resumed, file_of)

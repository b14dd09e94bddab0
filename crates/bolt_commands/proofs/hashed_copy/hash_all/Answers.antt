-- The target has accepted what the hashing sink has.
use Rattle.std.proofs.lemmas.Grind.{common_steps}
use Rattle.std.proofs.Common.{arith}
use Rattle.bolt_commands.proofs.hashed_copy.hash_all.Goals as goal

pub returns-clause-copied : goal.returns-clause-copied
returns-clause-copied g c = grind (arith, common_steps)

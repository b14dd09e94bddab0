-- The copy is whole only after its layout.
use Rattle.bolt_commands.proofs.SnapshotCopies.{only_after}
use Rattle.bolt_commands.proofs.hashed_copy.copy_hashed.Goals as goal

pub returns-clause-end : goal.returns-clause-end
returns-clause-end g c = only_after _ c.hash_all-source.result.result c.put_hash.result c.put_hash.ensures.whole c.hash_all-source.ensures.end

-- Nothing is lost, so the trees are sound, and the pages that are claimed are those that ways lead to.
use Rattle.bolt_recover.proofs.Words.{recovery_claimed, recovery_file, recovery_meta}
use Rattle.bolt_recover.proofs.WholeFiles.{kept_used, sound_trees}
use Rattle.bolt_recover.proofs.recovery.Recovery.check.Goals as goal

pub check_claimed-checked-requires-clause-trees : goal.check_claimed-checked-requires-clause-trees
unfolding recovery_file recovery_meta
check_claimed-checked-requires-clause-trees c =
    rw (← c.args.self.on.meta) at (sound_trees (recovery_file c.args.self) (recovery_meta c.args.self) c.requires.whole)

pub check_claimed-checked-requires-clause-used : goal.check_claimed-checked-requires-clause-used
unfolding recovery_claimed recovery_file recovery_meta
check_claimed-checked-requires-clause-used c =
    rw (← c.args.self.on.meta) at
    (kept_used (recovery_file c.args.self) (recovery_meta c.args.self) (recovery_claimed c.args.self) c.requires.kept c.requires.whole)

pub returns-clause-trees : goal.returns-clause-trees
returns-clause-trees c = sound_trees (recovery_file c.args.self) (recovery_meta c.args.self) c.requires.whole

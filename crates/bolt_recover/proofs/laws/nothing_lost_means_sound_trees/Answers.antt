use Rattle.bolt_recover.proofs.{KeptWays.sound, WholeFiles.sound_trees}
use Rattle.bolt_recover.proofs.laws.nothing_lost_means_sound_trees.Goals as goal

pub returns-clause-ways : goal.returns-clause-ways
returns-clause-ways c = sound

pub returns-clause-losses : goal.returns-clause-losses
returns-clause-losses c = sound_trees

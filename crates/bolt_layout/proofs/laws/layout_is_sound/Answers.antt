use Rattle.bolt_layout.proofs.SoundCopies.{sound_copy}
use Rattle.bolt_layout.proofs.laws.layout_is_sound.Goals as goal

pub returns : goal.returns
returns c = sound_copy (λ file meta passes. (c.sound_trees_pass_the_tests.ensures file meta).1 passes) c.a_tree_lists_its_bucket.ensures

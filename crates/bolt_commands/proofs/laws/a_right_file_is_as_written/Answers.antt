use Rattle.bolt_commands.proofs.WrittenPages.{right_written}
use Rattle.bolt_commands.proofs.laws.a_right_file_is_as_written.Goals as goal

pub returns : goal.returns
returns c = right_written (record {
  kept = c.nothing_lost_keeps_each_way.ensures;
  loses = c.sound_trees_lose_nothing.ensures;
  sound = c.nothing_lost_means_sound_trees.ensures.losses;
  written = c.pages_without_gaps_are_as_written.ensures.file;
})

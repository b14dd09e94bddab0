use Rattle.bolt_commands.proofs.GoodCopies.{good_copies}
use Rattle.bolt_commands.proofs.laws.whole_copies_are_good.Goals as goal

pub returns : goal.returns
returns c = good_copies (record {
  sound = c.a_copy_lists_the_same.ensures;
  long = c.layout_has_length.ensures;
  prefixes = c.prefixes_are_refused.ensures;
  whole = c.layouts_have_no_gaps.ensures;
  metas_more = c.trailing_bytes_change_nothing.ensures.metas;
  chosen_more = c.trailing_bytes_change_nothing.ensures.chosen;
  sound_more = c.trailing_bytes_change_nothing.ensures.sound;
  listing_more = λ file more meta listing all. (c.trailing_bytes_change_nothing.ensures.listing file more meta listing all).0;
  snapshot = c.hashed_blocks_are_a_snapshot.ensures.snapshot;
  cut = c.hashed_blocks_are_a_snapshot.ensures.cut;
})

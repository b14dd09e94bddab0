use Rattle.bolt_layout.proofs.NoGaps.{no_gaps}
use Rattle.bolt_layout.proofs.laws.layouts_have_no_gaps.Goals as goal

pub returns : goal.returns
returns c which page_size tree sequence asked small =
    no_gaps (λ file meta passes. (c.sound_trees_pass_the_tests.ensures file meta).1 passes) which page_size tree sequence asked small

use Rattle.bolt_layout.proofs.BboltCopies.{layout_brought}
use Rattle.bolt_layout.proofs.laws.layouts_fail_on_what_they_hold.Goals as goal

pub returns : goal.returns
returns c which listing page_size sequence one asked small findings are =
    layout_brought (λ file meta passes. (c.sound_trees_pass_the_tests.ensures file meta).1 passes) which page_size _ sequence asked small findings are

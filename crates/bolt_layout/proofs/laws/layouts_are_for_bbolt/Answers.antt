use Rattle.bolt_layout.proofs.BboltCopies.{balanced_for_bbolt, listing_holds, listing_short, tree_lone}
use Rattle.bolt_layout.proofs.laws.layouts_are_for_bbolt.Goals as goal

pub returns-clause-balanced : goal.returns-clause-balanced
returns-clause-balanced c which listing page_size sequence one asked small findings are for_bbolt balanced =
    balanced_for_bbolt (λ file meta passes. (c.sound_trees_pass_the_tests.ensures file meta).1 passes) which balanced page_size _ sequence asked small
    (listing_short listing one for_bbolt) (listing_holds listing one for_bbolt) findings are

pub returns-clause-plain : goal.returns-clause-plain
returns-clause-plain c which listing page_size sequence one asked small findings are for_bbolt =
    tree_lone (λ file meta passes. (c.sound_trees_pass_the_tests.ensures file meta).1 passes) which page_size _ sequence asked small
    (listing_short listing one for_bbolt) (listing_holds listing one for_bbolt) findings are

use Rattle.bolt_repair.proofs.RepairedListings.{tree_of_repaired}
use Rattle.bolt_repair.proofs.laws.repaired_listing_is_of_a_tree.Goals as goal

pub returns-clause-rises : goal.returns-clause-rises
returns-clause-rises c =
    λ file meta search listing is.
    (tree_of_repaired file meta search listing is (c.recovered_listing_is_of_a_tree.ensures file meta is.repair.recovered is.repair.recovers)).0

pub returns-clause-tree : goal.returns-clause-tree
returns-clause-tree c =
    λ file meta search listing is.
    (tree_of_repaired file meta search listing is (c.recovered_listing_is_of_a_tree.ensures file meta is.repair.recovered is.repair.recovers)).1

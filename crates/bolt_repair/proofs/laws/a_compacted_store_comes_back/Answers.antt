use Rattle.std.proofs.Common.{false}
use Rattle.bolt_repair.proofs.RepairedStores.{comes_back}
use Rattle.bolt_repair.proofs.laws.a_compacted_store_comes_back.Goals as goal

pub returns : goal.returns
returns c = λ file meta listing l repaired is.
    let (tree, of, same) = c.listing_is_of_a_tree.ensures l.before l.under listing l.was_sound l.listed in
    comes_back file meta listing repaired l is (c.found_pages_are_one.ensures file meta) (tree, same)
    (c.repaired_listing_is_of_a_tree.ensures.rises file meta false repaired is)

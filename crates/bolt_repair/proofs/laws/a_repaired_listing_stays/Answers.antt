-- It has all that a repair adds, and nothing that it leaves out.
use Rattle.bolt_repair.proofs.RepairLaws.{stays}
use Rattle.bolt_repair.proofs.laws.a_repaired_listing_stays.Goals as goal

pub returns : goal.returns
returns c = λ file copy meta under search listing again is trees lists repaired.
    let (is_made, makes, same) = c.sound_trees_put_nothing_back.ensures copy under listing again trees lists repaired in
    stays file meta search listing again is is_made makes same

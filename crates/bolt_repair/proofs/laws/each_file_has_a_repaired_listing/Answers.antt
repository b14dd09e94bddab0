use Rattle.bolt_repair.proofs.RepairExists.{has_full_repair, has_repaired}
use Rattle.bolt_repair.proofs.laws.each_file_has_a_repaired_listing.Goals as goal

pub returns-clause-listing : goal.returns-clause-listing
returns-clause-listing c =
    λ file meta search recovered recovers lacks. let (found, are_found) = c.each_file_has_sought_pages.ensures file meta search in
    has_repaired file meta search found are_found recovered recovers lacks

pub returns-clause-repair : goal.returns-clause-repair
returns-clause-repair c =
    λ file meta search recovered recovers lacks. let (found, are_found) = c.each_file_has_sought_pages.ensures file meta search in
    has_full_repair file meta search found are_found recovered recovers lacks

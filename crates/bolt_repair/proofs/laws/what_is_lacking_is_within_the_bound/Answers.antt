-- Keys of revisions are in the order of their numbers.
use Rattle.bolt_repair.proofs.BoundLemmas.{lacking, last_above}
use Rattle.bolt_repair.proofs.laws.what_is_lacking_is_within_the_bound.Goals as goal

pub returns-clause-lacking : goal.returns-clause-lacking
returns-clause-lacking c = lacking c.revision_keys_have_one_spelling.ensures.spelled c.revision_keys_are_in_the_order_of_their_numbers.ensures

pub returns-clause-last : goal.returns-clause-last
returns-clause-last c = last_above c.revision_keys_have_one_spelling.ensures.spelled c.revision_keys_are_in_the_order_of_their_numbers.ensures

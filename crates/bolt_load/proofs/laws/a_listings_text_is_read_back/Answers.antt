-- Each line is read back, and stands at a right place.
use Rattle.bolt_load.proofs.ListingTexts.{no_text_is_cut, no_text_is_right, text_is_read_back, text_is_right}
use Rattle.bolt_load.proofs.laws.a_listings_text_is_read_back.Goals as goal

pub returns-clause-right : goal.returns-clause-right
returns-clause-right c = λ listing some one rises bytes. text_is_right listing one rises bytes some

pub returns-clause-none : goal.returns-clause-none
returns-clause-none c = no_text_is_cut

pub returns-clause-empty : goal.returns-clause-empty
returns-clause-empty c = no_text_is_right

pub returns-clause-listing : goal.returns-clause-listing
returns-clause-listing c = text_is_read_back

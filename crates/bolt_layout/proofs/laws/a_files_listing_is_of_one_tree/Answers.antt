use Rattle.bolt_layout.proofs.FileTrees.{sound_fits}
use Rattle.bolt_layout.proofs.laws.a_files_listing_is_of_one_tree.Goals as goal

pub returns : goal.returns
returns c = λ file meta listing bytes sound lists.
    c.a_fit_listing_is_of_one_tree.ensures listing (sound_fits c.listing_is_of_a_tree.ensures file meta listing bytes sound lists)

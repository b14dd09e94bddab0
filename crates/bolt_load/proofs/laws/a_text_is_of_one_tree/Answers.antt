-- The tree grows line by line, and the format can hold it.
use Rattle.bolt_load.proofs.{Words.text_members, StoredTexts.text_fits, TextTrees.text_tree}
use Rattle.bolt_load.proofs.laws.a_text_is_of_one_tree.Goals as goal

pub returns-clause-tree : goal.returns-clause-tree
returns-clause-tree c = λ text right. c.a_fit_listing_is_of_one_tree.ensures (text_members text) (text_fits text right)

pub returns-clause-rises : goal.returns-clause-rises
returns-clause-rises c text right = (text_tree text right).2

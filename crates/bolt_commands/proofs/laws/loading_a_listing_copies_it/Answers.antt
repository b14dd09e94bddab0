-- What was listed is read back.
use Rattle.bolt_commands.proofs.ListedLoads.{listed_loads}
use Rattle.bolt_commands.proofs.laws.loading_a_listing_copies_it.Goals as goal

pub returns : goal.returns
returns g c = listed_loads (record {
  below_root = c.all_is_below_the_root.ensures;
  hex_lines = c.hex_lines_are_the_listing_text.ensures;
  one_tree = c.a_files_listing_is_of_one_tree.ensures;
  of_bytes = c.a_files_listing_is_of_bytes.ensures;
  right = c.a_listings_text_is_read_back.ensures.right;
  read_back = c.a_listings_text_is_read_back.ensures.listing;
  no_text = c.a_listings_text_is_read_back.ensures.none;
  no_listing = c.a_listings_text_is_read_back.ensures.empty;
  no_fault = c.a_right_text_has_no_fault.ensures;
}) g.O.Sink g.T.Sink

-- What the text of a listing shows, and what its members show: the text, the part of it that is left, and the path of the last member.
use Rattle.std.specs.Prelude.{List, ⊤}
use Rattle.bolt_tree.specs.{Listing.Member, Paths.Path, Paths.path_of}
use Rattle.bolt_text.specs.{LineMembers.text_members, Lines.Text}
use Rattle.bolt_load.specs.{declared.line_members.LineMembers.LineMembers, declared.listing_text.ListingText.ListingText}

unfoldable pub read_text : ListingText → Text
read_text listing = listing.text.now

unfoldable pub members_text : LineMembers → Text
members_text members = members.text.now

unfoldable pub members_left : LineMembers → Text
members_left members = members.text_left.now

-- the members that lines tell
abbrev pub listing_left : LineMembers → List Member
listing_left members = text_members (members_left members)

unfoldable pub members_path : LineMembers → Path
members_path members = path_of members.path.items

-- the path of the member before that
unfoldable pub members_before : LineMembers → Path
members_before members = path_of members.path_before.items

-- all that members of a text show, to be unfolded together
unfoldable pub members_viewers : ⊤
unfolding members_before members_left members_path members_text
members_viewers = tt

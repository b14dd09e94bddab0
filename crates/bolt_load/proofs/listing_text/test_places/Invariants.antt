-- The lines so far are right.
use Rattle.std.proofs.Common.{length}
use Rattle.bolt_load.proofs.{Words.members_left, Words.members_path, PlacedLines.HasPlaced}
use Rattle.bolt_load.proofs.listing_text.test_places.Given as goal

abbrev pub invariant-loop-members : goal.invariant-loop-members
invariant-loop-members l = HasPlaced l.text (members_left l.members) (members_path l.members) l.is_bucket l.line

abbrev pub decreases-loop-members : goal.decreases-loop-members
decreases-loop-members l = length (members_left l.members)

-- What a search of a file says is lost of it: docs/RECOVERY.md, "Losses".
use Rattle.bolt_recover.specs.{Losses.LostView, Private.TreesLeft.lost_of, declared.lost_and_found.LostAndFound.LostAndFound}

unfoldable pub all_lost : LostAndFound → LostView
all_lost searched = lost_of searched.trees

-- An entry of the code as it is shown.
use Rattle.bolt_tree.specs.Entries as entries
use Rattle.bolt_tree.specs.{declared.entry.Entry.Entry, declared.entry.Item.Item, declared.entry.Item.TheVariants.Bucket}
use Rattle.bolt_tree.specs.{declared.entry.Item.TheVariants.Value}

abbrev pub item_view : Item → entries.Item
item_view (Value value) = entries.Value value.now
item_view (Bucket sequence) = entries.Bucket sequence

abbrev pub shown_entry : Entry → entries.EntryView
shown_entry entry = record { key = entry.key.now; item = item_view entry.item }

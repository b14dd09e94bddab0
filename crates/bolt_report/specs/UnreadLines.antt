-- The lines of entries that a repair doesn't copy: docs/COMMANDS.md, "etcd-repair".
use Rattle.std.specs.Prelude.{ℕ, List, codes, flat_map}
use Rattle.bolt_etcd.specs.{Check.CheckLines.unread_entry_then, Wire.UnreadEntries.UnreadView}

-- the line of an entry that etcd can't read
abbrev pub unread_line : UnreadView → List ℕ
unread_line entry = unread_entry_then entry (codes "; not copied\n")

-- the line of each entry that etcd can't read
abbrev pub unread_text : List UnreadView → List ℕ
unread_text entries = flat_map unread_line entries

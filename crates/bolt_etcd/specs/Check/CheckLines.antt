-- What is wrong with a store, line by line: docs/COMMANDS.md, "etcd-check".
use Rattle.std.specs.Prelude.{ℕ, false, List, [], ◌∷◌, ◌++◌, ◌==◌, codes, decimal, if◌then◌else◌}
use Rattle.std.specs.Fmt.{digits}
use Rattle.bolt_text.specs.{Forms.item_text, declared.forms.Form.TheVariants.Hex, declared.forms.Form.TheVariants.Printable}
use Rattle.bolt_etcd.specs.{Check.NameFaults.NameFaultView, Wire.UnreadEntries.No_record, Wire.UnreadEntries.UnreadView, Wire.UnreadEntries.Unread_key}
use Rattle.bolt_etcd.specs.{Wire.Revisions.RevisionView}
use Rattle.bolt_etcd.specs.declared.{check.missing.Missing.Missing, check.missing.Missing.TheVariants.Revisions}
use Rattle.bolt_etcd.specs.declared.{check.missing.Missing.TheVariants.Transactions, wire.revision_key.RevisionKey.RevisionKey}

-- a revision by its numbers, `MAIN.SUB`, and then the rest of the line
abbrev pub numbers_then : ℕ → ℕ → List ℕ → List ℕ
numbers_then main sub rest = decimal main ++ (codes "." ++ (decimal sub ++ rest))

abbrev pub revision_then : RevisionKey → List ℕ → List ℕ
revision_then k rest = codes "revision " ++ numbers_then k.main k.sub rest

-- an entry that is neither a revision nor a mark, what is wrong with it, and then the rest of the line
abbrev pub unread_entry_then : UnreadView → List ℕ → List ℕ
unread_entry_then (Unread_key key) rest = codes "key " ++ (item_text Hex key ++ (codes ": not a revision" ++ rest))
unread_entry_then (No_record k) rest = revision_then k (codes ": not a record" ++ rest)

-- the line of an entry that is neither a revision nor a mark
abbrev pub unread_entry_line : UnreadView → List ℕ
unread_entry_line other = unread_entry_then other (codes "\n")

-- the line of a record of another revision
abbrev pub misplaced_line : RevisionView → List ℕ
misplaced_line r = revision_then r.key (codes ": record of revision " ++ (decimal r.content.modified ++ codes "\n"))

-- the line of what is missing by its number
abbrev pub missing_line : Missing → List ℕ
missing_line (Transactions first last) =
    if first == last then codes "revision " ++ (decimal first ++ codes ": missing\n")
    else codes "revisions " ++ (decimal first ++ (codes " to " ++ (decimal last ++ codes ": missing\n")))
missing_line (Revisions main first last) =
    if first == last then codes "revision " ++ numbers_then main first (codes ": missing\n")
    else codes "revisions " ++ numbers_then main first (codes " to " ++ numbers_then main last (codes ": missing\n"))

-- a revision with its name, and then the rest
abbrev pub named_then : RevisionView → List ℕ → List ℕ
named_then r rest = revision_then r.key (codes " of " ++ (item_text Printable r.content.name ++ rest))

abbrev pub one_before_line : RevisionView → List ℕ
one_before_line r = named_then r (codes ": one before it is missing\n")

abbrev pub lease_line : RevisionView → List ℕ
lease_line r = named_then r (codes ": lease " ++ (digits 16 false r.content.lease ++ codes " is missing\n"))

-- a line for each thing that is missing of a revision
abbrev pub name_fault_lines : NameFaultView → List (List ℕ)
name_fault_lines f = (if f.one_before then one_before_line f.revision ∷ [] else []) ++ (if f.lease then lease_line f.revision ∷ [] else [])

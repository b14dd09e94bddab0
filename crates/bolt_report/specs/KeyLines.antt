-- The keys of a bucket as a text: docs/COMMANDS.md, "keys".
use Rattle.std.specs.Prelude.{ℕ, List, [], filter, flat_map, if◌then◌else◌}
use Rattle.bolt_format.specs.Elements.{LeafElement}
use Rattle.bolt_tree.specs.{Cursors.cursor_checked, Cursors.cursor_start, EntriesLeft.ForEntries}
use Rattle.bolt_tree.specs.{declared.cursor.Cursor.Cursor}
use Rattle.bolt_text.specs.{Forms.value_text, declared.forms.Form.Form}

-- the keys of all entries, a line for each
abbrev pub keys_text : Form → List LeafElement → List ℕ
keys_text form entries = flat_map (λ (e : LeafElement). value_text form e.key) entries

-- the keys of the entries that are buckets, a line for each
abbrev pub buckets_text : Form → List LeafElement → List ℕ
buckets_text form entries = keys_text form (filter (λ (e : LeafElement). e.is_bucket) entries)

-- a property holds of the entries of a cursor's bucket
abbrev pub ForCursor : Cursor → (List LeafElement → Type 0) → Type 0
ForCursor cursor P = ForEntries (cursor_checked cursor) (cursor_start cursor) P

-- what one entry adds to the keys of buckets
abbrev pub bucket_name : Form → LeafElement → List ℕ
bucket_name form e = if e.is_bucket then value_text form e.key else []

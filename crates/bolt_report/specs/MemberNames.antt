-- The keys in a bucket of a listing as a text: docs/COMMANDS.md, "Recovery".
use Rattle.std.specs.Prelude.{◌==◌, ℕ, Bool, List, [], ◌∷◌, Option, Some, None, flat_map, if◌then◌else◌}
use Rattle.std.specs.{List.starts_with, Str.bytes_eq}
use Rattle.bolt_check.specs.Keys.{Key}
use Rattle.bolt_report.specs.{declared.name_lines.Names.Names, declared.name_lines.NamesIn.NamesIn}
use Rattle.bolt_report.specs.{declared.name_lines.Names.TheVariants.BeginningWith, declared.name_lines.Names.TheVariants.Buckets}
use Rattle.bolt_text.specs.{Forms.value_text, declared.forms.Form.Form}
use Rattle.bolt_tree.specs.{Entries.Item, Listing.Member, ListingParts.has_bucket, ListingParts.is_bucket, Paths.Path, Paths.path_of}

-- a path lies in the bucket at another if it has one part more, its key there
abbrev pub key_in : (bucket path : Path) → Option Key
key_in [] (key ∷ []) = Some key
key_in (part ∷ bucket) (first ∷ path) = if bytes_eq part first then key_in bucket path else None
key_in _ _ = None

-- which entries of a bucket are named: those whose keys begin with these bytes, or the buckets
abbrev pub WantedNames : Type 0
WantedNames = Key → Item → Bool

abbrev pub begins_so : (prefix : Key) → WantedNames
begins_so prefix key item = starts_with (λ a b. a == b) key prefix

abbrev pub names_bucket : WantedNames
names_bucket key item = is_bucket item

abbrev pub is_wanted : Names → WantedNames
is_wanted (BeginningWith prefix) = begins_so prefix.now
is_wanted Buckets = names_bucket

-- the line of an entry, if it is wanted, and of a member of a listing, if it is an entry of the bucket
abbrev pub entry_name : Form → WantedNames → Item → Option Key → List ℕ
entry_name form wanted item None = []
entry_name form wanted item (Some key) = if wanted key item then value_text form key else []

abbrev pub member_name : Form → WantedNames → (bucket : Path) → Member → List ℕ
member_name form wanted bucket m = entry_name form wanted m.1 (key_in bucket m.0)

-- the lines of the wanted entries in a bucket of a listing, and nothing if the listing doesn't have the bucket
abbrev pub names_text : Form → WantedNames → (bucket : Path) → List Member → List ℕ
names_text form wanted bucket listing = if has_bucket bucket listing then flat_map (member_name form wanted bucket) listing else []

-- the lines of the entries that are asked for
abbrev pub asked_name : Form → NamesIn → Member → List ℕ
asked_name form asked m = member_name form (is_wanted asked.names) (path_of asked.bucket.now) m

abbrev pub asked_names : Form → NamesIn → List Member → List ℕ
asked_names form asked listing = names_text form (is_wanted asked.names) (path_of asked.bucket.now) listing

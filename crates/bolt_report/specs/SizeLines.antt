-- The sizes of the buckets in a bucket as a text: docs/COMMANDS.md, "buckets".
use Rattle.std.specs.Prelude.{◌≡◌, ℕ, ◌+◌, ◌++◌, List, [], ◌∷◌, Some, codes, decimal, filter, flat_map, map, if◌then◌else◌}
use Rattle.std.specs.List.{AllByRecursion}
use Rattle.json.specs.Json as json
use Rattle.json.specs.Json.{member, no_members, object}
use Rattle.bolt_format.specs.{Elements.LeafElement, declared.meta.Meta.Meta}
use Rattle.bolt_check.specs.{CheckedFiles.bytes_of, CheckedFiles.meta_of, Counts.saturated}
use Rattle.bolt_tree.specs.{Buckets.bucket_checked, Entries.start_of, declared.bucket.Bucket.Bucket, EntriesLeft.ForBucket}
use Rattle.bolt_report.specs.FigureForms.{figures_then}
use Rattle.bolt_text.specs.{Forms.is_json, Forms.json_in, Forms.json_text, Forms.value_text, Lines.line, declared.forms.Form.Form}
use Rattle.bolt_stats.specs.{StatsOf.IsStatsOf, declared.figures.Stats.Stats}

-- the bytes used and allocated; a sum above 2^64 - 1 saturates there
abbrev pub bytes_used : Stats → ℕ
bytes_used stats = saturated (stats.branch_used + stats.leaf_used + stats.inline_used)

abbrev pub bytes_allocated : Stats → ℕ
bytes_allocated stats = saturated (stats.branch_allocated + stats.leaf_allocated + stats.inline_used)

-- the number of keys, the bytes used and the bytes allocated, each followed by a space
unfoldable pub size_columns : Stats → List ℕ
size_columns stats = (decimal stats.keys ++ codes " ") ++ ((decimal (bytes_used stats) ++ codes " ") ++ (decimal (bytes_allocated stats) ++ codes " "))

-- the sizes of a bucket as the beginning of an object, up to its name
abbrev pub size_members : Stats → List ℕ
size_members stats =
    codes "{\"keys\":" ++ (decimal stats.keys
    ++ (codes ",\"used\":" ++ (decimal (bytes_used stats) ++ (codes ",\"allocated\":" ++ (decimal (bytes_allocated stats) ++ codes ",\"name\":")))))

-- the figures of a bucket's size as an object, with the name as JSON
abbrev pub size_json : Stats → json.Json → json.Json
size_json stats name = object (figures_then
    ((codes "keys", Some stats.keys) ∷ (codes "used", Some (bytes_used stats)) ∷ (codes "allocated", Some (bytes_allocated stats)) ∷ [])
    (member (codes "name") name no_members))

-- the line of a bucket with this name: the columns and then the name in a form, or an object
abbrev pub size_text : Form → Stats → List ℕ → List ℕ
size_text form stats name = if is_json form then line (json_text (size_json stats (json_in form name))) else size_columns stats ++ value_text form name

-- a bucket's entry, with the figures of that bucket and all buckets in it
pub record Sized : Type 0 where
  pub entry : LeafElement
  pub stats : Stats

abbrev pub size_line : Form → Sized → List ℕ
size_line form sized = size_text form sized.stats sized.entry.key

abbrev pub sizes_text : Form → List Sized → List ℕ
sizes_text form sized = flat_map (size_line form) sized

-- the buckets among these entries in their order, each with its figures
pub record AreSized (file : List ℕ) (meta : Meta) (entries : List LeafElement) (sized : List Sized) : Type 0 where
  pub buckets : map (λ (s : Sized). s.entry) sized ≡ filter (λ (e : LeafElement). e.is_bucket) entries
  pub stats : AllByRecursion (λ (s : Sized). IsStatsOf file meta (start_of s.entry.value) s.stats) sized

-- a property holds of the buckets in a bucket with their figures
abbrev pub ForSized : Bucket → (List Sized → Type 0) → Type 0
ForSized bucket P =
    ForBucket bucket (λ entries. (sized : List Sized) → AreSized (bytes_of (bucket_checked bucket)) (meta_of (bucket_checked bucket)) entries sized → P sized)

-- What `buckets`, `keys` and `get` answer: docs/COMMANDS.md, "buckets", "keys" and "get".
use Rattle.std.specs.Prelude.{◌≡◌, ◌⊎◌, Contains, ℕ, List, [], Bool, true, false, Option, Some, None, Ok, Err, if◌then◌else◌}
use Rattle.bolt_format.specs.{Elements.LeafElement, declared.meta.Meta.Meta}
use Rattle.bolt_recover.specs.Losses.{LostView}
use Rattle.bolt_report.specs.{KeyLines.buckets_text, KeyLines.keys_text, MemberNames.WantedNames, MemberNames.begins_so, MemberNames.names_bucket}
use Rattle.bolt_report.specs.{MemberNames.names_text, KeyPrefixes.with_prefix}
use Rattle.bolt_report.specs.SizeLines.{AreSized, Sized, sizes_text}
use Rattle.bolt_text.specs.{Forms.value_text, Forms.item_text, declared.forms.Form.Form}
use Rattle.bolt_tree.specs.{Entries.AreEntries, Entries.IsEntry, Entries.Start, Entries.Value, Listing.Member, ListingParts.has_bucket}
use Rattle.bolt_tree.specs.{Paths.Path}
use Rattle.bolt_commands.specs.{declared.shortfall.Shortfall.Shortfall, declared.failure.Failure.Failure}
use Rattle.bolt_commands.specs.Answers.{Answer, IsPrinted, JobEnding, Late, Short, in_json, refused}
use Rattle.bolt_commands.specs.FilesRead.{HoldsIn, IsLackingTo, IsReadAnswer, IsReadTo, IsUnreadTo, LeadsNowhere, LeadsTo, end_listing}
use Rattle.bolt_tree.specs.Paths.{path_above}
use Rattle.bolt_job.specs.{declared.choices.BucketsShown.BucketsShown, declared.choices.Extent.TheVariants.Losses}
use Rattle.bolt_job.specs.{declared.bucket_commands.BucketsJob.BucketsJob}
use Rattle.bolt_job.specs.{declared.bucket_commands.GetJob.GetJob, declared.bucket_commands.KeysJob.KeysJob, declared.choices.MetaChoice.MetaChoice}
use Rattle.bolt_job.specs.{PlainWords.owned_path}
use Rattle.bolt_job.specs.declared.choices.BucketsShown.TheVariants as shown
use Rattle.bolt_commands.specs.declared.failure.Failure.TheVariants as failure

-- a text of the entries of the bucket that the path leads to; or it leads to none
abbrev pub IsEntriesAnswer : List ℕ → Path → Form → (List LeafElement → List ℕ) → Meta → Answer → Type 0
IsEntriesAnswer file path form text meta answer =
    ((bucket : Start) × (entries : List LeafElement) × LeadsTo file meta path bucket × AreEntries (IsEntry file meta) bucket entries
    × IsPrinted (in_json Short form) (text entries) (Ok 0) answer)
    ⊎ (LeadsNowhere file meta path × (answer ≡ refused failure.NoBucket))

-- The path holds no value: all of its parts but the last lead to a bucket, or they lead to none.
abbrev pub HoldsNone : List ℕ → Path → Meta → Failure → Type 0
HoldsNone file path meta reason =
    ((reason ≡ failure.NoKey) × ((value : List ℕ) → HoldsIn file meta path (Value value) → ⊥)
    × ((bucket : Start) × ∥ LeadsTo file meta (path_above path) bucket ∥₁))
    ⊎ ((reason ≡ failure.NoBucket) × LeadsNowhere file meta (path_above path))

-- how a value is printed: with a line feed or without one
abbrev pub value_shown : Form → (no_newline : Bool) → List ℕ → List ℕ
value_shown form no_newline value = if no_newline then item_text form value else value_text form value

-- the value that the path holds; or why it holds none
abbrev pub IsGetAnswer : List ℕ → GetJob → Meta → Answer → Type 0
IsGetAnswer file job meta answer =
    ((value : List ℕ) × HoldsIn file meta (owned_path job.path.items) (Value value)
    × IsPrinted (in_json Short job.form) (value_shown job.form job.no_newline value) (Ok 0) answer)
    ⊎ ((reason : Failure) × HoldsNone file (owned_path job.path.items) meta reason × (answer ≡ refused reason))

-- The sizes of the buckets in the bucket that the path leads to, or memory ran out before the last byte of them was written; or the path
-- leads to no bucket.
abbrev pub IsSizesAnswer : List ℕ → Path → Form → Meta → Answer → Type 0
IsSizesAnswer file path form meta answer =
    ((bucket : Start) × (entries : List LeafElement) × (sized : List Sized) × LeadsTo file meta path bucket × AreEntries (IsEntry file meta) bucket entries
    × AreSized file meta entries sized × IsPrinted Short (sizes_text form sized) (Ok 0) answer)
    ⊎ (LeadsNowhere file meta path × (answer ≡ refused failure.NoBucket))

-- an answer of what is recovered and of what is lacking; or why nothing is recovered
abbrev pub IsRecoveredAnswer : List ℕ → MetaChoice → (List Member → Option Shortfall → Answer → Type 0) → Answer → Type 0
IsRecoveredAnswer file choice IsWanted answer =
    ((meta : Meta) × (listing : List Member) × (lost : LostView) × IsReadTo Losses file choice meta listing lost []
    × (lacking : Option Shortfall) × IsLackingTo Losses file choice lost lacking × IsWanted listing lacking answer)
    ⊎ ((why : Failure) × IsUnreadTo Losses file choice why × (answer ≡ refused why))

-- why something isn't there: if anything is lacking, that may be
abbrev pub missing : (none : Failure) (maybe_lost : Shortfall → Failure) → Option Shortfall → Failure
missing none maybe_lost None = none
missing none maybe_lost (Some lacking) = maybe_lost lacking

abbrev pub no_bucket : Option Shortfall → Failure
no_bucket lacking = missing failure.NoBucket failure.BucketMaybeLost lacking

abbrev pub no_key : Option Shortfall → Failure
no_key lacking = missing failure.NoKey failure.KeyMaybeLost lacking

-- the names that are wanted in a bucket of the listing, and then what is lacking; or the bucket isn't there
abbrev pub names_ending : Path → List Member → Option Shortfall → JobEnding
names_ending path listing lacking = if has_bucket path listing then end_listing lacking else Err (no_bucket lacking)

abbrev pub IsNamesAnswer : Form → WantedNames → Path → List Member → Option Shortfall → Answer → Type 0
IsNamesAnswer form wanted path listing lacking answer = IsPrinted Late (names_text form wanted path listing) (names_ending path listing lacking) answer

-- why a listing has no value at a path
abbrev pub no_value : Path → List Member → Option Shortfall → Failure
no_value path listing lacking = if has_bucket (path_above path) listing then no_key lacking else no_bucket lacking

-- the value that the listing has at the path, and then what is lacking; or it has none
abbrev pub IsRecoveredValue : GetJob → List Member → Option Shortfall → Answer → Type 0
IsRecoveredValue job listing lacking answer =
    let path = owned_path job.path.items in
    ((value : List ℕ) × Contains listing (path, Value value)
    × IsPrinted (in_json Short job.form) (value_shown job.form job.no_newline value) (end_listing lacking) answer)
    ⊎ (((value : List ℕ) → Contains listing (path, Value value) → ⊥) × (answer ≡ refused (no_value path listing lacking)))

-- the names of the buckets, or of those that are recovered, or their sizes, of a file under a meta
abbrev pub IsBucketsShown : BucketsShown → List ℕ → MetaChoice → BucketsJob → Answer → Type 0
IsBucketsShown (shown.Names false) file choice job answer =
    IsReadAnswer file choice (IsEntriesAnswer file (owned_path job.path.items) job.form (buckets_text job.form)) answer
IsBucketsShown (shown.Names true) file choice job answer =
    IsRecoveredAnswer file choice (IsNamesAnswer job.form names_bucket (owned_path job.path.items)) answer
IsBucketsShown shown.Sizes file choice job answer = IsReadAnswer file choice (IsSizesAnswer file (owned_path job.path.items) job.form) answer

abbrev pub IsBucketsPrint : BucketsJob → List ℕ → Answer → Type 0
IsBucketsPrint job file answer = IsBucketsShown job.shown file job.meta job answer

-- the keys, or those that are recovered
abbrev pub IsKeysShown : (recover : Bool) → List ℕ → MetaChoice → KeysJob → Answer → Type 0
IsKeysShown false file choice job answer =
    IsReadAnswer file choice
    (IsEntriesAnswer file (owned_path job.path.items) job.form (λ entries. keys_text job.form (with_prefix job.prefix.items entries))) answer
IsKeysShown true file choice job answer = IsRecoveredAnswer file choice (IsNamesAnswer job.form (begins_so job.prefix.items) (owned_path job.path.items)) answer

abbrev pub IsKeysPrint : KeysJob → List ℕ → Answer → Type 0
IsKeysPrint job file answer = IsKeysShown job.recover file job.meta job answer

-- the value, or that which is recovered
abbrev pub IsValueShown : (recover : Bool) → List ℕ → MetaChoice → GetJob → Answer → Type 0
IsValueShown false file choice job answer = IsReadAnswer file choice (IsGetAnswer file job) answer
IsValueShown true file choice job answer = IsRecoveredAnswer file choice (IsRecoveredValue job) answer

abbrev pub IsGetPrint : GetJob → List ℕ → Answer → Type 0
IsGetPrint job file answer = IsValueShown job.recover file job.meta job answer

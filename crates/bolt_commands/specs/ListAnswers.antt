-- What `list` answers: docs/COMMANDS.md, "list".
use Rattle.std.specs.Prelude.{◌≡◌, ◌⊎◌, ℕ, List, Option, Err, if◌then◌else◌}
use Rattle.bolt_format.specs.declared.meta.Meta.{Meta}
use Rattle.bolt_recover.specs.Losses.{LostView}
use Rattle.bolt_report.specs.FoundLines.{FoundView}
use Rattle.bolt_text.specs.{ListForms.listing_lines, declared.forms.ListForm.ListForm}
use Rattle.bolt_tree.specs.{Listing.Member, Listing.rest_from, ListingParts.bucket_part, ListingParts.has_bucket, Paths.Path}
use Rattle.bolt_commands.specs.{declared.shortfall.Shortfall.Shortfall, declared.failure.Failure.Failure, Answers.Answer, Answers.IsPrinted}
use Rattle.bolt_commands.specs.Answers.{JobEnding, Late, refused}
use Rattle.bolt_commands.specs.FilesRead.{IsLackingTo, IsReadTo, IsUnreadTo, end_listing}
use Rattle.bolt_job.specs.{declared.choices.Extent.Extent, declared.bucket_commands.ListJob.ListJob, declared.choices.MetaChoice.MetaChoice}
use Rattle.bolt_job.specs.{PlainWords.owned_path}
use Rattle.bolt_commands.specs.declared.failure.Failure.TheVariants as failure

-- a line for each member of a listing at and below the bucket at a path that doesn't come before another path
abbrev pub listing_part_text : ListForm → (path from : Path) → List Member → List ℕ
listing_part_text form path from listing = listing_lines form (rest_from from (bucket_part path listing))

-- if the listing doesn't have that bucket, this is reported
abbrev pub part_ending : Path → List Member → JobEnding → JobEnding
part_ending path listing ending = if has_bucket path listing then ending else Err failure.NoBucket

-- a part of the listing, and then what is lacking; or memory ran out, which may be after the last line; or why it isn't read
abbrev pub IsListedAnswer : Extent → List ℕ → MetaChoice → ListForm → (path from : Path) → Answer → Type 0
IsListedAnswer extent file choice form path from answer =
    ((meta : Meta) × (listing : List Member) × (lost : LostView) × (found : List FoundView) × IsReadTo extent file choice meta listing lost found
    × (lacking : Option Shortfall) × IsLackingTo extent file choice lost lacking
    × IsPrinted Late (listing_part_text form path from listing) (part_ending path listing (end_listing lacking)) answer)
    ⊎ ((why : Failure) × IsUnreadTo extent file choice why × (answer ≡ refused why))

abbrev pub IsListPrint : ListJob → List ℕ → Answer → Type 0
IsListPrint job file answer = IsListedAnswer job.extent file job.meta job.form (owned_path job.path.items) (owned_path job.from.items) answer

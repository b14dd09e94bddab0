-- What the functions of a command that prints promise of its job.
use Rattle.std.specs.Prelude.{◌≡◌, ◌⊎◌, ℕ, List, Bool, IfOk, OnOk, Result, Err, map}
use Rattle.bolt_format.specs.{Wrote.Wrote, declared.meta.Meta.Meta, declared.sink.Sink.Ghosts}
use Rattle.bolt_recover.specs.{Losses.LostView, LostAndFound.all_lost, declared.lost_and_found.LostAndFound.LostAndFound}
use Rattle.bolt_report.specs.FoundLines.{FoundView, found_view}
use Rattle.bolt_text.specs.{ListForms.listing_lines, ReportEndings.report_ending, declared.report_fault.ReportFault.ReportFault}
use Rattle.bolt_tree.specs.{Listing.Member, Listing.rest_from, ListingParts.has_bucket, ListingParts.part_below}
use Rattle.bolt_commands.specs.{Answers.Answer, Answers.JobEnding, Answers.WritesAnswer, FilesRead.IsReadTo, FilesRead.IsJoinedWith}
use Rattle.bolt_commands.specs.{FilesRead.IsUnjoinedUnder, FilesRead.IsUnreadTo, ListAnswers.listing_part_text}
use Rattle.bolt_commands.specs.{Failures.report_failure, Private.Endings.MayFail, Private.Endings.failing, Private.Contents.contents_lost}
use Rattle.bolt_commands.specs.declared.{failure.Failure.Failure, opening.Contents.Contents}
use Rattle.bolt_job.specs.{PlainWords.owned_path, declared.bucket_commands.ListJob.ListJob}

-- standard output accepts the text of one of the answers that are wanted, and the job ends as it says
pub record PrintsAnswer {S : Type 0} (sink : Ghosts S) (old new : S) (IsWanted : Answer → Type 0) (ending : JobEnding) : Type 0 where
  pub answer : Answer
  pub is : IsWanted answer
  pub does : WritesAnswer sink old new answer ending

-- ---- the texts of it

-- the part of a listing, and of one that has the bucket; and whether it has it
abbrev pub job_part : ListJob → List Member → List ℕ
job_part job listing = listing_part_text job.form (owned_path job.path.items) (owned_path job.from.items) listing

abbrev pub sound_part : ListJob → List Member → List ℕ
sound_part job listing = listing_lines job.form (rest_from (owned_path job.from.items) (part_below (owned_path job.path.items) listing))

abbrev pub finds : ListJob → List Member → Bool
finds job listing = has_bucket (owned_path job.path.items) listing

-- ---- a part of a listing

module _ {S : Type 0} (sink : Ghosts S) (old new : S) (job : ListJob) where
  -- the part was put, and it is known whether the listing has the bucket; or the sink failed, or memory ran out
  abbrev pub PutsListing : Result Bool Failure → List Member → Type 0
  PutsListing result listing =
      (put : Result Bool ReportFault) × Wrote sink old new (job_part job listing) (report_ending put) × MayFail put
      × IfOk put (λ found. found ≡ finds job listing) × (result ≡ failing report_failure put)

  -- The part of what was read is put; if it is whole, all that is lost is known then. Or the file isn't read, and nothing is put.
  abbrev pub PutsPart : List ℕ → (after : Contents) → Result Bool Failure → Type 0
  PutsPart file after result =
      ((meta : Meta) × (listing : List Member) × (lost : LostView) × (found : List FoundView) × IsReadTo job.extent file job.meta meta listing lost found
      × OnOk result (contents_lost after ≡ lost) × PutsListing result listing)
      ⊎ ((why : Failure) × IsUnreadTo job.extent file job.meta why × (new ≡ old) × (result ≡ Err why))

  -- The part of a searched file's listing is put. Or the file isn't read, and nothing is put.
  abbrev pub PutsJoined : List ℕ → LostAndFound → Result Bool Failure → Type 0
  PutsJoined file searched result =
      ((listing : List Member) × IsJoinedWith file searched.meta listing (all_lost searched) (map found_view searched.found.items) × PutsListing result listing)
      ⊎ ((why : Failure) × IsUnjoinedUnder file job.meta why × (new ≡ old) × (result ≡ Err why))

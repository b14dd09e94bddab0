-- What `list` puts, and how it then ends.
use Rattle.std.proofs.Common.{◌≡◌, ◌∙◌, Bool, true, false, IfOk, List, Option, Result, Ok, Err, ap, if◌then◌else◌, inl, inr, refl, subst, sym, ℕ}
use Rattle.std.proofs.lemmas.Result.{on_ok_weaker}
use Rattle.bolt_commands.proofs.Vocabulary.{JobEnding, Failure, Ghosts, IsListPrint, IsMetasFault, ListJob, LostView, MayFail, Member, IsPrinted}
use Rattle.bolt_commands.proofs.Vocabulary.{OnOk, Contents, OtherMeta, PrintsAnswer, PutsListing, PutsPart, ReportFault, Rises, Shortfall, Wrote}
use Rattle.bolt_commands.proofs.Vocabulary.{Wrote-none, failing, finds, job_part, end_listing, member_cmp, contents_lost, part_ending, owned_path}
use Rattle.bolt_commands.proofs.Vocabulary.{report_ending, report_failure, shortfall, sound_part}
use Rattle.bolt_commands.proofs.{CutTexts.ended_put, Doing.answer_as, Doing.answer_nothing}
use Rattle.bolt_commands.specs.{Answers.Late, declared.failure.Failure.TheVariants.NoBucket}

-- ---- the part of a sound file, with the bucket or without it

pub none_put : {S : Type 0} (sink : Ghosts S) (old : S) (job : ListJob) (listing : List Member) → finds job listing ≡ false
    → PutsListing sink old old job (Ok false) listing
none_put sink old job listing none = (Ok false, rw none (Wrote-none old), tt, sym none, refl)

module _ {S : Type 0} {sink : Ghosts S} {old new : S} (job : ListJob) (listing : List Member) (has : finds job listing ≡ true) where
  pub whole_put : Wrote sink old new (sound_part job listing) (report_ending (Ok true)) → PutsListing sink old new job (Ok true) listing
  whole_put wrote = (Ok true, rw has wrote, tt, sym has, refl)

  pub whole_cut : (e : ReportFault) → Wrote sink old new (sound_part job listing) (report_ending {A = Bool} (Err e)) → MayFail {A = Bool} (Err e)
      → (result : Result Bool Failure) → result ≡ Err (report_failure e) → PutsListing sink old new job result listing
  whole_cut e wrote fault result is = (Err e, rw has wrote, fault, tt, is)

-- ---- that of members

pub members_put : {S : Type 0} {sink : Ghosts S} {old new : S} (job : ListJob) (listing : List Member) (Lists : List Member → Type 0)
    (left : List Member → List Member)
    → Lists listing → left listing ≡ listing → Rises member_cmp listing → (put : Result Bool ReportFault) → MayFail put
    → ((other : List Member) → Lists other → Rises member_cmp (left other) → Wrote sink old new (job_part job (left other)) (report_ending put))
    → IfOk put (λ found. (other : List Member) → Lists other → found ≡ finds job (left other))
    → (result : Result Bool Failure) → result ≡ failing report_failure put → PutsListing sink old new job result listing
members_put job listing Lists left lists all rises (Ok found) fault puts knows result is =
    (Ok found, rw all at (puts listing lists (rw all rises)), tt, rw all at (knows listing lists), is)
members_put job listing Lists left lists all rises (Err e) fault puts knows result is = (Err e, rw all at (puts listing lists (rw all rises)), fault, tt, is)

-- ---- the end

-- how the job ends: with what is lacking, or without the bucket, or with the failure
abbrev pub end_of_part : Result Bool Failure → Option Shortfall → JobEnding
end_of_part (Ok true) lacking = end_listing lacking
end_of_part (Ok false) lacking = Err NoBucket
end_of_part (Err why) lacking = Err why

module _ {S : Type 0} (sink : Ghosts S) (old new : S) (job : ListJob) (file : List ℕ) (after : Contents) (other : Option OtherMeta)
    (are : IsMetasFault job.extent file job.meta other) where
  abbrev lacking : Option Shortfall
  lacking = shortfall (contents_lost after) other

  abbrev Ended : List Member → JobEnding → JobEnding → Type 0
  Ended listing wanted ending =
      PrintsAnswer sink old new (IsPrinted Late (job_part job listing) (part_ending (owned_path job.path.items) listing wanted)) ending

  ends_so : (listing : List Member) (wanted : JobEnding) (found : Bool) → found ≡ finds job listing → end_listing lacking ≡ wanted
      → part_ending (owned_path job.path.items) listing wanted ≡ end_of_part (Ok found) lacking
  ends_so listing wanted true knows same = ap (λ (has : Bool). if has then wanted else Err NoBucket) (sym knows) ∙ sym same
  ends_so listing wanted false knows same = ap (λ (has : Bool). if has then wanted else Err NoBucket) (sym knows)

  part_ended : (listing : List Member) (wanted : JobEnding) (put : Result Bool ReportFault)
      → Wrote sink old new (job_part job listing) (report_ending put) → MayFail put
      → IfOk put (λ found. found ≡ finds job listing) → OnOk (failing report_failure put) (end_listing lacking ≡ wanted)
      → Ended listing wanted (end_of_part (failing report_failure put) lacking)
  part_ended listing wanted (Ok found) wrote fault knows same =
      let put = ended_put {A = Bool} (job_part job listing) (part_ending (owned_path job.path.items) listing wanted) (Ok found) wrote tt in
      subst (λ (e : JobEnding). Ended listing wanted e) (ends_so listing wanted found knows same) put
  part_ended listing wanted (Err e) wrote fault knows same =
      ended_put {A = Bool} (job_part job listing) (part_ending (owned_path job.path.items) listing wanted) (Err e) wrote fault

  pub part_listed : (result : Result Bool Failure) → PutsPart sink old new job file after result
      → PrintsAnswer sink old new (IsListPrint job file) (end_of_part result lacking)
  part_listed result (inl (meta, listing, lost, found, read, same, (put, wrote, fault, knows, is))) =
      let known =
      on_ok_weaker (failing report_failure put) (λ (eq : contents_lost after ≡ lost). ap (λ (l : LostView). end_listing (shortfall l other)) eq)
      (rw is at same) in
      rw is (answer_as (part_ended listing (end_listing (shortfall lost other)) put wrote fault knows known)
      (λ answer ended. inl (meta, listing, lost, found, read, shortfall lost other, (other, are, refl), ended)))
  part_listed result (inr (why, unread, same, is)) = rw (same, is) (answer_nothing why (Err why) (inr (why, unread, refl)) refl)

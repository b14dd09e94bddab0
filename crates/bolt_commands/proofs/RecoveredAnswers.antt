-- What is answered of what is recovered of a bucket or at a path.
use Rattle.std.proofs.Common.{◌≡◌, ℕ, Bool, Err, IfErr, IfOk, List, None, Ok, Option, Result, Some, inl, inr, refl, subst, if◌then◌else◌}
use Rattle.std.specs.{Borrow.Bor, Option.IfNone, Prelude.IfSome}
use Rattle.bolt_commands.proofs.Vocabulary.{AreLosses, Contains, JobEnding, Failure, ForLosses, Ghosts, IsErrAnd, IsRecovered, IsRecoveryOf}
use Rattle.bolt_commands.proofs.Vocabulary.{IsMetasFault, LossView, Losses, MayFail, Member, MetaChoice, OnOk, OtherMeta, Path, Shortfall}
use Rattle.bolt_commands.proofs.Vocabulary.{PrintsAnswer, ReportFault, Rises, Value, Wrote, end_report, has_bucket, has_losses, has_recovered}
use Rattle.bolt_commands.proofs.Vocabulary.{end_listing, member_cmp, parts, owned_path, recovery_file, recovery_left, recovery_meta}
use Rattle.bolt_commands.proofs.Vocabulary.{report_ending, report_failure, shortfall, value_shown}
use Rattle.bolt_commands.proofs.{CutTexts.ended_put, CutTexts.short_json_put, Doing.answer_as, Doing.answer_nothing, OpenedReads.recovered_read}
use Rattle.bolt_check.specs.declared.check_fault.CheckFault.TheVariants as check
use Rattle.bolt_commands.specs.Answers.{Answer}
use Rattle.bolt_commands.specs.KeyAnswers.{IsNamesAnswer, IsRecoveredAnswer, IsRecoveredValue, names_ending, no_bucket, no_key, no_value}
use Rattle.bolt_report.specs.{AtPaths.HoldsNow, declared.at_path.AtPath.AtPath}
use Rattle.bolt_commands.specs.{Private.Recovered.end_names, Private.Recovered.value_or_why, declared.failure.Failure.TheVariants.Memory}
use Rattle.bolt_text.specs.{ReportEndings.FailsByWritingJson, ReportEndings.HaltsShort, declared.forms.Form.Form}
use Rattle.bolt_job.specs.declared.bucket_commands.GetJob.{GetJob}
use Rattle.bolt_recover.specs.declared.recovery.Recovery.{Recovery}
use Rattle.bolt_report.specs.MemberNames.{WantedNames, names_text}

-- memory may run out of any file before anything is written
pub recovered_none : {S : Type 0} {sink : Ghosts S} {old : S} (file : List ℕ) (choice : MetaChoice)
    (IsWanted : List Member → Option Shortfall → Answer → Type 0) (result : JobEnding)
    → IsErrAnd result (λ said. said ≡ Memory) → PrintsAnswer sink old old (IsRecoveredAnswer file choice IsWanted) result
recovered_none file choice IsWanted result said = answer_nothing Memory result (inr (Memory, (check.Memory, tt, refl), refl)) said

ended_so : (path : Path) (found : Bool) (listing : List Member) (after losses : List LossView) (other : Option OtherMeta)
    → found ≡ has_bucket path listing → after ≡ losses
    → names_ending path listing (shortfall (parts losses) other) ≡ end_names found (shortfall (parts after) other)
ended_so path found listing after losses other is lost = rw (is, lost) refl

module _ {file : List ℕ} {choice : MetaChoice} (r : Recovery) (of : IsRecoveryOf file choice r) (other : Option OtherMeta)
    (shown : IsMetasFault Losses file choice other) where
  -- what is wanted of the recovered listing and of what it lacks
  pub of_recovery : {S : Type 0} {sink : Ghosts S} {old new : S} (IsWanted : List Member → Option Shortfall → Answer → Type 0) (result : JobEnding)
      (listing : List Member) → IsRecovered file (recovery_meta r) listing → (losses : List LossView) → AreLosses file (recovery_meta r) losses
      → PrintsAnswer sink old new (IsWanted listing (shortfall (parts losses) other)) result
      → PrintsAnswer sink old new (IsRecoveredAnswer file choice IsWanted) result
  of_recovery IsWanted result listing is losses are put =
      answer_as put (λ answer wanted.
      inl (recovery_meta r, listing, parts losses, recovered_read r (refl, of) is are, shortfall (parts losses) other, (other, shown, refl), wanted))

  -- ---- the names in a bucket

  -- how the job ends
  abbrev pub end_of_names : Result Bool ReportFault → List LossView → JobEnding
  end_of_names (Ok found) losses = end_names found (shortfall (parts losses) other)
  end_of_names (Err e) losses = Err (report_failure e)

  abbrev Lists : List Member → Type 0
  Lists listing = IsRecovered (recovery_file r) (recovery_meta r) listing

  module _ {S : Type 0} {sink : Ghosts S} {old new : S} (form : Form) (wanted : WantedNames) (path : Path) where
    pub names_answered : (put : Result Bool ReportFault) → MayFail put
        → ((listing : List Member) → Lists listing → Rises member_cmp (recovery_left r listing)
        → Wrote sink old new (names_text form wanted path (recovery_left r listing)) (report_ending put))
        → IfOk put (λ found. (listing : List Member) → Lists listing → found ≡ has_bucket path (recovery_left r listing))
        → (after : List LossView) → OnOk put (ForLosses (recovery_file r) (recovery_meta r) (λ losses. after ≡ losses))
        → PrintsAnswer sink old new (IsRecoveredAnswer file choice (IsNamesAnswer form wanted path)) (end_of_names put after)
    names_answered (Ok found) fault puts knows after known =
        let (own, is) = has_recovered file (recovery_meta r) in
        let (losses, are) = has_losses file (recovery_meta r) in
        let here : Lists own = rw of.bytes is in
        let all = of.all own is in
        let wrote = rw all at (puts own here (rw all is.rises)) in
        let has = rw all at (knows own here) in
        let put = ended_put {A = Bool} (names_text form wanted path own) (names_ending path own (shortfall (parts losses) other)) (Ok found) wrote tt in
        of_recovery (IsNamesAnswer form wanted path) _ own is losses are
        (subst (λ (e : JobEnding). PrintsAnswer sink old new (IsNamesAnswer form wanted path own (shortfall (parts losses) other)) e)
        (ended_so path found own after losses other has (known losses (rw of.bytes are))) put)
    names_answered (Err e) fault puts knows after known =
        let (own, is) = has_recovered file (recovery_meta r) in
        let (losses, are) = has_losses file (recovery_meta r) in
        let here : Lists own = rw of.bytes is in
        let all = of.all own is in
        let wrote = rw all at (puts own here (rw all is.rises)) in
        of_recovery (IsNamesAnswer form wanted path) _ own is losses are
        (ended_put {A = Bool} (names_text form wanted path own) (names_ending path own (shortfall (parts losses) other)) (Err e) wrote fault)

-- ---- the value at a path

known_value : (value : Option (Bor (List ℕ))) (has : Bool) (lacking : Option Shortfall) (P : Bor (List ℕ) → Type 0) (there : Bor (List ℕ))
    → IfSome value P
    → Ok there ≡ value_or_why value has lacking → P there
known_value (Some value) has lacking P there some same = let is : there ≡ value = cc in rw is some
known_value None has lacking P there some same = absurd (cc)

known_none : (value : Option (Bor (List ℕ))) (has : Bool) (lacking : Option Shortfall) (N : Type 0) (why : Failure) → IfNone value N
    → Err why ≡ value_or_why value has lacking
    → N × (why ≡ (if has then no_key lacking else no_bucket lacking))
known_none (Some value) has lacking N why none same = absurd (cc)
known_none None has lacking N why none same = (none, cc)

module _ (members : List Member) (path : Path) (at : AtPath) (holds : HoldsNow members path at) (lacking : Option Shortfall) where
  pub value_known : (value : Bor (List ℕ)) → Ok value ≡ value_or_why at.value at.has_bucket lacking → Contains members (path, Value value.now)
  value_known value same = known_value at.value at.has_bucket lacking (λ (v : Bor (List ℕ)). Contains members (path, Value v.now)) value holds.value same

  pub none_known : (why : Failure) → Err why ≡ value_or_why at.value at.has_bucket lacking
      → ((value : List ℕ) → Contains members (path, Value value) → ⊥) × (why ≡ no_value path members lacking)
  none_known why same =
      let (none, is) = known_none at.value at.has_bucket lacking _ why holds.none same in
      (none, rw holds.bucket at is)

pub value_put : {S A : Type 0} {sink : Ghosts S} {old new : S} (job : GetJob) (listing : List Member) (lacking : Option Shortfall) (value : List ℕ)
    → Contains listing (owned_path job.path.items, Value value) → (put : Result A ReportFault)
    → Wrote sink old new (value_shown job.form job.no_newline value) (report_ending put)
    → HaltsShort sink old new (value_shown job.form job.no_newline value) (report_ending put)
    → IfErr put (FailsByWritingJson job.form)
    → PrintsAnswer sink old new (IsRecoveredValue job listing lacking) (end_report put (end_listing lacking))
value_put job listing lacking value holds put wrote halts fault =
    answer_as (short_json_put (value_shown job.form job.no_newline value) (end_listing lacking) put wrote job.form halts fault)
    (λ answer shown. inl (value, holds, shown))

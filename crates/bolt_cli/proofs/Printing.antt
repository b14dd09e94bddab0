-- What is printed is what the job answers for the bytes of FILE that were read.
use Rattle.std.proofs.Common.{◌≡◌, inl, inr, ap, sym, ℕ, zero, suc, List, [], ◌∷◌, ◌++◌, Bool, true, false, Option, Some, None, Ok, Err, refl, subst}
use Rattle.std.proofs.lemmas.Option.{same_Some}
use Rattle.std.specs.Io.KnownBytes.{IsAtEnd}
use Rattle.bolt_cli.proofs.Vocabulary.{Appends, Choose, Closed, Deed, DoesAsked, DoesJob, Dropped, Ended, JobEnding, Fails, FailsGathered}
use Rattle.bolt_cli.proofs.Vocabulary.{FailsLacking, FailsUnended, Ghosts, Goes, IsReported, IsRun, Job, Lacked, Made, Opened, PrintsBuffered}
use Rattle.bolt_cli.proofs.Vocabulary.{PrintsText, Read, ReadFirst, ReadOn, Reads, ReadsMetas, Said, Shows, Text, WritesOut, buffered_of}
use Rattle.bolt_cli.proofs.Vocabulary.{buffered_sink, needs_metas_alone, no_sink, target_name}
use Rattle.bolt_cli.proofs.BufferedJobs.{buffered_job}
use Rattle.bolt_cli.proofs.MetasAlone.{metas_have_no_target}
use Rattle.bolt_cli.proofs.Ordering as ordering
use Rattle.bolt_cli.specs.{Orders.HasNone, Orders.is_read, Printed.AnswersTo, Printed.PrintsAnswers, Printed.ShowsAll, Printed.last_read}
use Rattle.bolt_cli.specs.{Runs.IsUnprinted, Sources.is_changed}
use Rattle.bolt_cli.specs.{Runs.Buffered, declared.outside.OutputFault.OutputFault, declared.outside.OutputFault.TheVariants.ReaderLeft}
use Rattle.bolt_cli.specs.{declared.outside.OutputFault.TheVariants.Failed, declared.outside.Source.Source}

-- ---- what is closed well

module _ {T O : Type 0} where
  -- this holds of standard output, if it is closed well
  abbrev ForClosed : (O → Type 0) → List (Deed T O) → Type 0
  ForClosed Is [] = Unit {0}
  ForClosed Is (Closed printed (Ok done) ∷ deeds) = Is printed × ForClosed Is deeds
  ForClosed Is (deed ∷ deeds) = ForClosed Is deeds

  closed_at : (Is : O → Type 0) (before : List (Deed T O)) (printed : O) (done : Unit {0}) (after : List (Deed T O))
      → ForClosed Is (before ++ Closed printed (Ok done) ∷ after) → Is printed
  closed_at Is [] printed done after is = is.0
  closed_at Is (Closed other (Ok fine) ∷ before) printed done after is = closed_at Is before printed done after is.1
  closed_at Is (deed ∷ before) printed done after is = closed_at Is before printed done after is

  closed_as : (Was Is : O → Type 0) → ((printed : O) → Was printed → Is printed) → (deeds : List (Deed T O)) → ForClosed Was deeds
      → ForClosed Is deeds
  closed_as Was Is step [] was = tt
  closed_as Was Is step (Closed printed (Ok done) ∷ deeds) was = (step printed was.0, closed_as Was Is step deeds was.1)
  closed_as Was Is step (deed ∷ deeds) was = closed_as Was Is step deeds was

  -- ---- nothing is closed after a failure

  fails : (Is : O → Type 0) (line : List ℕ) (deeds : List (Deed T O)) (code : ℕ) → Fails line deeds code → ForClosed Is deeds
  fails Is line (Said text ∷ []) code is = tt
  fails Is line deeds code is = absurd is.0

  lacks : (Is : O → Type 0) (deeds : List (Deed T O)) (code : ℕ) → FailsLacking deeds code → ForClosed Is deeds
  lacks Is (Lacked failures line ∷ []) code is = tt
  lacks Is deeds code is = absurd is

  fails_gathered : (Is : O → Type 0) (line : List ℕ) (deeds : List (Deed T O)) (code : ℕ) → FailsGathered line deeds code → ForClosed Is deeds
  fails_gathered Is line deeds code (inl is) = fails Is line deeds code is
  fails_gathered Is line deeds code (inr is) = lacks Is deeds code is

  fails_unended : (Is : O → Type 0) (ending : JobEnding) (deeds : List (Deed T O)) (code : ℕ) → FailsUnended ending deeds code → ForClosed Is deeds
  fails_unended Is (Ok status) deeds code is = fails Is _ deeds code is
  fails_unended Is (Err failure) deeds code is = fails_gathered Is _ deeds code is

  nothing : (Is : O → Type 0) (deeds : List (Deed T O)) → deeds ≡ [] → ForClosed Is deeds
  nothing Is [] none = tt
  nothing Is (deed ∷ deeds) none = absurd (cc)

  reported : (Is : O → Type 0) (ending : JobEnding) (deeds : List (Deed T O)) (code : ℕ) → IsReported ending deeds code → ForClosed Is deeds
  reported Is (Ok status) deeds code is = nothing Is deeds is.0
  reported Is (Err failure) deeds code is = fails_gathered Is _ deeds code is

  unprinted : (Is : O → Type 0) (fault : OutputFault) (deeds : List (Deed T O)) (code : ℕ) → IsUnprinted fault deeds code → ForClosed Is deeds
  unprinted Is ReaderLeft deeds code is = nothing Is deeds is.0
  unprinted Is Failed deeds code is = fails Is _ deeds code is

-- ---- what a fresh sink shows

start_is : (taken : Option (List ℕ)) (text : List ℕ) → taken ≡ Some text → IsAtEnd taken → taken ≡ Some []
start_is (Some bytes) text is none = ap Some none
start_is None text is none = absurd (cc)

whole_is : (before after : Option (List ℕ)) (text piece : List ℕ) → before ≡ Some [] → after ≡ Some text → Appends before after piece
    → after ≡ Some piece
whole_is (Some bytes) (Some all) text piece empty is put = rw (same_Some bytes [] empty) at (ap Some put)
whole_is (Some bytes) None text piece empty is put = absurd put
whole_is None after text piece empty is put = absurd (cc)

module _ {T O : Type 0} (target : Ghosts T) (output : Ghosts O) (all : ShowsAll target output) where
  fresh : (sink : O) → IsAtEnd (output.taken sink) → output.taken sink ≡ Some []
  fresh sink = start_is (output.taken sink) (all sink).0 (all sink).1

  -- standard output has what this job answers for this file
  abbrev HasAnswer : Option Text → Job → (file : List ℕ) → O → Type 0
  HasAnswer out job file printed =
      (text : List ℕ) × (ending : JobEnding) × (output.taken printed ≡ Some text) × AnswersTo target output out job file text ending

  shows : (file : List ℕ) (job : Job) (deeds : List (Deed T O)) (code : ℕ) → Shows output file job deeds code
      → ForClosed (HasAnswer None job file) deeds
  shows file job (Opened (Ok before) ∷ Closed printed (Ok done) ∷ deeds) code (begun, after, ending, does, (is, sound, rest)) =
      let same = rw (← is) at does in
      let (text, holds) = all printed in (
        (
          text,
          ending,
          holds,
          buffered_job output no_sink before printed tt tt (fresh before begun.0) begun.1 holds sound file job ending same,
        ),
        reported _ ending deeds code rest,
      )
  shows file job (Opened (Ok before) ∷ Closed printed (Err fault) ∷ deeds) code (begun, after, ending, does, (is, sound, rest)) =
      unprinted _ fault deeds code rest
  shows file job (Opened (Ok before) ∷ Dropped printed fault ∷ deeds) code (begun, after, ending, does, (is, less, rest)) = unprinted _ fault deeds code rest
  shows file job (Opened (Ok before) ∷ deeds) code (begun, after, ending, does, closes) = absurd closes
  shows file job (Opened (Err fault) ∷ deeds) code is = fails _ _ deeds code is
  shows file job deeds code is = absurd is

  prints : (piece : List ℕ) (ending : JobEnding) (deeds : List (Deed T O)) (code : ℕ) → PrintsText output piece ending deeds code
      → ForClosed (λ printed. output.taken printed ≡ Some piece) deeds
  prints piece ending (Opened (Ok before) ∷ Closed printed (Ok done) ∷ deeds) code (begun, after, takes, (is, sound, rest)) =
      let put = rw (← is) at takes in (
        whole_is (output.taken before) (output.taken printed) (all printed).0 piece (fresh before begun.0) (all printed).1 (put.0 sound),
        reported _ ending deeds code rest,
      )
  prints piece ending (Opened (Ok before) ∷ Closed printed (Err fault) ∷ deeds) code (begun, after, takes, (is, sound, rest)) =
      unprinted _ fault deeds code rest
  prints piece ending (Opened (Ok before) ∷ Dropped printed fault ∷ deeds) code (begun, after, takes, (is, less, rest)) = unprinted _ fault deeds code rest
  prints piece ending (Opened (Ok before) ∷ deeds) code (begun, after, takes, closes) = absurd closes
  prints piece ending (Opened (Err fault) ∷ deeds) code is = fails _ _ deeds code is
  prints piece ending deeds code is = absurd is

  prints_buffered : (failures : ℕ) (piece : List ℕ) (ending : JobEnding) (deeds : List (Deed T O)) (code : ℕ)
      → PrintsBuffered output failures piece ending deeds code
      → ForClosed (λ printed. (output.taken printed ≡ Some piece) × (failures ≡ 0)) deeds
  prints_buffered zero piece ending deeds code is = closed_as _ _ (λ printed whole. (whole, refl)) deeds (prints piece ending deeds code is)
  prints_buffered (suc more) piece ending deeds code is = lacks _ deeds code is

  module _ (out : Text) (file : List ℕ) (job : Job) where
    -- OUT is on the disk, and its report is printed
    answered : (made after : T) (buffered : Buffered) (ending : JobEnding)
        → DoesJob buffered_sink (buffered_of [] 0) buffered target made after file job ending
        → (printed : O) → (output.taken printed ≡ Some buffered.text) × (buffered.failures ≡ 0) → HasAnswer (Some out) job file printed
    answered made after buffered ending does printed (whole, sound) =
        let same : buffered ≡ buffered_of buffered.text 0 = ap (buffered_of buffered.text) sound in
        (buffered.text, ending, whole, (made, after, rw same at does))

    writes : (made : T) (deeds : List (Deed T O)) (code : ℕ) → WritesOut target output made file job deeds code
        → ForClosed (HasAnswer (Some out) job file) deeds
    writes made (Ended after (Ok done) ∷ deeds) code (buffered, ending, does, are) =
        closed_as _ _ (answered made after buffered ending does) deeds (prints_buffered buffered.failures buffered.text ending deeds code are)
    writes made (Ended after (Err fault) ∷ deeds) code (buffered, ending, does, are) = fails_unended _ ending deeds code are
    writes made deeds code are = absurd are

  goes : (out : Option Text) (source : Source) (job : Job) (deeds : List (Deed T O)) (code : ℕ) → Goes target output out source job deeds code
      → ForClosed (HasAnswer out job source.bytes.items) deeds
  goes (Some out) source job (Made name permissions (Ok made) ∷ deeds) code (is, bits, begun, are) = writes out source.bytes.items job made deeds code are
  goes (Some out) source job (Made name permissions (Err fault) ∷ deeds) code (is, bits, are) = fails_gathered _ _ deeds code are
  goes (Some out) source job deeds code are = absurd are
  goes None source job deeds code are = shows source.bytes.items job deeds code are

-- ---- the bytes that were read last

module _ {T O : Type 0} where
  last_none : (deeds : List (Deed T O)) → HasNone is_read deeds → last_read deeds ≡ None
  last_none [] none = refl
  last_none (Read name result ∷ deeds) none = absurd (cc)
  last_none (ReadFirst name count result ∷ deeds) none = absurd (cc)
  last_none (ReadOn first count result ∷ deeds) none = absurd (cc)
  last_none (deed ∷ deeds) none = rw (last_none deeds none) refl

module _ {T O : Type 0} (target : Ghosts T) (output : Ghosts O) (all : ShowsAll target output) where
  -- and what is answered for them
  abbrev HasLast : Option Text → Job → List (Deed T O) → O → Type 0
  HasLast out job deeds printed = (file : List ℕ) × (last_read deeds ≡ Some file) × HasAnswer target output all out job file printed

  -- FILE isn't read after that
  goes_none_read : (out : Option Text) (source : Source) (job : Job) (deeds : List (Deed T O)) (code : ℕ)
      → Goes target output out source job deeds code → HasNone is_read deeds
  goes_none_read (Some out) source job (Made name permissions made ∷ deeds) code are =
      (ordering.goes target output (Some out) source job (Made name permissions made ∷ deeds) code are).ordered.reads_first.0
  goes_none_read (Some out) source job deeds code are = absurd are
  goes_none_read None source job deeds code are = (ordering.shows output source.bytes.items job deeds code are).none_read

  reads : (left : ℕ) (job : Job) (deeds : List (Deed T O)) (code : ℕ) → Reads target output left job deeds code
      → ForClosed (HasLast (target_name job) job deeds) deeds
  reads zero job deeds code is = fails _ _ deeds code is
  reads (suc left) job (Read name (Ok source) ∷ deeds) code (same, are) = by (is_changed source) (reads left job deeds code) are
    where
      by : (changed : Bool) → (Reads target output left job deeds code → ForClosed (HasLast (target_name job) job deeds) deeds)
          → Choose changed (Reads target output left job deeds code) (Goes target output (target_name job) source job deeds code)
          → ForClosed (HasLast (target_name job) job (Read name (Ok source) ∷ deeds)) deeds
      by true later again = closed_as _ _ (λ printed (file, last, answer). (file, rw last refl, answer)) deeds (later again)
      by false later goes_on =
          let last : last_read (Read name (Ok source) ∷ deeds) ≡ Some source.bytes.items =
          rw (last_none deeds (goes_none_read (target_name job) source job deeds code goes_on)) refl in
          closed_as _ _ (λ printed answer. (source.bytes.items, last, answer)) deeds (goes target output all (target_name job) source job deeds code goes_on)
  reads (suc left) job (Read name (Err fault) ∷ deeds) code (same, is) = fails_gathered _ _ deeds code is
  reads (suc left) job deeds code are = absurd are

  metas : (job : Job) → target_name job ≡ None → (deeds : List (Deed T O)) (code : ℕ) → ReadsMetas output job deeds code
      → ForClosed (HasLast (target_name job) job deeds) deeds
  metas job none (ReadFirst name count (Ok first) ∷ ReadOn begun more (Ok bytes) ∷ deeds) code (same, most, (again, end, are)) =
      let last : last_read {T = T} {O = O} (ReadFirst name count (Ok first) ∷ ReadOn begun more (Ok bytes) ∷ deeds) ≡ Some bytes =
      rw (last_none deeds (ordering.shows output bytes job deeds code are).none_read) refl in
      subst (λ (out : Option Text). ForClosed (HasLast out job (ReadFirst name count (Ok first) ∷ ReadOn begun more (Ok bytes) ∷ deeds)) deeds) (sym none)
      (closed_as _ _ (λ printed answer. (bytes, last, answer)) deeds (shows target output all bytes job deeds code are))
  metas job none (ReadFirst name count (Ok first) ∷ ReadOn begun more (Err fault) ∷ deeds) code (same, most, (again, end, is)) =
      fails_gathered _ _ deeds code is
  metas job none (ReadFirst name count (Ok first) ∷ deeds) code (same, most, are) = absurd are
  metas job none (ReadFirst name count (Err fault) ∷ deeds) code (same, most, is) = fails_gathered _ _ deeds code is
  metas job none deeds code are = absurd are

  asked : (job : Job) (deeds : List (Deed T O)) (code : ℕ) → DoesAsked target output job deeds code
      → ForClosed (HasLast (target_name job) job deeds) deeds
  asked job deeds code are = by (needs_metas_alone job) refl are
    where
      by : (alone : Bool) → needs_metas_alone job ≡ alone
          → Choose alone (ReadsMetas output job deeds code) (Reads target output 3 job deeds code)
          → ForClosed (HasLast (target_name job) job deeds) deeds
      by true is metas_are = metas job (metas_have_no_target job is) deeds code metas_are
      by false is reads_are = reads 3 job deeds code reads_are

  pub answers_printed : (words : List Text) (deeds : List (Deed T O)) (code : ℕ) → IsRun target output words deeds code
      → PrintsAnswers target output words deeds
  answers_printed words deeds code (inl (job, asks, are)) before printed done after split =
      let (file, last, (text, ending, holds, answers)) =
      closed_at (HasLast (target_name job) job deeds) before printed done after
      (subst (ForClosed (HasLast (target_name job) job deeds)) split (asked job deeds code are)) in
      inl (job, file, text, ending, asks, last, holds, answers)
  answers_printed words deeds code (inr (refusal, is, are)) before printed done after split = inr (refusal, is)

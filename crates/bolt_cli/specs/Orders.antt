-- The order of the deeds of a run, whatever its words and its job are: a definition for each sentence.
use Rattle.std.specs.Prelude.{◌≡◌, ◌≤◌, ℕ, List, [], ◌∷◌, ◌++◌, Bool, true, false, IsTrue, not, ◌&&◌, Some, Result, Ok, Err, length}
use Rattle.std.specs.List.{filter, list_any}
use Rattle.bolt_cli.specs.{Deeds.Deed, Deeds.Read, Deeds.ReadFirst, Deeds.ReadOn, Deeds.Made, Deeds.Ended, Deeds.Opened, Deeds.Closed, Deeds.Dropped}
use Rattle.bolt_cli.specs.{Deeds.Said, Deeds.Lacked, Runs.IsRun}
use Rattle.bolt_cli.specs.{declared.outside.CreateFault.CreateFault, declared.outside.OutputFault.TheVariants.ReaderLeft}
use Rattle.bolt_job.specs.{CommandLine.Asks, Jobs.target_name, declared.job.Job.Job}
use Rattle.bolt_format.specs.declared.sink.Sink.{Ghosts}
use Rattle.bolt_text.specs.Lines.{Text}

-- ---- kinds of deeds: what was asked for, and how it went

module _ {T O : Type 0} where
  abbrev pub is_read : Deed T O → Bool
  is_read (Read name result) = true
  is_read (ReadFirst name count result) = true
  is_read (ReadOn first count result) = true
  is_read deed = false

  abbrev pub is_made : Deed T O → Bool
  is_made (Made name permissions result) = true
  is_made deed = false

  abbrev pub is_opened : Deed T O → Bool
  is_opened (Opened result) = true
  is_opened deed = false

  abbrev pub is_said : Deed T O → Bool
  is_said (Said text) = true
  is_said (Lacked failures line) = true
  is_said deed = false

  abbrev pub is_ended : Deed T O → Bool
  is_ended (Ended target result) = true
  is_ended deed = false

  abbrev pub is_closed : Deed T O → Bool
  is_closed (Closed output result) = true
  is_closed (Dropped output fault) = true
  is_closed deed = false

  -- FILE was read
  abbrev pub was_read : Deed T O → Bool
  was_read (Read name (Ok source)) = true
  was_read (ReadFirst name count (Ok first)) = true
  was_read (ReadOn first count (Ok bytes)) = true
  was_read deed = false

  -- OUT was made
  abbrev pub was_made : Deed T O → Bool
  was_made (Made name permissions (Ok target)) = true
  was_made deed = false

  -- OUT is on the disk
  abbrev pub was_ended : Deed T O → Bool
  was_ended (Ended target (Ok done)) = true
  was_ended deed = false

  -- standard output was opened
  abbrev pub was_opened : Deed T O → Bool
  was_opened (Opened (Ok output)) = true
  was_opened deed = false

  -- the reader of standard output has left
  abbrev pub has_no_reader : Deed T O → Bool
  has_no_reader (Closed output (Err ReaderLeft)) = true
  has_no_reader (Dropped output ReaderLeft) = true
  has_no_reader deed = false

  abbrev pub has_failed : Deed T O → Bool
  has_failed (Read name (Err fault)) = true
  has_failed (ReadFirst name count (Err fault)) = true
  has_failed (ReadOn first count (Err fault)) = true
  has_failed (Made name permissions (Err fault)) = true
  has_failed (Ended target (Err fault)) = true
  has_failed (Opened (Err fault)) = true
  has_failed (Closed output (Err fault)) = true
  has_failed (Dropped output fault) = true
  has_failed deed = false

-- ---- where deeds of a kind are in a list

module _ {D : Type 0} where
  abbrev pub HasNone : (is_kind : D → Bool) → List D → Type 0
  HasNone is_kind deeds = filter is_kind deeds ≡ []

  abbrev pub HasAtMostOne : (is_kind : D → Bool) → List D → Type 0
  HasAtMostOne is_kind deeds = length (filter is_kind deeds) ≤ 1

  abbrev pub HasOne : (is_kind : D → Bool) → List D → Type 0
  HasOne is_kind deeds = length (filter is_kind deeds) ≡ 1

  -- after each deed of the kind, those that follow are so
  abbrev pub AfterEach : (is_kind : D → Bool) → (List D → Type 0) → List D → Type 0
  AfterEach is_kind Are deeds = (before : List D) (deed : D) (after : List D) → deeds ≡ before ++ deed ∷ after → IsTrue (is_kind deed) → Are after

  -- before each deed of the kind, there is one of the other kind
  abbrev pub BeforeEach : (is_kind is_other : D → Bool) → List D → Type 0
  BeforeEach is_kind is_other deeds =
      (before : List D) (deed : D) (after : List D) → deeds ≡ before ++ deed ∷ after → IsTrue (is_kind deed) → IsTrue (list_any is_other before)

-- ---- the sentences

module _ {T O : Type 0} where
  -- If FILE is read, it is read before anything else is done, and not again if that failed.
  abbrev pub ReadsFirst : List (Deed T O) → Type 0
  ReadsFirst = AfterEach (λ deed. not (was_read deed)) (HasNone is_read)

  -- OUT isn't made before FILE was read.
  abbrev pub MakesAfterReading : List (Deed T O) → Type 0
  MakesAfterReading = BeforeEach is_made was_read

  -- OUT is made at most once.
  abbrev pub MakesOnce : List (Deed T O) → Type 0
  MakesOnce = HasAtMostOne is_made

  -- An OUT that is made is ended, once.
  abbrev pub EndsWhatIsMade : List (Deed T O) → Type 0
  EndsWhatIsMade = AfterEach was_made (HasOne is_ended)

  -- Standard output is opened at most once.
  abbrev pub OpensOnce : List (Deed T O) → Type 0
  OpensOnce = HasAtMostOne is_opened

  -- If standard output is opened, it is closed or dropped, once.
  abbrev pub ClosesWhatIsOpened : List (Deed T O) → Type 0
  ClosesWhatIsOpened = AfterEach was_opened (HasOne is_closed)

  -- If there is an OUT, it is on the disk before standard output is opened.
  abbrev pub CopiesBeforeOpening : List (Deed T O) → Type 0
  CopiesBeforeOpening = AfterEach was_made (BeforeEach is_opened was_ended)

  -- At most one text goes to standard error, and it comes last.
  abbrev pub SaysLast : List (Deed T O) → Type 0
  SaysLast = AfterEach is_said (λ after. after ≡ [])

  -- After something failed, nothing is done but to say so.
  abbrev pub StopsAfterFailures : List (Deed T O) → Type 0
  StopsAfterFailures = AfterEach has_failed (HasNone (λ deed. not (is_said deed)))

  -- A failure is said, unless it is that the reader has left.
  abbrev pub SaysFailures : List (Deed T O) → Type 0
  SaysFailures = AfterEach (λ deed. has_failed deed && not (has_no_reader deed)) (HasOne is_said)

  -- After a reader has left, nothing is done or said.
  abbrev pub StopsWithoutReader : List (Deed T O) → Type 0
  StopsWithoutReader = AfterEach has_no_reader (λ after. after ≡ [])

  -- The status is 0 only if nothing failed, and nothing was said.
  abbrev pub SucceedsOnlyWithoutFailures : List (Deed T O) → ℕ → Type 0
  SucceedsOnlyWithoutFailures deeds code = code ≡ 0 → HasNone has_failed deeds × HasNone is_said deeds

  -- If something failed, the status is 1.
  abbrev pub FailsWithStatus1 : List (Deed T O) → ℕ → Type 0
  FailsWithStatus1 deeds code = AfterEach has_failed (λ after. code ≡ 1) deeds

  -- If the words ask for no job, FILE isn't read, and no OUT is made.
  abbrev pub RefusesBeforeReading : List Text → List (Deed T O) → Type 0
  RefusesBeforeReading words deeds = ((job : Job) → Asks words job → ⊥) → HasNone is_read deeds × HasNone is_made deeds

  -- OUT is made only if the words ask for a job that has one, and under its name.
  abbrev pub MakesAskedOut : List Text → List (Deed T O) → Type 0
  MakesAskedOut words deeds =
      (before : List (Deed T O)) (name : Text) (permissions : ℕ) (result : Result T CreateFault) (after : List (Deed T O))
      → deeds ≡ before ++ Made name permissions result ∷ after → (job : Job) × Asks words job × (target_name job ≡ Some name)

-- ---- of which runs they are said

module _ {T O : Type 0} (target : Ghosts T) (output : Ghosts O) where
  -- a property holds of the deeds of each run and its status
  abbrev pub ForEachRun : (List (Deed T O) → ℕ → Type 0) → Type 0
  ForEachRun Holds =
      (words : List Text) (deeds : List (Deed T O)) (code : ℕ) → IsRun target output words deeds code → Holds deeds code

  -- a property holds of the words and the deeds of each run
  abbrev pub ForWords : (List Text → List (Deed T O) → Type 0) → Type 0
  ForWords Holds = (words : List Text) (deeds : List (Deed T O)) (code : ℕ) → IsRun target output words deeds code → Holds words deeds

  -- a property holds of the deeds of each run
  abbrev pub ForDeeds : (List (Deed T O) → Type 0) → Type 0
  ForDeeds Holds = ForEachRun (λ deeds code. Holds deeds)

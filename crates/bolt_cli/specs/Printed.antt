-- What is printed: what the job answers for the bytes of FILE that were read.
use Rattle.std.specs.Prelude.{◌≡◌, ◌⊎◌, ℕ, List, [], ◌∷◌, ◌++◌, Option, Some, None, Ok}
use Rattle.bolt_commands.specs.{Answers.JobEnding, JobAnswers.DoesJob}
use Rattle.bolt_format.specs.declared.sink.Sink.{Ghosts}
use Rattle.bolt_job.specs.{CommandLine.Asks, CommandLine.IsRefusalOf, Jobs.target_name, declared.job.Job.Job, declared.refusal.Refusal.Refusal}
use Rattle.bolt_text.specs.Lines.{Text}
use Rattle.bolt_cli.specs.{Deeds.Deed, Deeds.Closed, Deeds.Read, Deeds.ReadOn, Runs.ShowsJob, Runs.buffered_of, Runs.buffered_sink}

-- the bytes of FILE, as they were read last
abbrev pub or_before : Option (List ℕ) → Option (List ℕ) → Option (List ℕ)
or_before (Some later) earlier = Some later
or_before None earlier = earlier

module _ {T O : Type 0} where
  abbrev pub bytes_read : Deed T O → Option (List ℕ)
  bytes_read (Read name (Ok source)) = Some source.bytes.items
  bytes_read (ReadOn first count (Ok bytes)) = Some bytes
  bytes_read deed = None

  abbrev pub last_read : List (Deed T O) → Option (List ℕ)
  last_read [] = None
  last_read (deed ∷ deeds) = or_before (last_read deeds) (bytes_read deed)

module _ {T O : Type 0} (target : Ghosts T) (output : Ghosts O) where
  -- a job writes this text to a sink that has room for it, and ends so; with an OUT, it writes that too
  abbrev pub AnswersTo : Option Text → Job → (file text : List ℕ) → JobEnding → Type 0
  AnswersTo (Some out) job file text ending =
      (before after : T) × DoesJob buffered_sink (buffered_of [] 0) (buffered_of text 0) target before after file job ending
  AnswersTo None job file text ending = ShowsJob buffered_sink (buffered_of [] 0) (buffered_of text 0) file job ending

  abbrev pub Answers : Job → (file text : List ℕ) → JobEnding → Type 0
  Answers job = AnswersTo (target_name job) job

  -- what standard output shows of itself
  abbrev pub ShowsAll : Type 0
  ShowsAll = (printed : O) → (text : List ℕ) × (output.taken printed ≡ Some text)

  -- If the words ask for a job and standard output is closed well, it has printed what the job answers for the bytes of FILE.
  abbrev pub PrintsAnswers : List Text → List (Deed T O) → Type 0
  PrintsAnswers words deeds =
      (before : List (Deed T O)) (printed : O) (done : Unit {0}) (after : List (Deed T O)) → deeds ≡ before ++ Closed printed (Ok done) ∷ after
      → ((job : Job) × (file text : List ℕ) × (ending : JobEnding) × Asks words job × (last_read deeds ≡ Some file)
      × (output.taken printed ≡ Some text) × Answers job file text ending)
      ⊎ ((refusal : Refusal) × IsRefusalOf words refusal)

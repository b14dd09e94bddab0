-- Which deeds the program does, in which order, and its status after them: docs/COMMANDS.md, "What a run writes".
use Rattle.std.specs.Prelude.{◌≡◌, ◌<◌, ◌+◌, ◌⊎◌, ℕ, zero, suc, List, [], ◌∷◌, ◌++◌, Bool, true, false, Option, Some, None, Result, Ok, Err, codes}
use Rattle.std.specs.Prelude.{string_bytes}
use Rattle.std.specs.Io.KnownBytes.{Appends, IsAtEnd}
use Rattle.bolt_format.specs.{Metas.IsMetasEnd, Sinks.AppendsPrefix, declared.sink.Sink.Ghosts}
use Rattle.bolt_commands.specs.{Answers.JobEnding, Answers.status_of, JobAnswers.DoesJob, Failures.failure_line}
use Rattle.bolt_commands.specs.declared.failure.Failure.TheVariants.{Memory, Write}
use Rattle.bolt_job.specs.{CommandLine.Asks, CommandLine.IsRefusalOf, Jobs.needs_metas_alone, Jobs.file_name, Jobs.target_name, declared.job.Job.Job}
use Rattle.bolt_job.specs.{declared.refusal.Refusal.Refusal}
use Rattle.bolt_cli.specs.Deeds.{Deed, Does, Read, ReadFirst, ReadOn, Made, Ended, Opened, Closed, Dropped, Said, Lacked}
use Rattle.bolt_cli.specs.{Names.shown_lines, Names.shown_name, Sources.is_changed, declared.outside.CreateFault.CreateFault}
use Rattle.bolt_cli.specs.{declared.outside.ReadFault.ReadFault, declared.outside.EndFault.EndFault}
use Rattle.bolt_cli.specs.{declared.outside.OutputFault.OutputFault, declared.outside.OutputFault.TheVariants.ReaderLeft}
use Rattle.bolt_cli.specs.{declared.outside.OutputFault.TheVariants.Failed}
use Rattle.bolt_cli.specs.declared.outside.Source.{Source}
use Rattle.bolt_text.specs.Lines.{Text}
use Rattle.bolt_job.specs.declared.refusal.Refusal.TheVariants as refusal
use Rattle.bolt_cli.specs.declared.outside.CreateFault.TheVariants as create
use Rattle.bolt_cli.specs.declared.outside.ReadFault.TheVariants as read

-- ---- lines for standard error

abbrev pub error_line : Text → List ℕ
error_line text = codes "error: " ++ (text ++ codes "\n")

abbrev pub unmade_line : Text → CreateFault → List ℕ
unmade_line name create.Exists = error_line (codes "output exists")
unmade_line name create.Refused = codes "error: cannot make " ++ (shown_name name ++ codes "\n")
unmade_line name create.Memory = failure_line Memory

abbrev pub unread_file_line : Text → ReadFault → List ℕ
unread_file_line name read.Refused = codes "error: cannot read " ++ (shown_name name ++ codes "\n")
unread_file_line name read.Memory = failure_line Memory

-- what a sink holds of this text, if it has failed so often
abbrev pub HoldsUnless : Option (List ℕ) → (failures : ℕ) → List ℕ → Type 0
HoldsUnless taken failures text = ((taken ≡ Some text) × (failures ≡ 0)) ⊎ (0 < failures)

-- what is buffered for standard error once a job has ended so: the line of its failure, unless there was no memory for it
abbrev pub IsBufferedLine : JobEnding → Option (List ℕ) → (failures : ℕ) → Type 0
IsBufferedLine (Ok status) taken failures = (taken ≡ Some []) × (failures ≡ 0)
IsBufferedLine (Err failure) taken failures = HoldsUnless taken failures (failure_line failure)

-- Some deeds were added, and with the status after them they are so, for each ending of a job of which this is buffered for standard error and
-- this is the status.
abbrev pub DoesBuffered : {O D : Type 0} → (done : O → List D → Type 0) → (old new : O) → (after : ℕ) → Option (List ℕ) → (failures : ℕ) → (code : ℕ)
    → (JobEnding → List D → ℕ → Type 0) → Type 0
DoesBuffered done old new after taken failures code Are =
    (ending : JobEnding) → IsBufferedLine ending taken failures → code ≡ status_of ending → Does done old new after (Are ending)

-- what a sink in memory holds, and how often it failed
pub record Buffered : Type 0 where
  pub text : List ℕ
  pub failures : ℕ

abbrev pub buffered_of : List ℕ → ℕ → Buffered
buffered_of text failures = record { text = text; failures = failures }

abbrev pub buffered_sink : Ghosts Buffered
buffered_sink = record { taken = λ buffered. Some buffered.text; failed = λ buffered. buffered.failures }

-- no sink
abbrev pub no_sink : Ghosts (Unit {0})
no_sink = record { taken = λ _. None; failed = λ _. 0 }

abbrev pub Choose : Bool → Type 0 → Type 0 → Type 0
Choose true A B = A
Choose false A B = B

-- a sink that took nothing yet, and hasn't failed
abbrev pub IsFresh : {S : Type 0} (sink : Ghosts S) → S → Type 0
IsFresh sink state = IsAtEnd (sink.taken state) × (sink.failed state ≡ 0)

-- ---- the deeds and the status, from the last stage to the first

module _ {O : Type 0} (output : Ghosts O) where
  -- a text was put on standard output: all of it, unless that failed
  abbrev pub Takes : List ℕ → O → O → Type 0
  Takes text before after =
      (output.failed after ≡ 0 → Appends (output.taken before) (output.taken after) text) × AppendsPrefix (output.taken before) (output.taken after) text

  -- a job without an OUT, on standard output from one state to another
  abbrev pub ShowsJob : O → O → List ℕ → Job → JobEnding → Type 0
  ShowsJob before after file job ending = DoesJob output before after no_sink tt tt file job ending

module _ {T O : Type 0} where
  -- the line goes to standard error, and nothing comes after it
  abbrev pub Ends : List ℕ → List (Deed T O) → Type 0
  Ends line (Said text ∷ []) = text ≡ line
  Ends line deeds = ⊥

  abbrev pub Fails : List ℕ → List (Deed T O) → ℕ → Type 0
  Fails line deeds code = Ends line deeds × (code ≡ 1)

  -- the line of memory goes to standard error, since a text was put to a sink in memory which has failed
  abbrev pub FailsLacking : List (Deed T O) → ℕ → Type 0
  FailsLacking (Lacked failures line ∷ []) code = (0 < failures) × (line ≡ failure_line Memory) × (code ≡ 1)
  FailsLacking deeds code = ⊥

  -- the line, which is gathered in memory, goes to standard error, unless a request for memory was refused
  abbrev pub FailsGathered : List ℕ → List (Deed T O) → ℕ → Type 0
  FailsGathered line deeds code = Fails line deeds code ⊎ FailsLacking deeds code

  -- words are no line of a command, as this text says, which is gathered in memory
  abbrev pub RefusesUsage : List ℕ → List (Deed T O) → ℕ → Type 0
  RefusesUsage text deeds code = (Ends (shown_lines text) deeds × (code ≡ 2)) ⊎ FailsLacking deeds code

  -- OUT isn't on the disk after a job that ended so
  abbrev pub FailsUnended : JobEnding → List (Deed T O) → ℕ → Type 0
  FailsUnended (Ok status) deeds code = Fails (failure_line Write) deeds code
  FailsUnended (Err failure) deeds code = FailsGathered (failure_line failure) deeds code

  -- a job that ended so is over: with the line of its failure, if there was one
  abbrev pub IsReported : JobEnding → List (Deed T O) → ℕ → Type 0
  IsReported (Ok status) deeds code = (deeds ≡ []) × (code ≡ status)
  IsReported (Err failure) deeds code = FailsGathered (failure_line failure) deeds code

  -- if the reader of standard output has left, nothing more is said
  abbrev pub IsUnprinted : OutputFault → List (Deed T O) → ℕ → Type 0
  IsUnprinted ReaderLeft deeds code = (deeds ≡ []) × (code ≡ 1)
  IsUnprinted Failed deeds code = Fails (failure_line Write) deeds code

module _ {T O : Type 0} (output : Ghosts O) where
  -- standard output comes back in this state
  abbrev pub Closes : O → JobEnding → List (Deed T O) → ℕ → Type 0
  Closes after ending (Closed printed (Ok done) ∷ deeds) code = (printed ≡ after) × (output.failed printed ≡ 0) × IsReported ending deeds code
  Closes after ending (Closed printed (Err fault) ∷ deeds) code = (printed ≡ after) × (output.failed printed ≡ 0) × IsUnprinted fault deeds code
  Closes after ending (Dropped printed fault ∷ deeds) code = (printed ≡ after) × (0 < output.failed printed) × IsUnprinted fault deeds code
  Closes after ending deeds code = ⊥

  -- standard output is opened, takes the text, and is closed
  abbrev pub PrintsText : List ℕ → JobEnding → List (Deed T O) → ℕ → Type 0
  PrintsText text ending (Opened (Ok before) ∷ deeds) code =
      IsFresh output before × (after : O) × Takes output text before after × Closes after ending deeds code
  PrintsText text ending (Opened (Err fault) ∷ deeds) code = Fails (failure_line Memory) deeds code
  PrintsText text ending deeds code = ⊥

  -- standard output is opened, the job is done on it, and it is closed
  abbrev pub Shows : List ℕ → Job → List (Deed T O) → ℕ → Type 0
  Shows file job (Opened (Ok before) ∷ deeds) code =
      IsFresh output before × (after : O) × (ending : JobEnding) × ShowsJob output before after file job ending
      × Closes after ending deeds code
  Shows file job (Opened (Err fault) ∷ deeds) code = Fails (failure_line Memory) deeds code
  Shows file job deeds code = ⊥

  -- if OUT is on the disk, what was buffered is printed, provided there was memory for it; otherwise none of it is
  abbrev pub PrintsBuffered : (failures : ℕ) → List ℕ → JobEnding → List (Deed T O) → ℕ → Type 0
  PrintsBuffered zero text ending deeds code = PrintsText text ending deeds code
  PrintsBuffered (suc more) text ending deeds code = FailsLacking deeds code

  abbrev pub IsEnded : Result (Unit {0}) EndFault → Buffered → JobEnding → List (Deed T O) → ℕ → Type 0
  IsEnded (Ok done) buffered ending deeds code = PrintsBuffered buffered.failures buffered.text ending deeds code
  IsEnded (Err fault) buffered ending deeds code = FailsUnended ending deeds code

  -- of FILE, the bytes that its metas need are read, which its first 80 tell; they are taken as they are, changed or not
  abbrev pub ReadsRest : Job → List ℕ → List (Deed T O) → ℕ → Type 0
  ReadsRest job first (ReadOn begun count (Ok bytes) ∷ deeds) code =
      (begun ≡ first) × IsMetasEnd first (80 + count) × Shows bytes job deeds code
  ReadsRest job first (ReadOn begun count (Err fault) ∷ deeds) code =
      (begun ≡ first) × IsMetasEnd first (80 + count) × FailsGathered (unread_file_line (file_name job) fault) deeds code
  ReadsRest job first deeds code = ⊥

  abbrev pub ReadsMetas : Job → List (Deed T O) → ℕ → Type 0
  ReadsMetas job (ReadFirst name count (Ok first) ∷ deeds) code = (name ≡ file_name job) × (count ≡ 80) × ReadsRest job first deeds code
  ReadsMetas job (ReadFirst name count (Err fault) ∷ deeds) code =
      (name ≡ file_name job) × (count ≡ 80) × FailsGathered (unread_file_line (file_name job) fault) deeds code
  ReadsMetas job deeds code = ⊥

module _ {T O : Type 0} (target : Ghosts T) (output : Ghosts O) where
  -- the job is done on OUT, while what it prints is buffered, and then OUT is ended
  abbrev pub WritesOut : T → List ℕ → Job → List (Deed T O) → ℕ → Type 0
  WritesOut before file job (Ended after result ∷ deeds) code =
      (buffered : Buffered) × (ending : JobEnding)
      × DoesJob buffered_sink (buffered_of [] 0) buffered target before after file job ending
      × IsEnded output result buffered ending deeds code
  WritesOut before file job deeds code = ⊥

  -- OUT is made, with FILE's permission bits, and the job is done on it
  abbrev pub Makes : Text → Source → Job → List (Deed T O) → ℕ → Type 0
  Makes out source job (Made name permissions (Ok made) ∷ deeds) code =
      (name ≡ out) × (permissions ≡ source.permissions) × IsFresh target made × WritesOut made source.bytes.items job deeds code
  Makes out source job (Made name permissions (Err fault) ∷ deeds) code =
      (name ≡ out) × (permissions ≡ source.permissions) × FailsGathered (unmade_line out fault) deeds code
  Makes out source job deeds code = ⊥

  -- the job is done: with an OUT, if it has one
  abbrev pub Goes : Option Text → Source → Job → List (Deed T O) → ℕ → Type 0
  Goes (Some out) source job deeds code = Makes out source job deeds code
  Goes None source job deeds code = Shows output source.bytes.items job deeds code

  -- FILE is read, at most so many times: again if it was changed meanwhile
  abbrev pub Reads : (left : ℕ) → Job → List (Deed T O) → ℕ → Type 0
  Reads zero job deeds code = Fails (error_line (codes "file changed while it was read")) deeds code
  Reads (suc left) job (Read name (Ok source) ∷ deeds) code =
      (name ≡ file_name job) × Choose (is_changed source) (Reads left job deeds code) (Goes (target_name job) source job deeds code)
  Reads (suc left) job (Read name (Err fault) ∷ deeds) code = (name ≡ file_name job) × FailsGathered (unread_file_line (file_name job) fault) deeds code
  Reads (suc left) job deeds code = ⊥

  -- as much of FILE is read as the job needs, and it is done
  abbrev pub DoesAsked : Job → List (Deed T O) → ℕ → Type 0
  DoesAsked job deeds code = Choose (needs_metas_alone job) (ReadsMetas output job deeds code) (Reads 3 job deeds code)

  -- words are refused: nothing is read or made
  abbrev pub Refuses : Refusal → List (Deed T O) → ℕ → Type 0
  Refuses refusal.Memory deeds code = Fails (failure_line Memory) deeds code
  Refuses (refusal.Help text) deeds code = PrintsText output (string_bytes text) (Ok 0) deeds code
  Refuses (refusal.Version text) deeds code = PrintsText output (string_bytes text) (Ok 0) deeds code
  Refuses (refusal.Usage text) deeds code = RefusesUsage (string_bytes text) deeds code
  Refuses (refusal.Word why) deeds code = Ends (error_line why.now) deeds × (code ≡ 2)

  -- the words ask for a job, which is done on FILE, or they are refused
  abbrev pub IsRun : List Text → List (Deed T O) → ℕ → Type 0
  IsRun words deeds code =
      ((job : Job) × Asks words job × DoesAsked job deeds code)
      ⊎ ((refusal : Refusal) × IsRefusalOf words refusal × Refuses refusal deeds code)

-- The command line as it is described to `clap`, and what its matches ask for.
use Rattle.std.specs.Prelude.{◌≡◌, ◌≢◌, ◌⊎◌, List, [], Option, Some, None, Ok, Err, Result, false, true, codes, fold, unwrap_or, MatchResult}
use Rattle.clap.specs.Words.{App, IsAmong, Kinds, Row, Rule, all_of, app_of, fault_of, new_app, subcommand_of, with_subcommand}
use Rattle.clap.specs.{declared.builder.Command.Command, declared.builder.Command.TheViews.out-Command, declared.error.ErrorKind.ErrorKind}
use Rattle.clap.specs.declared.error.ErrorKind.TheVariants as kind
use Rattle.bolt_job.specs.{declared.job.Job.Job, declared.refusal.Refusal.Refusal}
use Rattle.bolt_job.specs.declared.refusal.Refusal.TheVariants.{Memory, Help, Version, Usage, Word}
use Rattle.bolt_job.specs.{Jobs.asked_of, PlainWords.Asked, PlainWords.Values, PlainWords.asked, PlainWords.lines}
use Rattle.bolt_text.specs.Lines.{Text}

-- ---- what the command line may hold

-- a command with these arguments
abbrev pub command_with : Text → List Rule → App
command_with name rules = let bare = new_app name in record bare { top = record bare.top { rules = rules } }

-- the program's own level: it has no arguments, needs a subcommand and prints its version; `clap` adds the command `help`
abbrev pub bare_program : App
bare_program = let bare = new_app (codes "luntsegi") in record bare {
  top = record bare.top { has_version = true; subcommand_required = true };
}

abbrev pub program_of : List (Text × List Rule) → App
program_of lines = fold (λ app line. with_subcommand app (command_with line.0 line.1).top) bare_program lines

abbrev pub program : App
program = program_of lines

-- the command is described so, and none of its arguments is global
abbrev pub IsCommand : App → Command → Type 0
IsCommand app command = (app_of command ≡ app) × ((out-Command command).has_globals ≡ false)

-- ---- what matches ask for

-- the words that the matches have by a name
abbrev pub values_in : List Row → Values
values_in rows name = unwrap_or (all_of name rows) []

-- what is asked by the subcommand that was met, and the matches of its arguments
abbrev pub asked_by_subcommand : Option (Text × List Row) → Result Asked Text
asked_by_subcommand (Some met) = asked met.0 (values_in met.1)
asked_by_subcommand None = Err (codes "command missing")

-- what is asked by the words
abbrev pub asked_by : List Text → Result Asked Text
asked_by words = asked_by_subcommand (subcommand_of program words)

-- ---- answers

-- the result is what is wanted, and an error says that memory ran out or what is wrong
abbrev pub ReadsAs : {T X : Type 0} → (T → X) → Result X Text → Result T Refusal → Type 0
ReadsAs view wanted answer = MatchResult answer (λ value. wanted ≡ Ok (view value))
    (λ refusal. (refusal ≡ Memory) ⊎ (why : _) × (refusal ≡ Word why) × (wanted ≡ Err why.now))

-- the words ask for the job, and `clap` finds no fault in them
abbrev pub Asks : List Text → Job → Type 0
Asks words job = (asked_by words ≡ Ok (asked_of job)) × (fault_of program words ≡ [])

-- a fault that asks neither for help nor for the version
abbrev pub IsUsage : ErrorKind → Type 0
IsUsage fault = (fault ≢ kind.DisplayHelp) × (fault ≢ kind.DisplayVersion)

-- at least one of the faults asks neither for help nor for the version
abbrev pub IsAmongUsage : Kinds → Type 0
IsAmongUsage kinds = (fault : ErrorKind) × IsAmong fault kinds × IsUsage fault

-- the refusal is one for words with these faults, which ask for this
abbrev pub IsRefusedBy : Kinds → Result Asked Text → Refusal → Type 0
IsRefusedBy kinds wanted Memory = Unit {0}
IsRefusedBy kinds wanted (Help text) = IsAmong kind.DisplayHelp kinds
IsRefusedBy kinds wanted (Version text) = IsAmong kind.DisplayVersion kinds
IsRefusedBy kinds wanted (Usage text) = IsAmongUsage kinds
IsRefusedBy kinds wanted (Word why) = (kinds ≡ []) × (wanted ≡ Err why.now)

-- the refusal is one for these words
abbrev pub IsRefusalOf : List Text → Refusal → Type 0
IsRefusalOf words = IsRefusedBy (fault_of program words) (asked_by words)

-- the refusal is the one for an error of `clap`'s of this kind
abbrev pub HasKindOf : ErrorKind → Refusal → Type 0
HasKindOf fault Memory = fault ≡ kind.OutOfMemory
HasKindOf fault (Help text) = fault ≡ kind.DisplayHelp
HasKindOf fault (Version text) = fault ≡ kind.DisplayVersion
HasKindOf fault (Usage text) = IsUsage fault × (fault ≢ kind.OutOfMemory)
HasKindOf fault (Word why) = ⊥

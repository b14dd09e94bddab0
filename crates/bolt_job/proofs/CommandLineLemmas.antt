-- The command line as it is built, and what its matches say.
use Rattle.std.proofs.Common.{arith, ◌≡◌, ◌⊎◌, ◌∙◌, List, [], ◌∷◌, ◌++◌, true, false, refl, sym, ap}
use Rattle.std.proofs.Common.{ap₂, subst, inl}
use Rattle.std.proofs.Common.{inr, rules, Option, None, Some, Result, Ok, Err, IfOk, IfErr, option_map, slice_get, unwrap_or}
use Rattle.bolt_job.proofs.Vocabulary.{AddsArg, AddsSubcommand, App, Asked, Asks, Box, Command, ReadsAs, HasKindOf, HasMatchesOf, Help, IsAmong}
use Rattle.bolt_job.proofs.Vocabulary.{IsCommand, IsRefusedBy, Job, Kinds, Memory, Refusal, Row, Rule, Usage, Version, Word, asked, asked_by}
use Rattle.bolt_job.proofs.Vocabulary.{asked_by_subcommand, asked_of, command_with, fault_of, first_word_of, is_simple, is_simple_and_free}
use Rattle.bolt_job.proofs.Vocabulary.{option_and_then, program, rule_of, subcommand_of, subcommand_rows_of, values_in}
use Rattle.bolt_job.proofs.Vocabulary.{with_rule, with_subcommand}
use Rattle.std.specs.Box.{box_value}
use Rattle.clap.specs.{Words.Text, declared.parser.ArgMatches.ArgMatches, declared.parser.matches.ArgMatches.TheViews.out-ArgMatches}
use Rattle.clap.specs.{declared.parser.matches.ArgMatches.TheViews.out-SubCommand}
use Rattle.clap.specs.{declared.parser.matches.SubCommand.SubCommand, Matches.subcommand_name_of, Simple.subcommand_rows, declared.builder.Arg.Arg}
use Rattle.clap.specs.{declared.error.ErrorKind.ErrorKind}
use Rattle.clap.specs.declared.error.ErrorKind.TheVariants as kind

pub program_is_simple : is_simple program ≡ true
program_is_simple = refl

pub program_is_free : is_simple_and_free program ≡ true
program_is_free = refl

-- a command with one more argument
pub argument_added : (name : Text) (before : List Rule) (rule : Rule) (old new : Command) (arg : Arg) → IsCommand (command_with name before) old
    → rule_of arg ≡ rule → arg.global ≡ false → AddsArg old arg new → IsCommand (command_with name (before ++ rule ∷ [])) new
argument_added name before rule old new arg above is local adds = grind (arith, with_rule)

-- a command with one more subcommand
pub subcommand_added : (a b : App) (old sub new : Command) → IsCommand a old → IsCommand b sub
    → AddsSubcommand old sub new → IsCommand (with_subcommand a b.top) new
subcommand_added a b old sub new above below adds = grind (arith, with_subcommand)

-- the subcommand that matches have is the one that the words name
pub subcommand_met : (a b : App) (ws vs : List Text) (m : ArgMatches) → a ≡ b → ws ≡ vs → is_simple b ≡ true
    → HasMatchesOf a ws m → subcommand_rows_of m ≡ subcommand_of b vs
subcommand_met a b ws vs m same words simple matches =
    (matches (ap is_simple same ∙ simple)).1 ∙ ap₂ subcommand_of same words

module _ {T X : Type 0} where
  pub gives_same : (view : T → X) (a b : Result X Text) (r : Result T Refusal) → a ≡ b → ReadsAs view b r → ReadsAs view a r
  gives_same view a b r same gives = subst (λ (x : Result X Text). ReadsAs view x r) (sym same) gives

-- ---- matches

first_at : (words : List Text) → slice_get words 0 ≡ first_word_of words
first_at [] = refl
first_at (word ∷ words) = refl

-- the first word that a row has
pub found_first : (row : Option Row)
    → option_and_then (λ (r : Row). slice_get r.values 0) row ≡ first_word_of (unwrap_or (option_map (λ (r : Row). r.values) row) [])
found_first None = refl
found_first (Some row) = first_at row.values

named_rows : {Z : Type 0} (sub : Option (Box SubCommand Z)) (name : Text) (rows : List Row)
    → option_map (λ (b : Box SubCommand Z). (out-SubCommand (box_value b)).name.now) sub ≡ Some name
    → option_map (λ (p : Text × List Row). p.1) (subcommand_rows sub) ≡ Some rows
    → subcommand_rows sub ≡ Some (name, rows)
named_rows None name rows named has = absurd (let bad : None ≡ Some name = named in search (rules, bad))
named_rows (Some b) name rows named has = ap₂ (λ (n : Text) (r : List Row). Some (n, r)) (search (rules, named)) (search (rules, has))

-- what is asked for, by the name of the subcommand and its rows
pub asked_named : (m : ArgMatches) (name : Text) (rows : List Row) → subcommand_name_of m ≡ Some name
    → option_map (λ (p : Text × List Row). p.1) (subcommand_rows_of m) ≡ Some rows
    → asked_by_subcommand (subcommand_rows_of m) ≡ asked name (values_in rows)
asked_named m name rows named has = ap asked_by_subcommand (named_rows (out-ArgMatches m).subcommand name rows named has)

-- ---- answers

pub job_answered : (texts : List Text) (r : Result Job Refusal) → ReadsAs asked_of (asked_by texts) r
    → fault_of program texts ≡ [] → IfOk r (Asks texts)
job_answered texts (Ok job) gives taken = (gives, taken)
job_answered texts (Err e) gives taken = tt

pub word_refused : (kinds : Kinds) (wanted : Result Asked Text) (r : Result Job Refusal) → ReadsAs asked_of wanted r
    → kinds ≡ [] → IfErr r (IsRefusedBy kinds wanted)
word_refused kinds wanted (Ok job) gives taken = tt
word_refused kinds wanted (Err e) gives taken = grind arith

pub fault_refused : (k : ErrorKind) (kinds : Kinds) (wanted : Result Asked Text) (e : Refusal) → HasKindOf k e
    → (k ≡ kind.OutOfMemory) ⊎ IsAmong k kinds → IsRefusedBy kinds wanted e
fault_refused k kinds wanted Memory by found = tt
fault_refused k kinds wanted (Help text) by (inl full) = absurd (cc)
fault_refused k kinds wanted (Help text) by (inr among) = subst (λ (x : ErrorKind). IsAmong x kinds) by among
fault_refused k kinds wanted (Version text) by (inl full) = absurd (cc)
fault_refused k kinds wanted (Version text) by (inr among) = subst (λ (x : ErrorKind). IsAmong x kinds) by among
fault_refused k kinds wanted (Usage text) by (inl full) = absurd (by.1 full)
fault_refused k kinds wanted (Usage text) by (inr among) = (k, among, by.0)
fault_refused k kinds wanted (Word why) by found = absurd by

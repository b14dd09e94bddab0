-- What the functions of the command line promise.
use Rattle.std.specs.Prelude.{◌≡◌, Option, None, Some, Ok, Err, codes}
use Rattle.bolt_job.specs.{CommandLine.values_in, PlainWords.Values, PlainWords.assumed_of, PlainWords.meta_in}
use Rattle.bolt_text.specs.Lines.{Text}
use Rattle.bolt_job.specs.{declared.choices.AssumedMeta.AssumedMeta, declared.choices.MetaChoice.TheVariants.Assumed, declared.line.Line.Line}
use Rattle.clap.specs.Words.{found_of, rows_of}

-- the assumed meta that a word names, or it names none
abbrev pub IsAssumedBy : Text → Option AssumedMeta → Type 0
IsAssumedBy word None = assumed_of word ≡ Err (codes "bad meta: use PAGE_SIZE:ROOT, and no --meta")
IsAssumedBy word (Some assumed) = assumed_of word ≡ Ok (meta_in (Assumed assumed))

-- the words that a line has by each name
abbrev pub values_of : Line → Values
values_of line = values_in (rows_of (found_of line.matches.now))

-- What the functions of `buckets`, `keys` and `get` with `--recover` promise.
use Rattle.std.specs.Prelude.{List, ℕ, Bool, Option, Some, None, Result, Ok, Err, if◌then◌else◌}
use Rattle.std.specs.Borrow.{Bor}
use Rattle.bolt_tree.specs.{ListingParts.has_bucket}
use Rattle.bolt_job.specs.PlainWords.{owned_path}
use Rattle.bolt_report.specs.MemberNames.{is_wanted}
use Rattle.bolt_commands.specs.{Answers.Answer, Answers.JobEnding, FilesRead.end_listing, KeyAnswers.IsNamesAnswer, KeyAnswers.IsRecoveredAnswer}
use Rattle.bolt_commands.specs.{KeyAnswers.no_bucket, KeyAnswers.no_key}
use Rattle.bolt_commands.specs.declared.{failure.Failure.Failure, recovered_names.RecoveredNames.RecoveredNames, shortfall.Shortfall.Shortfall}

-- the names that are asked for of what is recovered
abbrev pub IsNamesPrint : RecoveredNames → List ℕ → Answer → Type 0
IsNamesPrint asked file = IsRecoveredAnswer file asked.meta (IsNamesAnswer asked.form (is_wanted asked.names) (owned_path asked.path.now))

-- how a job ends that put what is recovered of a bucket, if that was found
abbrev pub end_names : (found : Bool) → Option Shortfall → JobEnding
end_names found lacking = if found then end_listing lacking else Err (no_bucket lacking)

-- the value, or why there is none
abbrev pub value_or_why : (value : Option (Bor (List ℕ))) (has_bucket : Bool) → Option Shortfall → Result (Bor (List ℕ)) Failure
value_or_why (Some value) has_bucket lacking = Ok value
value_or_why None has_bucket lacking = Err (if has_bucket then no_key lacking else no_bucket lacking)

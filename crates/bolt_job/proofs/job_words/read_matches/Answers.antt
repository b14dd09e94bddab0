-- What the subcommand asks for, the matches do.
use Rattle.std.proofs.Common.{sym}
use Rattle.bolt_job.proofs.CommandLineLemmas.{asked_named, gives_same}
use Rattle.bolt_job.proofs.job_words.read_matches.Goals as goal

pub returns-in-Some : goal.returns-in-Some
returns-in-Some c =
    gives_same _ _ _ c.read_command.result (asked_named c.args.matches.now _ _ (sym c.in-Some.ensures.name) (sym c.in-Some.ensures.rows)) c.read_command.ensures

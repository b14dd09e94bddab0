use Rattle.std.proofs.Common.{rules, ◌≡◌, ◌∙◌, ap, ap₂, subst, sym, map, string_bytes}
use Rattle.bolt_job.proofs.Vocabulary.{HasKind, Kinds, app_of, asked_by, asked_by_subcommand, fault_of, is_simple_and_free, program}
use Rattle.bolt_job.proofs.CommandLineLemmas.{fault_refused, gives_same, job_answered, program_is_free, program_is_simple, subcommand_met}
use Rattle.bolt_job.proofs.CommandLineLemmas.{word_refused}
use Rattle.bolt_job.proofs.job_words.read_words.Goals as goal

pub returns-in-Ok : goal.returns-in-Ok
returns-in-Ok c =
    let texts : map string_bytes c.as_slice.result.now ≡ map string_bytes c.args.words.items = search rules in
    let app_is = c.in_ok-command.ensures.0 in
    let met = subcommand_met (app_of c.in_ok-command.command) program _ _ c.in-Ok.matches app_is texts program_is_simple c.in-Ok.ensures.matches in
    let taken = sym (ap₂ fault_of app_is texts) ∙ c.in-Ok.ensures.kinds (ap is_simple_and_free app_is ∙ program_is_free) in
    let gives = gives_same _ _ _ _ (ap asked_by_subcommand (sym met)) c.read_matches.ensures in
    record {
      job = job_answered (map string_bytes c.args.words.items) c.read_matches.result gives taken;
      refusal = word_refused _ _ c.read_matches.result gives taken;
    }

pub returns-clause-refusal : goal.returns-clause-refusal
returns-clause-refusal c =
    let texts : map string_bytes c.as_slice.result.now ≡ map string_bytes c.args.words.items = search rules in
    let app_is = c.in_ok-command.ensures.0 in
    fault_refused _ (fault_of program (map string_bytes c.args.words.items)) (asked_by (map string_bytes c.args.words.items))
    c.in_ok-refusal_of-in-Err.field-0 c.in_ok-refusal_of-in-Err.ensures
    (subst (λ (x : Kinds). HasKind x c.in-Err.error) (ap₂ fault_of app_is texts) (c.in-Err.ensures.kinds (ap is_simple_and_free app_is ∙ program_is_free)))

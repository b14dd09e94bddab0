use Rattle.bolt_recover.proofs.Words.{claims_bytes, recovery_file}
use Rattle.bolt_recover.proofs.laws.the_file_of_a_recovery_is_bytes.Goals as goal

pub returns : goal.returns
unfolding recovery_file
returns c = claims_bytes c.args.recovery.now.steps.claims

use Rattle.bolt_text.proofs.GatherLemmas.{Gathers-fault, Gathers-put}
use Rattle.bolt_text.proofs.gathered.put_hex_digits.Goals as goal

pub returns-in_err-put_gathered : goal.returns-in_err-put_gathered
returns-in_err-put_gathered g c = Gathers-fault _ _ _ c.in_err-put_gathered.ensures.wrote c.from_residual.ensures.0

pub returns-in_ok-put_gathered : goal.returns-in_ok-put_gathered
returns-in_ok-put_gathered g c = Gathers-put c.in_ok-put_gathered.ensures.empty c.in_ok-put_gathered.ensures.wrote c.put_hex.ensures

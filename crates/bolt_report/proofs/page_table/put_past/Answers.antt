use Rattle.std.proofs.Common.{◌≡◌, ◌==◌, false, arith}
use Rattle.std.proofs.lemmas.Bool.{ne_eqb}
use Rattle.bolt_report.proofs.page_table.put_past.Goals as goal

pub returns-else-count-eq0 : goal.returns-else-count-eq0
returns-else-count-eq0 g c =
    let some : (c.args.count == 0) ≡ false = ne_eqb c.args.count 0 (λ e. omega (arith, c.if-count-eq0.false)) in rw some c.put_pieces.ensures

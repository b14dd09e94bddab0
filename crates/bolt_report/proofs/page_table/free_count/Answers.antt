-- The freelist of a file whose pages have roles is good.
use Rattle.std.proofs.Common.{ne_eqb}
use Rattle.bolt_report.proofs.Words.{props, ∥∥₁_elim}
use Rattle.std.proofs.lemmas.Bool.{cond-false}
use Rattle.bolt_report.proofs.page_table.free_count.Goals as goal

pub unreachable-requires : goal.unreachable-requires
unreachable-requires c =
    ∥∥₁_elim c.requires (Prim.hlevel props)
    (λ is. let good = rw (cond-false _ _ _ (ne_eqb _ _ is.0.written)) at is.0.good in cc (c.in-Err.ensures.fault.0, is.1))

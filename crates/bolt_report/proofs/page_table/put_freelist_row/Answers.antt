use Rattle.bolt_report.proofs.Words.{bytes_of, meta_of, props, ∥∥₁_elim}
use Rattle.bolt_check.proofs.Exports.{freelist_shown}
use Rattle.bolt_report.proofs.page_table.put_freelist_row.Goals as goal

pub known-page-requires : goal.known-page-requires
known-page-requires g c =
    rw (c.bytes.ensures, c.meta.ensures)
    (∥∥₁_elim c.requires (Prim.hlevel props) (λ is. freelist_shown (bytes_of c.args.checked.now) (meta_of c.args.checked.now) c.args.id is.0 is.1))

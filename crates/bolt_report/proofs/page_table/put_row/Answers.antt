use Rattle.std.proofs.Common.{false, true}
use Rattle.bolt_report.proofs.Words.{bytes_of, meta_of, props, ∥∥₁_elim}
use Rattle.bolt_check.proofs.Exports.{first_shown}
use Rattle.bolt_report.proofs.page_table.put_row.Goals as goal

pub put_tree_row-requires : goal.put_tree_row-requires
put_tree_row-requires g c =
    let file = bytes_of c.args.checked.now in
    let meta = meta_of c.args.checked.now in
    let has = rw c.in-Branch.is at c.requires in
    ∥∥₁_elim has (Prim.hlevel props) (λ is. first_shown file meta false c.args.id is)

pub put_tree_row-requires-in-Leaf : goal.put_tree_row-requires-in-Leaf
put_tree_row-requires-in-Leaf g c =
    let file = bytes_of c.args.checked.now in
    let meta = meta_of c.args.checked.now in
    let has = rw c.in-Leaf.is at c.requires in
    ∥∥₁_elim has (Prim.hlevel props) (λ is. first_shown file meta true c.args.id is)

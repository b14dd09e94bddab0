use Rattle.bolt_check.proofs.Words.{bytes_of, meta_of, props, shown, ∥∥₁_elim}
use Rattle.std.proofs.Common.{rules}
use Rattle.bolt_check.proofs.{KnownPages.is_tree, KnownPages.opened_as, KnownPages.some_tree, NodeLemmas.node_shown, TourSums.enough_shown}
use Rattle.bolt_check.proofs.leaf_depth.known_page.Goals as goal

pub known-page-requires : goal.known-page-requires
known-page-requires c =
    rw (c.bytes.ensures, c.meta.ensures)
    (∥∥₁_elim c.requires (Prim.hlevel props) (λ (steps, h). enough_shown (bytes_of c.args.checked.now) (meta_of c.args.checked.now) steps c.args.number h))

pub unwrap-requires : goal.unwrap-requires
unwrap-requires c =
    let at = rw (c.bytes.ensures, c.meta.ensures) at c.known-page.ensures in
    ∥∥₁_elim c.requires (Prim.hlevel props)
    (λ (steps, h). some_tree c.tree_page.result _ (is_tree _ _ _ (shown c.known-page.result) at steps h) c.tree_page.ensures.none)

pub returns : goal.returns
returns c = search (rules, node_shown, opened_as)

use Rattle.std.proofs.Common.{◌∙◌, ◌+◌, ◌++◌, List, ℕ, ap, append-nil, refl, sym}
use Rattle.bolt_stats.proofs.Words.{branches_on, bytes_of, leaves_on, saturated, inline_depth, leaf_entry, meta_of, props, shown, UnreadPage}
use Rattle.bolt_stats.proofs.Words.{∥∥₁_elim}
use Rattle.bolt_format.specs.declared.tree_page.TreePage.TheVariants.{Branch, Leaf}
use Rattle.bolt_check.specs.ShownNodes.{shown_node}
use Rattle.bolt_check.proofs.Exports.{is_tree, opened_as, some_tree, node_shown, enough_shown}
use Rattle.bolt_stats.proofs.{DepthSums.greatest_map, ReadLemmas.branch_kids, ReadLemmas.leaf_kids}
use Rattle.bolt_stats.proofs.bucket_stats.read_unread_page.Goals as goal

pub known-page-requires : goal.known-page-requires
known-page-requires c =
    rw (c.bytes.ensures, c.meta-meta.ensures)
    (∥∥₁_elim c.requires (Prim.hlevel props) (λ h. enough_shown (bytes_of c.args.checked.now) (meta_of c.args.checked.now) _ c.args.next.number h))

pub unwrap-requires : goal.unwrap-requires
unwrap-requires c =
    let at = rw (c.bytes.ensures, c.meta-meta.ensures) at c.known-page.ensures in
    ∥∥₁_elim c.requires (Prim.hlevel props) (λ h. some_tree c.tree_page.result _ (is_tree _ _ _ (shown c.known-page.result) at _ h) c.tree_page.ensures.none)

pub returns-in_ok-add_children-in-Branch-clause-kids : goal.returns-in_ok-add_children-in-Branch-clause-kids
unfolding shown_node
returns-in_ok-add_children-in-Branch-clause-kids c =
    let at = rw (c.bytes.ensures, c.meta-meta.ensures) at c.known-page.ensures in
    let node =
    node_shown (bytes_of c.args.checked.now) (meta_of c.args.checked.now) c.args.next.number (shown c.known-page.result) (Branch c.in-Branch.branch) at
    (opened_as c.tree_page.result _ _ (shown c.known-page.result) c.unwrap.ensures c.in-Branch.is c.tree_page.ensures.some) in
    let opened =
    c.in_ok-add_children-in-Branch.ensures
    ∙ ap (λ (l : List UnreadPage). c.args.pages.now.items ++ l) (sym (branch_kids (saturated (c.args.next.depth + 1)) (branches_on c.in-Branch.branch))) in
    ∣ (_, node, opened, sym (append-nil c.args.roots.now.items), refl, refl) ∣₁

pub returns-in_ok-inline_depth-in-Leaf-clause-kids : goal.returns-in_ok-inline_depth-in-Leaf-clause-kids
unfolding shown_node
returns-in_ok-inline_depth-in-Leaf-clause-kids c =
    let at = rw (c.bytes.ensures, c.meta-meta.ensures) at c.known-page.ensures in
    let node = node_shown (bytes_of c.args.checked.now) (meta_of c.args.checked.now) c.args.next.number (shown c.known-page.result) (Leaf c.in-Leaf.leaf) at
    (opened_as c.tree_page.result _ _ (shown c.known-page.result) c.unwrap.ensures c.in-Leaf.is c.tree_page.ensures.some) in
    let found = c.in_ok-inline_depth-in-Leaf.ensures.roots ∙ ap (λ (l : List ℕ). c.args.roots.now.items ++ l) (sym (leaf_kids (leaves_on c.in-Leaf.leaf))) in
    let deep = c.in_ok-inline_depth-in-Leaf.ensures.depth ∙ sym (greatest_map inline_depth leaf_entry (leaves_on c.in-Leaf.leaf)) in
    ∣ (_, node, sym (append-nil c.args.pages.now.items), found, refl, deep) ∣₁

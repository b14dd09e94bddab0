use Rattle.std.proofs.Common.{sym, arith}
use Rattle.bolt_lemmas.proofs.Exports.{passed_on}
use Rattle.bolt_check.proofs.{Words.late, Words.node_at, Words.page_spot, Words.PageTests, Words.shown_node, Lawful.early_passes}
use Rattle.bolt_check.proofs.visit.test_page.Goals as goal

pub returns-in_err-test_node-clause-found : goal.returns-in_err-test_node-clause-found
returns-in_err-test_node-clause-found c =
    let node = c.in_ok-node.node in
    passed_on c.from_residual-in_err-test_node.result c.in_err-test_node.field-0.0
    (PageTests (node_at c.args.file.now c.args.meta.now) (λ n. ⊥) (page_spot c.args.spot.now))
    (late (shown_node node)
    (early_passes (node_at c.args.file.now c.args.meta.now) (page_spot c.args.spot.now) (shown_node node)
    (omega (arith, c.from.ensures, c.if-from-gt-MAX_DEPTH.false)) c.in_ok-node.ensures.node) c.in_ok-node.ensures.node
    (λ n span none. none) (sym c.in_err-test_node.ensures)) c.from_residual-in_err-test_node.ensures.1

pub returns-clause-passes : goal.returns-clause-passes
returns-clause-passes c = grind (arith, early_passes)

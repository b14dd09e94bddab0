use Rattle.std.proofs.Common.{◌∷◌, arith, sym}
use Rattle.bolt_lemmas.proofs.Exports.{passed_on}
use Rattle.bolt_check.proofs.Words.{At_inline, At_page, forest, shown_inner, IsClaimed, IsSearchFault, node_at, page_spot, shown_node, spots_of}
use Rattle.bolt_check.proofs.Words.{Structure}
use Rattle.bolt_check.proofs.{Forest.found_step, Visited.inline_carries, Visited.page_carries}
use Rattle.bolt_check.proofs.search.step.Goals as goal

pub returns-in_err-node-in-Page-clause-reported : goal.returns-in_err-node-in-Page-clause-reported
returns-in_err-node-in-Page-clause-reported c =
    let nodes = node_at c.args.file.now c.args.meta.now in
    let spots = spots_of c.args.pending.now.items in
    rw c.in-Page.is
    (passed_on c.from_residual.result (Structure c.in_err-node-in-Page.field-0.0)
    (IsSearchFault nodes (forest nodes (At_page (page_spot c.in-Page.spot) ∷ spots)) (IsClaimed c.args.table.now))
    (found_step nodes (IsClaimed c.args.table.now)
    (At_page (page_spot c.in-Page.spot)) spots c.in_err-node-in-Page.field-0.0 c.in_err-node-in-Page.ensures.found) c.from_residual.ensures.1)

pub returns-in_ok-push_kids-in-Page-clause-carried : goal.returns-in_ok-push_kids-in-Page-clause-carried
returns-in_ok-push_kids-in-Page-clause-carried c =
    rw c.in-Page.is
    (page_carries (node_at c.args.file.now c.args.meta.now) (page_spot c.in-Page.spot) (shown_node c.in_ok-node-in-Page.node)
    (spots_of c.args.pending.now.items) (spots_of c.push_kids.new.pending.items)
    c.args.table.now c.visit.new.table c.in_ok-node-in-Page.ensures.node c.in_ok-push_kids-in-Page.ensures.kids c.in_ok-node-in-Page.ensures.claims
    c.in_ok-node-in-Page.ensures.passes)

pub returns-in_err-test-in-Bucket-clause-reported : goal.returns-in_err-test-in-Bucket-clause-reported
returns-in_err-test-in-Bucket-clause-reported c =
    let nodes = node_at c.args.file.now c.args.meta.now in
    let spots = spots_of c.args.pending.now.items in
    let bucket = At_inline c.in-Bucket.spot.host (shown_inner c.in-Bucket.spot.page) in
    rw c.in-Bucket.is
    (passed_on c.from_residual-in_err-test-in-Bucket.result (Structure c.in_err-test-in-Bucket.field-0.0)
    (IsSearchFault nodes (forest nodes (bucket ∷ spots)) (IsClaimed c.args.table.now))
    (found_step nodes (IsClaimed c.args.table.now) bucket spots c.in_err-test-in-Bucket.field-0.0
    (sym c.in_err-test-in-Bucket.ensures)) c.from_residual-in_err-test-in-Bucket.ensures.1)

pub returns-in_ok-test-in-Bucket-clause-carried : goal.returns-in_ok-test-in-Bucket-clause-carried
returns-in_ok-test-in-Bucket-clause-carried c =
    rw c.in-Bucket.is
    (inline_carries (node_at c.args.file.now c.args.meta.now) c.in-Bucket.spot.host (shown_inner c.in-Bucket.spot.page)
    (spots_of c.args.pending.now.items) c.args.table.now (sym c.in_ok-test-in-Bucket.ensures))

pub returns-in_ok-push_kids-in-Page-clause-less : goal.returns-in_ok-push_kids-in-Page-clause-less
returns-in_ok-push_kids-in-Page-clause-less c = omega (arith, c.in_ok-node-in-Page.ensures.fewer, c.in_ok-push_kids-in-Page.ensures.few)

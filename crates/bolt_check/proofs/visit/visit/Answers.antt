use Rattle.bolt_lemmas.proofs.Exports.{passed_on}
use Rattle.bolt_check.proofs.{Spans.outside, Spans.not_both, Spans.still_unlisted, Words.IsClaimed, Words.late, Words.node_at, Words.page_spot}
use Rattle.bolt_check.proofs.{Words.PageTests, Words.shown_node, Lawful.early_passes}
use Rattle.bolt_check.proofs.{VisitLemmas.in_room, VisitLemmas.overflow_shown}
use Rattle.std.proofs.Common.{◌∙◌, sym, refl, arith}
use Rattle.bolt_check.specs.Findings.{twice}
use Rattle.bolt_check.proofs.visit.visit.Goals as goal

pub returns-in-Some-clause-found : goal.returns-in-Some-clause-found
returns-in-Some-clause-found c =
    let node = c.in_ok-node.node in
    let last = c.overflow.ensures ∙ overflow_shown node in
    let (from, to, was, lowest) = c.in-Some.ensures.lowest in
    rw c.of_page-in-Some.ensures
    (twice (shown_node node)
    (early_passes (node_at c.args.file.now c.args.meta.now) (page_spot c.args.spot.now) (shown_node node)
    (omega (arith, c.from.ensures, c.if-from-gt-MAX_DEPTH.false)) c.in_ok-node.ensures.node) c.in_ok-node.ensures.node
    (record { in_span = (from, omega (arith, to, last)); was = was; lowest = λ k span lt h. not_both c.args.table.now k (lowest k span.0 lt) h }) refl)

pub returns-in_err-test_node-clause-found : goal.returns-in_err-test_node-clause-found
returns-in_err-test_node-clause-found c =
    let node = c.in_ok-node.node in
    let last = c.overflow.ensures ∙ overflow_shown node in
    passed_on c.from_residual-in_err-test_node.result c.in_err-test_node.field-0.0
    (PageTests (node_at c.args.file.now c.args.meta.now) (IsClaimed c.args.table.now) (page_spot c.args.spot.now))
    (late (shown_node node)
    (early_passes (node_at c.args.file.now c.args.meta.now) (page_spot c.args.spot.now) (shown_node node)
    (omega (arith, c.from.ensures, c.if-from-gt-MAX_DEPTH.false)) c.in_ok-node.ensures.node) c.in_ok-node.ensures.node
    (λ n span h. not_both c.args.table.now n (c.in_default.ensures.none n span.0 (let to = span.1 in omega (arith, to, last))) h)
    (sym c.in_err-test_node.ensures)) c.from_residual-in_err-test_node.ensures.1

pub returns-clause-passes : goal.returns-clause-passes
returns-clause-passes c = grind (arith, early_passes, overflow_shown)

pub returns-clause-claims : goal.returns-clause-claims
returns-clause-claims c = grind (arith, overflow_shown)

pub first_claimed-requires-clause-within : goal.first_claimed-requires-clause-within
first_claimed-requires-clause-within c = let room = in_room _ _ _ _ _ c.in_ok-node.ensures.within c.requires in omega (arith, room, c.overflow.ensures)

pub claim-requires-clause-within : goal.claim-requires-clause-within
claim-requires-clause-within c = let room = in_room _ _ _ _ _ c.in_ok-node.ensures.within c.requires in omega (arith, room, c.overflow.ensures)

pub returns-clause-outside : goal.returns-clause-outside
returns-clause-outside c = grind (arith, outside, not_both)

pub returns-clause-unlisted : goal.returns-clause-unlisted
returns-clause-unlisted c = still_unlisted c.args.table.now c.claim.new.table _ _ c.claim.ensures.below c.claim.ensures.above c.claim.ensures.unlisted

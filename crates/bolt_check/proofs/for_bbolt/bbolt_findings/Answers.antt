use Rattle.std.proofs.Common.{◌≡◌, ◌++◌, [], append-nil, append_assoc, arith, inl, refl}
use Rattle.std.proofs.Math.Logic.{∥∥₁_prop}
use Rattle.bolt_lemmas.proofs.Exports.{none_left}
use Rattle.bolt_check.proofs.Words.{At_page, bytes_of, meta_of, Node, node_at, PageSpot, props, spot_at, ∥∥₁_elim, ∥∥₁_map}
use Rattle.bolt_check.proofs.{CheckedLemmas.checked_trees, TourSums.enough_node}
use Rattle.bolt_check.proofs.UnreadSteps.{first_reached, first_readable, node_of_page, step_left, step_reached, unread_pop}
use Rattle.bolt_check.proofs.UnreadWays.{all_found, none_along, root_along, spots_in, unread_along}
use Rattle.bolt_check.specs.Private.Unread.{own_findings, unread_view, unread_of}
use Rattle.bolt_check.proofs.for_bbolt.bbolt_findings.Goals as goal

pub loop-next-init : goal.loop-next-init
loop-next-init c =
    let checked = c.args.checked in
    let is = rw c.meta.ensures at c.in_ok-unread.ensures in
    record {
      stands = ∥∥₁_map (checked_trees checked) (λ trees. rw is (first_reached (bytes_of checked) (meta_of checked) trees));
      carried =
          λ found along. rw c.new-findings.ensures.items (root_along (node_at (bytes_of checked) (meta_of checked)) (meta_of checked).root _ is found along);
    }

pub read-requires : goal.read-requires
read-requires c =
    let checked = c.args.checked in
    let popped = unread_pop c.loop-next.unread.items c.pop.new.self.items c.in-Some.next c.in-Some.ensures.items in
    let stands = rw popped at c.loop-next.invariant.stands in
    ∥∥₁_elim (checked_trees checked) ∥∥₁_prop (λ trees. ∥∥₁_map stands (λ reached.
    first_readable (node_at (bytes_of checked) (meta_of checked)) (meta_of checked).root (meta_of checked).high_water (λ way s led. (trees.good way s led).0)
    (spot_at c.in-Some.next.spot) (spots_in (unread_of c.pop.new.self.items)) reached))

pub loop-next-preserved : goal.loop-next-preserved
loop-next-preserved c =
    let checked = c.args.checked in
    let nodes = node_at (bytes_of checked) (meta_of checked) in
    let u = unread_view c.in-Some.next in
    let rest = unread_of c.pop.new.self.items in
    let after = unread_of c.read.new.unread.items in
    let popped = unread_pop c.loop-next.unread.items c.pop.new.self.items c.in-Some.next c.in-Some.ensures.items in
    let stands = rw popped at c.loop-next.invariant.stands in
    let good : (s : PageSpot) → u.spot ≡ At_page s → (node : Node) × (nodes s.number ≡ _) =
    λ s is. node_of_page (nodes s.number)
    (∥∥₁_map stands (λ reached. enough_node nodes (meta_of checked).high_water s.number ((rw is at reached).good s.number (inl refl)))) in
    record {
      stands = ∥∥₁_map stands (step_reached nodes (meta_of checked).root (meta_of checked).high_water u rest after c.in_ok-read.ensures.kids);
      carried = λ found along.
          rw (c.in_ok-read.ensures.found, append_assoc)
          ((rw popped at c.loop-next.invariant.carried) (own_findings nodes u ++ found)
          (unread_along nodes u rest after good c.in_ok-read.ensures.kids found along));
    }

pub loop-next-smaller : goal.loop-next-smaller
loop-next-smaller c =
    let checked = c.args.checked in
    let nodes = node_at (bytes_of checked) (meta_of checked) in
    let u = unread_view c.in-Some.next in
    let rest = unread_of c.pop.new.self.items in
    let after = unread_of c.read.new.unread.items in
    let popped = unread_pop c.loop-next.unread.items c.pop.new.self.items c.in-Some.next c.in-Some.ensures.items in
    let stands = rw popped at c.loop-next.invariant.stands in
    let few = c.in_ok-read.ensures.few in
    let length = c.in-Some.ensures.len in
    rw popped (∥∥₁_elim stands (Prim.hlevel props) (λ reached.
    let left = step_left nodes (meta_of checked).root (meta_of checked).high_water u rest after c.in_ok-read.ensures.kids reached in
    omega (arith, few, left, length)))

pub returns : goal.returns
returns c =
    let checked = c.args.checked in
    let nodes = node_at (bytes_of checked) (meta_of checked) in
    let none = none_left c.loop-next.unread.items c.pop.new.self.items _ c.in_default.ensures.cases.0 c.in_default.ensures.rest c.in_default.ensures.items in
    let whole = (rw none at c.loop-next.invariant.carried) [] (none_along nodes) in
    ∣ all_found nodes (meta_of checked).root c.loop-next.findings.items (rw append-nil at whole) ∣₁

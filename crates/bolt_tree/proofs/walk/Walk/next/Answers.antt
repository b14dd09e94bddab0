use Rattle.std.proofs.Common.{arith, ◌∙◌, List, ◌∷◌, sym, ap}
use Rattle.bolt_tree.proofs.Words.{Item, Member, Path, item_view, open_path, reported_path, rest_after, walk_checked, walk_path, ∥∥₁_elim, ∥∥₁_map}
use Rattle.bolt_tree.proofs.Words.{∥∥₁_prop}
use Rattle.bolt_tree.proofs.{Climbing.listed_in, Climbing.none_beyond, Walking.ahead_in, Walking.ahead_prop}
use Rattle.bolt_tree.specs.Walks.{left_of}
use Rattle.bolt_tree.proofs.walk.Walk.next.Goals as goal

pub advance-requires-clause-placed : goal.advance-requires-clause-placed
advance-requires-clause-placed c = ∥∥₁_elim c.args.self.now.placed ∥∥₁_prop (λ p. p.0)

pub advance-requires-clause-ahead : goal.advance-requires-clause-ahead
advance-requires-clause-ahead c = ∥∥₁_elim c.args.self.now.placed (ahead_prop c.args.self.now.buckets c.args.self.now.ahead) (λ p. p.1)

pub invariant_of-self : goal.invariant_of-self
invariant_of-self c = record {
  placed = ∥∥₁_map c.args.self.now.placed (λ p. (
    c.in_err-leaf.ensures.placed,
    ahead_in c.args.self.now.buckets c.advance.new.self c.args.self.now.ahead c.in_err-leaf.ensures.checked c.in_err-leaf.ensures.same p.1,
  ));
}

pub returns-in-Some-clause-given : goal.returns-in-Some-clause-given
unfolding left_of walk_checked walk_path
returns-in-Some-clause-given c = λ listing lists.
    let came = rw c.in-Some.is at c.in_ok-leaf.ensures.left in
    let first = came listing lists in
    let then =
    c.after-self.ensures.left listing (listed_in c.advance.new.self.checked c.args.self.now.buckets.checked listing c.in_ok-leaf.ensures.checked lists) in
    first
    ∙ ap (λ (i : Item). (open_path c.advance.new.self, i) ∷ rest_after (open_path c.advance.new.self) listing) (sym c.of.ensures)
    ∙ ap (λ (p : Path). (p, item_view c.of.result) ∷ rest_after (open_path c.advance.new.self) listing) (sym c.after-self.ensures.reported)
    ∙ ap (λ (ms : List Member). (reported_path c.after-self.result (open_path c.advance.new.self), item_view c.of.result) ∷ ms) (sym then)

pub returns-in-None-clause-given : goal.returns-in-None-clause-given
unfolding left_of walk_checked walk_path
returns-in-None-clause-given c = grind (arith, none_beyond)

use Rattle.std.proofs.Common.{rules, ◌∙◌, ℕ, List, ap}
use Rattle.std.proofs.lemmas.List.{take_rest}
use Rattle.bolt_format.specs.{Elements.leaf_elements, Gaps.inline_gap, Gaps.leaf_gap, Gaps.shown_gap, Headers.count_field, TreePages.leaves_on}
use Rattle.bolt_format.proofs.GoodPages.{flat_elements, flat_leaves, good_elements}
use Rattle.bolt_format.proofs.open_bucket.inline.Goals as goal

pub invariant_of-result : goal.invariant_of-result
invariant_of-result c = search (rules, flat_leaves, good_elements, flat_elements)

pub returns-clause-elements : goal.returns-clause-elements
unfolding leaves_on
returns-clause-elements c =
    ap (leaf_elements _) c.read-header.ensures.count ∙ ap (λ (bytes : List ℕ). leaf_elements bytes (count_field bytes)) (take_rest c.args.value.now 16)

pub returns-clause-gap : goal.returns-clause-gap
unfolding inline_gap shown_gap
returns-clause-gap c = ap (leaf_gap _) c.read-header.ensures.count ∙ ap (λ (bytes : List ℕ). leaf_gap bytes (count_field bytes)) (take_rest c.args.value.now 16)

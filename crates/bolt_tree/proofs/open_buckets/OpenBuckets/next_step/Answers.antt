use Rattle.std.proofs.Common.{rules, ◌∙◌, sym}
use Rattle.bolt_tree.proofs.{Words.cursors_of, Words.leaf_view, Words.path_of, Climbing.listed_in, Climbing.none_beyond, Entering.itself}
use Rattle.bolt_tree.proofs.open_buckets.OpenBuckets.next_step.Goals as goal

pub returns-in-Some-clause-left : goal.returns-in-Some-clause-left
returns-in-Some-clause-left c = λ listing lists.
    let after = c.advance.new.self in
    let on = rw c.in-Some.is at c.in_ok-leaf.ensures.on in
    let came = rw c.in-Some.is at c.in_ok-leaf.ensures.left in
    itself after.checked (cursors_of after) (path_of after.path.items) (leaf_view c.in-Some.leaf) c.in_ok-leaf.ensures.placed on.1 listing
    (listed_in after.checked c.args.self.now.checked listing c.in_ok-leaf.ensures.checked lists)
    ∙ sym (came listing lists)

pub returns-in-None-clause-left : goal.returns-in-None-clause-left
returns-in-None-clause-left c = search (rules, none_beyond)

use Rattle.bolt_check.proofs.leaf_depth.+first_leaf_depth.Given as goal

-- one branch less is left
abbrev pub decreases-first_leaf_depth : goal.decreases-first_leaf_depth
decreases-first_leaf_depth l = l.branches

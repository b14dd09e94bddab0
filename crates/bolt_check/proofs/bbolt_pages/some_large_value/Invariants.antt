use Rattle.std.proofs.Common.{◌≡◌, map}
use Rattle.std.specs.List.{list_any}
use Rattle.bolt_format.specs.{ElementsLeft.leaves_left, TreePages.leaves_on}
use Rattle.bolt_check.proofs.Words.{leaf_entry}
use Rattle.bolt_check.specs.BboltFindings.{is_large_value}
use Rattle.bolt_check.proofs.bbolt_pages.some_large_value.Given as goal

-- the elements that are left decide
abbrev pub invariant-loop-element : goal.invariant-loop-element
invariant-loop-element l =
    list_any is_large_value (map leaf_entry (leaves_left l.element-iterator)) ≡ list_any is_large_value (map leaf_entry (leaves_on l.leaf))

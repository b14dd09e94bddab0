use Rattle.std.proofs.Common.{◌≡◌, ℕ, ◌-◌, ◌*◌, ◌<◌, ◌≤◌, Some, true, false, length, slice_get}
use Rattle.bolt_format.specs.TreePages.{page_keys}
use Rattle.bolt_tree.proofs.Words.{Key, doubled, stands_before}
use Rattle.bolt_tree.proofs.key_search.keys_before.Given as goal

abbrev pub invariant-loop-from : goal.invariant-loop-from
invariant-loop-from l = record {
  order : l.from ≤ l.to;
  within : l.to ≤ length (page_keys l.page);
  below : (k : ℕ) (key : Key) → k < l.from → slice_get (page_keys l.page) k ≡ Some key → stands_before l.or_equal key l.sought ≡ true;
  above : (k : ℕ) (key : Key) → l.to ≤ k → slice_get (page_keys l.page) k ≡ Some key → stands_before l.or_equal key l.sought ≡ false;
  few : (l.to - l.from) * doubled l.compared ≤ 65535;
  most : l.compared ≤ 16;
}

abbrev pub decreases-loop-from : goal.decreases-loop-from
decreases-loop-from l = l.to - l.from

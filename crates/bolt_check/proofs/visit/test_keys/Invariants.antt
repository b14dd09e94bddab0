use Rattle.std.proofs.Common.{◌≡◌, None, drop}
use Rattle.bolt_check.proofs.Words.{bound_of, keys_order_fault}
use Rattle.bolt_format.specs.TreePages.{page_keys}
use Rattle.bolt_check.proofs.visit.test_keys.Given as goal

-- the first fault from here on is that of all keys
abbrev pub invariant-loop-i : goal.invariant-loop-i
invariant-loop-i l =
    let keys = page_keys l.node in
    keys_order_fault (bound_of l.before) (bound_of l.from) (bound_of l.upper) (drop l.i keys) ≡ keys_order_fault None (bound_of l.lower) (bound_of l.upper) keys

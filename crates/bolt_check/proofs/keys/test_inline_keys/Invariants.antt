use Rattle.std.proofs.Common.{◌≡◌, None, drop}
use Rattle.bolt_check.proofs.Words.{bound_of, inline_keys, keys_order_fault}
use Rattle.bolt_check.proofs.keys.test_inline_keys.Given as goal

-- the first fault from here on is that of all keys
abbrev pub invariant-loop-i : goal.invariant-loop-i
invariant-loop-i l =
    let keys = inline_keys l.page in
    keys_order_fault (bound_of l.before) None None (drop l.i keys) ≡ keys_order_fault None None None keys

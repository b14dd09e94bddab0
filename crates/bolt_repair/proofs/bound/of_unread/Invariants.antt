use Rattle.std.proofs.Common.{◌≡◌, drop, map}
use Rattle.bolt_repair.specs.Bounds.{bound_of_unread, greater}
use Rattle.bolt_etcd.specs.Wire.UnreadEntries.{shown_unread}
use Rattle.bolt_repair.proofs.bound.of_unread.Given as goal

-- the greatest so far and that of the others are that of all
abbrev pub invariant-rest : goal.invariant-rest
invariant-rest l = greater l.bound (bound_of_unread (map shown_unread (drop l.other-index l.unread))) ≡ bound_of_unread (map shown_unread l.unread)

use Rattle.bolt_etcd.specs.{Wire.UnreadEntries.unread_entry_of, Store.RevisionsLeft.number_ahead, Store.RevisionsLeft.pass_unread}
use Rattle.std.proofs.Common.{◌≡◌}
use Rattle.bolt_etcd.proofs.PassSteps.{GoesBy}
use Rattle.bolt_etcd.proofs.store.revisions.Revisions.next_unread.Given as goal

abbrev pub invariant-rest : goal.invariant-rest
invariant-rest l = record {
  goes : GoesBy unread_entry_of l.fn.self l.self;
  unread : pass_unread l.self ≡ pass_unread l.fn.self;
}

abbrev pub decreases-rest : goal.decreases-rest
decreases-rest l = number_ahead l.self

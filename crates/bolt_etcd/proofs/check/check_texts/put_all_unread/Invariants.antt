use Rattle.std.proofs.Common.{◌≡◌, map}
use Rattle.bolt_etcd.specs.{Check.CheckLines.unread_entry_line, Wire.UnreadEntries.unread_entries, Store.RevisionsLeft.ForPass, Store.RevisionsLeft.ahead_of}
use Rattle.bolt_etcd.specs.{Store.RevisionsLeft.number_ahead, Store.RevisionsLeft.pass_checked, Store.RevisionsLeft.pass_start}
use Rattle.bolt_etcd.proofs.ListedTexts.{Listed}
use Rattle.bolt_etcd.proofs.check.check_texts.put_all_unread.Given as goal

-- the lines of those that are ahead are still to be written, and the others were counted
abbrev pub invariant-rest : goal.invariant-rest
invariant-rest g l = record {
  checked : pass_checked l.pass ≡ pass_checked l.fn.pass;
  start : pass_start l.pass ≡ pass_start l.fn.pass;
  listed : ForPass l.fn.pass
      (λ entries.
      Listed g.S.Sink l.initial.sink l.sink (map unread_entry_line (unread_entries (ahead_of l.fn.pass entries)))
      (map unread_entry_line (unread_entries (ahead_of l.pass entries))) l.number);
}

abbrev pub decreases-rest : goal.decreases-rest
decreases-rest g l = number_ahead l.pass

use Rattle.std.proofs.Common.{◌≡◌, flat_map}
use Rattle.bolt_format.proofs.Exports.{WroteFront}
use Rattle.bolt_report.specs.{RevisionLines.prefix_line}
use Rattle.bolt_etcd.specs.{Store.Stores.revisions}
use Rattle.bolt_etcd.specs.Store.RevisionsLeft.{CountsUnread, ForPass, ahead_of, number_ahead, pass_checked, pass_unread, pass_start}
use Rattle.bolt_report.proofs.revision_lines.RevisionWriter.put_pass.Given as goal

-- the lines of those that are ahead are still to be written
abbrev pub invariant-rest : goal.invariant-rest
invariant-rest g l = record {
  form : l.self.items.form ≡ l.fn.self.items.form;
  values : l.self.values ≡ l.fn.self.values;
  checked : pass_checked l.pass ≡ pass_checked l.fn.pass;
  start : pass_start l.pass ≡ pass_start l.fn.pass;
  counts : ForPass l.fn.pass (λ entries. CountsUnread (ahead_of l.fn.pass entries) (ahead_of l.pass entries) (pass_unread l.fn.pass) (pass_unread l.pass));
  put : ForPass l.fn.pass
      (λ entries.
      WroteFront g.S.Sink l.initial.sink l.sink (flat_map (prefix_line l.prefix l.fn.self.items.form l.fn.self.values) (revisions (ahead_of l.fn.pass entries)))
      (flat_map (prefix_line l.prefix l.fn.self.items.form l.fn.self.values) (revisions (ahead_of l.pass entries))));
}

abbrev pub decreases-rest : goal.decreases-rest
decreases-rest g l = number_ahead l.pass

use Rattle.std.proofs.Common.{◌≡◌, List, ap, length, map, sym}
use Rattle.std.proofs.lemmas.Result.{IfOk-weaker}
use Rattle.std.specs.List.{concat}
use Rattle.bolt_check.specs.Counts.{counted}
use Rattle.bolt_format.proofs.Exports.{Wrote-none, Wrote-same}
use Rattle.bolt_etcd.specs.{Check.CheckLines.unread_entry_line, Wire.UnreadEntries.UnreadView, Wire.UnreadEntries.unread_entries, Store.RevisionsLeft.ahead_of}
use Rattle.bolt_etcd.proofs.{UnreadCounts.none_unread, RevisionSteps.over_all}
use Rattle.bolt_etcd.proofs.check.store_faults.put_counted_unread.Goals as goal

pub returns-in-0-clause-written : goal.returns-in-0-clause-written
returns-in-0-clause-written g c = λ entries are counts.
    Wrote-same (ap (λ (os : List UnreadView). concat (map unread_entry_line os)) (sym (none_unread entries c.args.number c.in-0.is counts))) (Wrote-none c.args.sink.now)

pub returns-in-0-clause-number : goal.returns-in-0-clause-number
returns-in-0-clause-number g c = λ entries are counts.
    ap (λ (os : List UnreadView). counted 0 (length (map unread_entry_line os))) (sym (none_unread entries c.args.number c.in-0.is counts))

pub returns-in_default-clause-number : goal.returns-in_default-clause-number
returns-in_default-clause-number g c = IfOk-weaker c.put_all_unread.result _ _
    (λ n counts entries are number.
    over_all c.args.keys.now _ _ (ahead_of c.of.result) (λ es. es) (λ es. n ≡ counted 0 (length (map unread_entry_line (unread_entries es))))
    c.of.ensures.checked c.of.ensures.start c.of.ensures.all counts entries are) c.put_all_unread.ensures.number

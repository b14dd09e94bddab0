use Rattle.std.proofs.Common.{rules, List, ap, flat_map}
use Rattle.bolt_format.proofs.Exports.{front_more, front_whole, Wrote-same}
use Rattle.bolt_text.proofs.Exports.{front_fault}
use Rattle.bolt_report.specs.{RevisionLines.prefix_line}
use Rattle.bolt_etcd.specs.{Wire.Revisions.RevisionView, Wire.ShownRevisions.shown_revision, Store.Stores.revisions}
use Rattle.bolt_etcd.specs.Store.RevisionsLeft.{GivesFirst, ahead_of}
use Rattle.std.specs.Option.{option_map}
use Rattle.bolt_etcd.proofs.Exports.{moved_to}
use Rattle.bolt_report.proofs.{RevisionTexts.named_lines, RevisionTexts.same_line}
use Rattle.bolt_report.proofs.revision_lines.RevisionWriter.put_pass.Goals as goal

pub rest-preserved : goal.rest-preserved
rest-preserved g c = search (rules, moved_to, front_more, same_line)

pub returns-in_err-put_named-clause-written : goal.returns-in_err-put_named-clause-written
returns-in_err-put_named-clause-written g c = λ entries are.
    let line = prefix_line c.args.prefix.now c.args.self.now.items.form c.args.self.now.values in
    let given =
    moved_to _ _ _ _ (λ entries. GivesFirst (ahead_of c.rest.pass entries) (ahead_of c.next.new.self entries) (option_map shown_revision c.next.result))
    c.rest.invariant.checked c.rest.invariant.start c.next.ensures.given in
    Wrote-same (named_lines _ _ _ (revisions (ahead_of c.args.pass entries)))
    (front_fault (flat_map line (revisions (ahead_of c.next.new.self entries))) _ _ (c.rest.invariant.put entries are)
    (Wrote-same (same_line c.args.prefix.now _ _ _ _ (shown_revision c.in-Some.revision) c.rest.invariant.form c.rest.invariant.values)
    c.in_err-put_named.ensures.written)
    (ap (λ (rs : List RevisionView). flat_map line rs) (rw c.in-Some.is at (given entries are)))
    c.from_residual.ensures.1)

pub returns-clause-written : goal.returns-clause-written
returns-clause-written g c = search (rules, moved_to, named_lines, front_whole)

use Rattle.std.proofs.Common.{rules, ◌∙◌, ◌+◌, drop, flat_map, map}
use Rattle.std.proofs.lemmas.List.{drop_all}
use Rattle.bolt_lemmas.proofs.Exports.{flat_at}
use Rattle.bolt_format.proofs.Exports.{front_more, front_whole, Wrote-same}
use Rattle.bolt_text.proofs.Exports.{front_fault}
use Rattle.bolt_report.specs.{RevisionLines.prefix_line}
use Rattle.bolt_etcd.specs.{Wire.ShownRevisions.shown_revision}
use Rattle.bolt_report.proofs.RevisionTexts.{named_lines, same_line}
use Rattle.bolt_report.proofs.revision_lines.RevisionWriter.put_all.Goals as goal

pub returns-in_err-put_named-clause-written : goal.returns-in_err-put_named-clause-written
returns-in_err-put_named-clause-written g c =
    let line = prefix_line c.args.prefix.now c.args.self.now.items.form c.args.self.now.values in
    Wrote-same (named_lines _ _ _ (map shown_revision c.args.revisions.now))
    (front_fault (flat_map line (map shown_revision (drop (c.rest.revision-index + 1) c.args.revisions.now))) _ _ c.rest.invariant.put
    (Wrote-same (same_line c.args.prefix.now _ _ _ _ (shown_revision c.revision-item.result) c.rest.invariant.form c.rest.invariant.values)
    c.in_err-put_named.ensures.written)
    (flat_at line shown_revision c.args.revisions.now c.rest.revision-index c.revision-item.result c.rest-test.true c.revision-item.is)
    c.from_residual.ensures.1)

pub rest-preserved : goal.rest-preserved
rest-preserved g c = record {
  form = c.put_named.ensures.form ∙ c.rest.invariant.form;
  values = c.put_named.ensures.values ∙ c.rest.invariant.values;
  put = front_more c.rest.invariant.put
      (Wrote-same (same_line c.args.prefix.now _ _ _ _ (shown_revision c.revision-item.result) c.rest.invariant.form c.rest.invariant.values)
      c.in_ok-put_named.ensures.written)
      (flat_at (prefix_line c.args.prefix.now c.args.self.now.items.form c.args.self.now.values) shown_revision c.args.revisions.now c.rest.revision-index
      c.revision-item.result c.rest-test.true c.revision-item.is);
}

pub returns-clause-written : goal.returns-clause-written
returns-clause-written g c = search (rules, named_lines, front_whole, drop_all)

use Rattle.std.proofs.Common.{◌∙◌, List, None, ap, filter, sym}
use Rattle.std.specs.{List.last_or, Option.option_map}
use Rattle.bolt_lemmas.proofs.Exports.{filter_both, skips, takes_last}
use Rattle.bolt_etcd.specs.{Store.Newest.is_named, Store.Newest.is_of, Store.Newest.is_until, Store.Newest.newest, Wire.Revisions.RevisionView}
use Rattle.bolt_etcd.specs.{Store.RevisionsLeft.ahead_of, Wire.ShownRevisions.shown_revision, Store.Stores.revisions}
use Rattle.bolt_etcd.proofs.{RevisionLoops.counted_all, RevisionLoops.given_in, RevisionLoops.passed_more}
use Rattle.bolt_etcd.proofs.store.newest.Newest.find.Goals as goal

pub rest-preserved-then-is_of : goal.rest-preserved-then-is_of
rest-preserved-then-is_of c =
    let given = given_in c.args.bucket.now _ _ _ c.rest.invariant.passed c.next.ensures.given c.next.ensures.counts in
    record {
      passed =
          passed_more c.args.bucket.now _ _ _ c.rest.invariant.passed c.next.ensures.given c.next.ensures.counts c.next.ensures.checked c.next.ensures.start;
      last = λ entries are.
          takes_last (is_of c.args.name.now c.args.up_to) (option_map shown_revision c.rest.revision) _ (revisions (ahead_of c.rest.revisions entries)) _
          (shown_revision c.in-Some.next)
          (rw c.in-Some.is at (given entries are)) (c.rest.invariant.last entries are) (sym c.is_of.ensures ∙ c.if-is_of.true);
    }

pub rest-preserved : goal.rest-preserved
rest-preserved c =
    let given = given_in c.args.bucket.now _ _ _ c.rest.invariant.passed c.next.ensures.given c.next.ensures.counts in
    record {
      passed =
          passed_more c.args.bucket.now _ _ _ c.rest.invariant.passed c.next.ensures.given c.next.ensures.counts c.next.ensures.checked c.next.ensures.start;
      last = λ entries are.
          skips (is_of c.args.name.now c.args.up_to) (option_map shown_revision c.rest.revision) _ (revisions (ahead_of c.rest.revisions entries)) _
          (shown_revision c.in-Some.next)
          (rw c.in-Some.is at (given entries are)) (c.rest.invariant.last entries are) (sym c.is_of.ensures ∙ c.if-is_of.false);
    }

pub returns-clause-revision : goal.returns-clause-revision
unfolding newest
returns-clause-revision c = λ entries are.
    let given = given_in c.args.bucket.now _ _ _ c.rest.invariant.passed c.next.ensures.given c.next.ensures.counts in
    let (none, end) = rw c.in_default.is at (given entries are) in
    sym (ap (λ (rs : List RevisionView). last_or (option_map shown_revision c.rest.revision) (filter (is_of c.args.name.now c.args.up_to) rs)) none)
    ∙ c.rest.invariant.last entries are
    ∙ ap (last_or None) (sym (filter_both (is_named c.args.name.now) (is_until c.args.up_to) (revisions entries)))

pub returns-clause-unread : goal.returns-clause-unread
returns-clause-unread c =
    counted_all c.args.bucket.now _ _ _ c.rest.invariant.passed c.next.ensures.given c.next.ensures.counts c.unread.result
    (ap (option_map shown_revision) c.in_default.is)
    c.unread.ensures c.unread.type_inv

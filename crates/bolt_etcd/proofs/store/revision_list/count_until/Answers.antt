use Rattle.std.proofs.Common.{◌∙◌, List, ap, arith, length, sym}
use Rattle.bolt_lemmas.proofs.Exports.{drops, keeps}
use Rattle.bolt_check.specs.Counts.{counted}
use Rattle.bolt_tree.proofs.Exports.{counted_more}
use Rattle.bolt_etcd.specs.{Store.Newest.is_until, Store.Newest.until, Wire.Revisions.RevisionView, Store.RevisionsLeft.ahead_of}
use Rattle.bolt_etcd.specs.{Wire.ShownRevisions.shown_revision, Store.Stores.revisions}
use Rattle.bolt_etcd.proofs.{RevisionLoops.given_in, RevisionLoops.passed_more}
use Rattle.bolt_etcd.proofs.store.revision_list.count_until.Goals as goal

pub rest-preserved-then-is_until : goal.rest-preserved-then-is_until
rest-preserved-then-is_until c =
    let given = given_in c.args.bucket.now _ _ _ c.rest.invariant.passed c.next.ensures.given c.next.ensures.counts in
    record {
      passed =
          passed_more c.args.bucket.now _ _ _ c.rest.invariant.passed c.next.ensures.given c.next.ensures.counts c.next.ensures.checked c.next.ensures.start;
      fits = c.saturating_add-n.type_inv;
      all = λ entries are.
          let first =
          keeps (is_until c.args.up_to) _ _ (shown_revision c.in-Some.revision) (rw c.in-Some.is at (given entries are))
          (sym c.is_until.ensures ∙ c.if-is_until.true) in
          let one = ap length first in
          let left = until c.args.up_to (revisions (ahead_of c.next.new.self entries)) in
          ap (λ k. counted k (length left)) c.saturating_add-n.ensures ∙ counted_more c.rest.n 1 (length left) ∙ ap (counted c.rest.n) (omega (arith, one))
          ∙ c.rest.invariant.all entries are;
    }

pub rest-preserved : goal.rest-preserved
rest-preserved c =
    let given = given_in c.args.bucket.now _ _ _ c.rest.invariant.passed c.next.ensures.given c.next.ensures.counts in
    record {
      passed =
          passed_more c.args.bucket.now _ _ _ c.rest.invariant.passed c.next.ensures.given c.next.ensures.counts c.next.ensures.checked c.next.ensures.start;
      fits = c.rest.invariant.fits;
      all = λ entries are.
          let first =
          drops (is_until c.args.up_to) _ _ (shown_revision c.in-Some.revision) (rw c.in-Some.is at (given entries are))
          (sym c.is_until.ensures ∙ c.if-is_until.false) in
          ap (λ (rs : List RevisionView). counted c.rest.n (length rs)) (sym first) ∙ c.rest.invariant.all entries are;
    }

pub returns : goal.returns
returns c = λ entries are.
    let given = given_in c.args.bucket.now _ _ _ c.rest.invariant.passed c.next.ensures.given c.next.ensures.counts in
    let (none, end) = rw c.in_default.is at (given entries are) in
    let last = ap (λ (rs : List RevisionView). counted c.rest.n (length (until c.args.up_to rs))) none in
    let all = c.rest.invariant.all entries are in
    let fits = c.rest.invariant.fits in
    omega (arith, last, all, fits)

use Rattle.std.proofs.Common.{◌∙◌, ◌++◌, List, ap, map, sym}
use Rattle.std.proofs.lemmas.List.{append-nil}
use Rattle.std.specs.Option.{option_map}
use Rattle.bolt_lemmas.proofs.Exports.{drops, keeps, was_pushed}
use Rattle.bolt_etcd.specs.{Store.Newest.is_until, Store.Newest.until, Wire.Revisions.RevisionView, Store.RevisionsLeft.ahead_of}
use Rattle.bolt_etcd.specs.{Wire.ShownRevisions.shown_revision, Store.Stores.revisions}
use Rattle.bolt_etcd.proofs.{Currents.pushed, RevisionLoops.counted_all, RevisionLoops.given_in, RevisionLoops.passed_more}
use Rattle.bolt_etcd.proofs.store.revision_list.RevisionList.of.Goals.{else-is_until-via-else-is_until, else-is_until-via-then-is_until+else-is_err}
use Rattle.bolt_etcd.proofs.store.revision_list.RevisionList.of.Goals as goal

pub rest-preserved : goal.rest-preserved
rest-preserved c =
    let given = given_in c.args.bucket.now _ _ _ c.rest.invariant.passed c.next.ensures.given c.next.ensures.counts in
    record {
      passed =
          passed_more c.args.bucket.now _ _ _ c.rest.invariant.passed c.next.ensures.given c.next.ensures.counts c.next.ensures.checked c.next.ensures.start;
      all = λ entries are.
          let left = until c.args.up_to (revisions (ahead_of c.rest.revisions entries)) in
          let new = until c.args.up_to (revisions (ahead_of c.next.new.self entries)) in
          elim c.else-is_until.branch [
            | else-is_until-via-then-is_until+else-is_err w ↦
                let first =
                keeps (is_until c.args.up_to) _ _ (shown_revision c.in-Some.revision) (rw c.in-Some.is at (given entries are))
                (sym c.is_until.ensures ∙ w.if-is_until.true) in
                pushed c.rest.collected.items c.else-is_until.collected.items c.in-Some.revision left new _
                (ap (λ v. v.items) w.collected-is ∙ w.push.ensures.items ∙ was_pushed w.push.result _ _ (sym w.is_err.ensures.value ∙ w.if-is_err.false))
                first (c.rest.invariant.all entries are)
            | else-is_until-via-else-is_until w ↦
                let first =
                drops (is_until c.args.up_to) _ _ (shown_revision c.in-Some.revision) (rw c.in-Some.is at (given entries are))
                (sym c.is_until.ensures ∙ w.if-is_until.false) in
                ap (λ v. map shown_revision v.items ++ new) w.collected-is
                ∙ ap (λ (l : List RevisionView). map shown_revision c.rest.collected.items ++ l) (sym first)
                ∙ c.rest.invariant.all entries are
          ];
    }

pub returns-clause-revisions : goal.returns-clause-revisions
returns-clause-revisions c = λ entries are.
    let given = given_in c.args.bucket.now _ _ _ c.rest.invariant.passed c.next.ensures.given c.next.ensures.counts in
    let (none, end) = rw c.in_default.is at (given entries are) in
    sym (append-nil (map shown_revision c.rest.collected.items))
    ∙ ap (λ (rs : List RevisionView). map shown_revision c.rest.collected.items ++ until c.args.up_to rs) (sym none)
    ∙ c.rest.invariant.all entries are

pub returns-clause-unread : goal.returns-clause-unread
returns-clause-unread c =
    counted_all c.args.bucket.now _ _ _ c.rest.invariant.passed c.next.ensures.given c.next.ensures.counts c.unread.result
    (ap (option_map shown_revision) c.in_default.is)
    c.unread.ensures c.unread.type_inv

use Rattle.std.proofs.Common.{◌∙◌, ap, map}
use Rattle.bolt_etcd.specs.{Check.CheckLines.missing_line, Private.MissingLeft.GivesMissing, Private.MissingLeft.missing_left}
use Rattle.bolt_etcd.proofs.{ListedTexts.listed_fault, ListedTexts.listed_number, ListedTexts.listed_one, ListedTexts.listed_whole}
use Rattle.bolt_etcd.proofs.{RevisionSteps.moved_to}
use Rattle.bolt_etcd.proofs.check.check_texts.put_all_missing.Goals as goal

pub rest-preserved : goal.rest-preserved
rest-preserved g c =
    let given =
    moved_to _ _ _ _ (λ entries. GivesMissing (missing_left c.rest.pass entries) (missing_left c.next.new.self entries) c.next.result)
    c.rest.invariant.checked c.rest.invariant.start c.next.ensures.given in
    record {
      checked = c.next.ensures.checked ∙ c.rest.invariant.checked;
      start = c.next.ensures.start ∙ c.rest.invariant.start;
      listed = λ entries are.
          listed_one (c.rest.invariant.listed entries are) _ _ _ (ap (map missing_line) (rw c.in-Some.is at (given entries are)))
          c.in_ok-put_missing.ensures c.saturating_add-number.ensures;
    }

pub returns-in_err-put_missing-clause-written : goal.returns-in_err-put_missing-clause-written
returns-in_err-put_missing-clause-written g c = λ entries are.
    let given =
    moved_to _ _ _ _ (λ entries. GivesMissing (missing_left c.rest.pass entries) (missing_left c.next.new.self entries) c.next.result)
    c.rest.invariant.checked c.rest.invariant.start c.next.ensures.given in
    listed_fault (c.rest.invariant.listed entries are) _ _ _ (ap (map missing_line) (rw c.in-Some.is at (given entries are))) c.in_err-put_missing.ensures
    c.from_residual.ensures.0

pub returns-clause-written : goal.returns-clause-written
returns-clause-written g c = λ entries are.
    let given =
    moved_to _ _ _ _ (λ entries. GivesMissing (missing_left c.rest.pass entries) (missing_left c.next.new.self entries) c.next.result)
    c.rest.invariant.checked c.rest.invariant.start c.next.ensures.given in
    listed_whole (c.rest.invariant.listed entries are) (ap (map missing_line) (rw c.in_default.is at (given entries are)).0)

pub returns-clause-number : goal.returns-clause-number
returns-clause-number g c = λ entries are.
    let given =
    moved_to _ _ _ _ (λ entries. GivesMissing (missing_left c.rest.pass entries) (missing_left c.next.new.self entries) c.next.result)
    c.rest.invariant.checked c.rest.invariant.start c.next.ensures.given in
    listed_number (c.rest.invariant.listed entries are) (ap (map missing_line) (rw c.in_default.is at (given entries are)).0)

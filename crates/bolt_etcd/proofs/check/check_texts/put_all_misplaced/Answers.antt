use Rattle.std.proofs.Common.{◌∙◌, ℕ, List, ap, map, subst, sym}
use Rattle.bolt_lemmas.proofs.Exports.{drops, keeps}
use Rattle.bolt_etcd.specs.{Check.CheckLines.misplaced_line, Check.Misplaced.is_misplaced, Check.Misplaced.misplaced}
use Rattle.bolt_etcd.specs.{Wire.ShownRevisions.shown_revision}
use Rattle.bolt_etcd.proofs.ListedTexts.{Listed, listed_fault, listed_one, shown_at}
use Rattle.bolt_etcd.proofs.check.check_texts.put_all_misplaced.Goals.{else-is_misplaced, then-is_misplaced+in_ok-put_misplaced}
use Rattle.bolt_etcd.proofs.check.check_texts.put_all_misplaced.Goals as goal

pub rest-preserved : goal.rest-preserved
rest-preserved g c =
    let ahead = shown_at c.args.revisions.now c.rest.revision-index c.revision-item.result c.rest-test.true c.revision-item.is in
    elim c.if-is_misplaced.branch [
      | then-is_misplaced+in_ok-put_misplaced w ↦
          rw (w.sink-is, w.number-is) (listed_one c.rest.invariant _ _ _
          (ap (map misplaced_line)
          (keeps is_misplaced _ _ (shown_revision c.revision-item.result) ahead (sym c.is_misplaced.ensures ∙ w.if-is_misplaced.true)))
          w.in_ok-put_misplaced.ensures w.saturating_add-number.ensures)
      | else-is_misplaced w ↦
          rw (w.sink-is, w.number-is)
          (subst (λ (left : List (List ℕ)).
          Listed g.S.Sink c.args.sink.now c.rest.sink (map misplaced_line (misplaced (map shown_revision c.args.revisions.now))) left c.rest.number)
          (ap (map misplaced_line)
          (drops is_misplaced _ _ (shown_revision c.revision-item.result) ahead (sym c.is_misplaced.ensures ∙ w.if-is_misplaced.false))) c.rest.invariant)
    ]

pub returns-in_err-put_misplaced-clause-written : goal.returns-in_err-put_misplaced-clause-written
returns-in_err-put_misplaced-clause-written g c =
    let ahead = shown_at c.args.revisions.now c.rest.revision-index c.revision-item.result c.rest-test.true c.revision-item.is in
    listed_fault c.rest.invariant _ _ _
    (ap (map misplaced_line) (keeps is_misplaced _ _ (shown_revision c.revision-item.result) ahead (sym c.is_misplaced.ensures ∙ c.if-is_misplaced.true)))
    c.in_err-put_misplaced.ensures c.from_residual.ensures.0

use Rattle.std.proofs.Common.{◌∙◌, List, ap, length, map}
use Rattle.std.specs.List.{concat}
use Rattle.bolt_lemmas.proofs.Exports.{concat_three}
use Rattle.bolt_check.specs.Counts.{counted}
use Rattle.bolt_format.proofs.Exports.{Wrote-ends, Wrote-return, Wrote-same, Wrote-then, broken_by}
use Rattle.bolt_etcd.specs.{Check.CheckLines.misplaced_line, Check.CheckLines.missing_line, Check.CheckLines.unread_entry_line, Check.Misplaced.misplaced}
use Rattle.bolt_etcd.specs.{Wire.Numbered.numbered, Wire.UnreadEntries.unread_entries, Wire.Revisions.RevisionView}
use Rattle.bolt_etcd.specs.{Wire.ShownRevisions.shown_revision, Check.StoreFaults.missing_if, Store.Stores.revisions}
use Rattle.bolt_etcd.proofs.ListedTexts.{counted_three}
use Rattle.bolt_etcd.proofs.check.store_faults.put_entry_faults.Goals as goal

pub returns-in_err-unread-clause-written : goal.returns-in_err-unread-clause-written
returns-in_err-unread-clause-written g c = λ entries are found.
    Wrote-same (concat_three (map unread_entry_line (unread_entries entries)) (map misplaced_line (misplaced (revisions entries)))
    (map missing_line (missing_if c.args.compacted (numbered entries))))
    (Wrote-return _ _ (c.in_err-unread.ensures.written entries are found.1) c.from_residual.ensures.0)

pub returns-in_err-misplaced-clause-written : goal.returns-in_err-misplaced-clause-written
returns-in_err-misplaced-clause-written g c = λ entries are found.
    let same = ap (map shown_revision) c.deref.ensures.value ∙ found.0 in
    Wrote-same (concat_three (map unread_entry_line (unread_entries entries)) (map misplaced_line (misplaced (revisions entries)))
    (map missing_line (missing_if c.args.compacted (numbered entries))))
    (Wrote-then (c.in_ok-unread.ensures.written entries are found.1)
    (Wrote-return _ _ (Wrote-same (ap (λ (rs : List RevisionView). concat (map misplaced_line (misplaced rs))) same) c.in_err-misplaced.ensures.written)
    c.from_residual-in_err-misplaced.ensures.0))

pub returns-in_err-missing-clause-written : goal.returns-in_err-missing-clause-written
returns-in_err-missing-clause-written g c = λ entries are found.
    let same = ap (map shown_revision) c.deref.ensures.value ∙ found.0 in
    Wrote-same (concat_three (map unread_entry_line (unread_entries entries)) (map misplaced_line (misplaced (revisions entries)))
    (map missing_line (missing_if c.args.compacted (numbered entries))))
    (Wrote-then (c.in_ok-unread.ensures.written entries are found.1)
    (Wrote-then (Wrote-same (ap (λ (rs : List RevisionView). concat (map misplaced_line (misplaced rs))) same) c.in_ok-misplaced.ensures.written)
    (Wrote-ends (broken_by _ c.from_residual-in_err-missing.ensures.0)
    (c.in_err-missing.ensures.written entries are))))

pub returns-clause-written : goal.returns-clause-written
returns-clause-written g c = λ entries are found.
    let same = ap (map shown_revision) c.deref.ensures.value ∙ found.0 in
    Wrote-same (concat_three (map unread_entry_line (unread_entries entries)) (map misplaced_line (misplaced (revisions entries)))
    (map missing_line (missing_if c.args.compacted (numbered entries))))
    (Wrote-then (c.in_ok-unread.ensures.written entries are found.1)
    (Wrote-then (Wrote-same (ap (λ (rs : List RevisionView). concat (map misplaced_line (misplaced rs))) same) c.in_ok-misplaced.ensures.written)
    (c.in_ok-missing.ensures.written entries are)))

pub returns-clause-number : goal.returns-clause-number
returns-clause-number g c = λ entries are found.
    let same = ap (map shown_revision) c.deref.ensures.value ∙ found.0 in
    counted_three (map unread_entry_line (unread_entries entries)) (map misplaced_line (misplaced (revisions entries)))
    (map missing_line (missing_if c.args.compacted (numbered entries))) _ _ _ _ _
    (c.in_ok-unread.ensures.number entries are found.1)
    (c.in_ok-misplaced.ensures.number ∙ ap (λ (rs : List RevisionView). counted 0 (length (map misplaced_line (misplaced rs)))) same)
    (c.in_ok-missing.ensures.number entries are)
    c.saturating_add.ensures c.saturating_add-2.ensures

use Rattle.std.proofs.Common.{append_assoc, append-nil, eq-eqb, ne_eqb}
use Rattle.std.proofs.lemmas.Bool.{cond-false, cond-true}
use Rattle.bolt_report.proofs.Words.{Wrote-same}
use Rattle.bolt_report.specs.FaultWords.{pages_words}
use Rattle.bolt_report.proofs.fault_lines.put_of_pages.Goals as goal

pub returns-then-page-last : goal.returns-then-page-last
unfolding pages_words
returns-then-page-last g c = Wrote-same (rw (cond-true _ _ _ (eq-eqb _ _ c.if-page-last.true)) (simp (append_assoc, append-nil))) c.put_pieces.ensures

pub returns-else-page-last : goal.returns-else-page-last
unfolding pages_words
returns-else-page-last g c =
    Wrote-same (rw (cond-false _ _ _ (ne_eqb _ _ c.if-page-last.false)) (simp (append_assoc, append-nil))) c.put_pieces-else-page-last.ensures

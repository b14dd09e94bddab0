use Rattle.std.proofs.Common.{Bor, List, ℕ, ap}
use Rattle.bolt_report.proofs.Words.{loss_text, path_of, Wrote-return, Wrote-same, Wrote-then_return}
use Rattle.bolt_report.specs.LossLines.{bucket_words}
use Rattle.bolt_report.proofs.loss_lines.put_loss.Goals as goal

pub returns-in_err-put_sentence : goal.returns-in_err-put_sentence
unfolding loss_text
returns-in_err-put_sentence g c = Wrote-return _ _ c.in_err-put_sentence.ensures c.from_residual.ensures.0

pub returns-in_err-put_bucket_words : goal.returns-in_err-put_bucket_words
unfolding loss_text
returns-in_err-put_bucket_words g c =
    Wrote-then_return _ _ c.in_ok-put_sentence.ensures
    (Wrote-same (ap (λ (parts : List (Bor (List ℕ))). bucket_words (path_of parts)) c.as_slice.ensures.value) c.in_err-put_bucket_words.ensures)
    c.from_residual-in_err-put_bucket_words.ensures.0

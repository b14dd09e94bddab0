-- Digits of an accepted page size are read as it.
use Rattle.std.proofs.Common.{◌∙◌, ap, sym}
use Rattle.bolt_job.proofs.{Vocabulary.number_in, PageSizes.size_answered}
use Rattle.bolt_job.proofs.line.read_size.Goals as goal

pub returns : goal.returns
returns c =
    size_answered c.args.word.now c.in_ok-read_number.field-0 c.new.result (ap number_in (sym c.as_bytes.ensures.value) ∙ sym c.in_ok-read_number.ensures)
    c.new.ensures.same c.new.ensures.refused

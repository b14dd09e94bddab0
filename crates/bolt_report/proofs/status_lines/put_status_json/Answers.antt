use Rattle.bolt_report.proofs.{Words.Wrote-same, FigureTexts.status_object}
use Rattle.bolt_report.specs.StatusLines.{status_text}
use Rattle.bolt_report.proofs.status_lines.put_status_json.Goals as goal

pub returns : goal.returns
unfolding status_text
returns g c =
    Wrote-same (rw (c.number_or.ensures, c.number_or-2.ensures, c.number_or-3.ensures, c.hash_number.ensures) (status_object _ _ _ _ _ _ _ _))
    c.put_pieces.ensures

use Rattle.bolt_report.proofs.{Words.Wrote-same, FigureTexts.meta_object}
use Rattle.bolt_report.specs.MetaLines.{info_text}
use Rattle.bolt_report.proofs.metas.put_meta_json.Goals as goal

pub returns : goal.returns
unfolding info_text
returns g c =
    Wrote-same (rw (c.number_or.ensures, c.freelist_of.ensures, c.slot_number.ensures, c.from.ensures) (meta_object _ _ _ _ _ _ _)) c.put_pieces.ensures

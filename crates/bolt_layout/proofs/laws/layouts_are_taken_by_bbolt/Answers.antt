use Rattle.bolt_layout.proofs.{BboltMetas.layout_file_findings, Soundness.laid_out}
use Rattle.bolt_layout.proofs.laws.layouts_are_taken_by_bbolt.Goals as goal

pub returns : goal.returns
returns c which page_size tree sequence asked small =
    layout_file_findings which page_size tree sequence asked.size (laid_out which page_size tree sequence asked.size asked.storable asked.sequence_fits small)

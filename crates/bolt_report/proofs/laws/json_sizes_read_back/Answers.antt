use Rattle.bolt_text.proofs.Exports.{digits_read, items_read}
use Rattle.bolt_report.proofs.FigureDocuments.{size_back}
use Rattle.bolt_report.proofs.laws.json_sizes_read_back.Goals as goal

pub returns-clause-item : goal.returns-clause-item
returns-clause-item c = λ stats name fits h. size_back _ _ items_read stats name fits h

pub returns-clause-hex_item : goal.returns-clause-hex_item
returns-clause-hex_item c = λ stats name fits h. size_back _ _ digits_read stats name fits h

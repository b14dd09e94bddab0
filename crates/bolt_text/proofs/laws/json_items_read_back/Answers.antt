use Rattle.bolt_text.proofs.JsonLemmas.{digits_read, items_read, one_item}
use Rattle.bolt_text.proofs.laws.json_items_read_back.Goals as goal

pub returns-clause-item : goal.returns-clause-item
returns-clause-item c = λ bytes h. one_item _ _ items_read bytes h

pub returns-clause-hex_item : goal.returns-clause-hex_item
returns-clause-hex_item c = λ bytes h. one_item _ _ digits_read bytes h

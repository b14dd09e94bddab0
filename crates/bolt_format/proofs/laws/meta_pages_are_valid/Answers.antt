use Rattle.bolt_format.proofs.EncodedMetas.{meta_header_written, meta_written}
use Rattle.bolt_format.proofs.laws.meta_pages_are_valid.Goals as goal

pub returns-clause-valid : goal.returns-clause-valid
returns-clause-valid c = meta_written

pub returns-clause-header : goal.returns-clause-header
returns-clause-header c = meta_header_written

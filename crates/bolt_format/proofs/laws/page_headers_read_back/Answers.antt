use Rattle.bolt_format.proofs.EncodedHeaders.{header_written}
use Rattle.bolt_format.proofs.laws.page_headers_read_back.Goals as goal

pub returns : goal.returns
returns c = header_written

use Rattle.bolt_format.proofs.EncodedHeaders.{branch_header_written, leaf_header_written}
use Rattle.bolt_format.proofs.laws.element_headers_read_back.Goals as goal

pub returns : goal.returns
returns c = record { branch = branch_header_written; leaf = leaf_header_written }

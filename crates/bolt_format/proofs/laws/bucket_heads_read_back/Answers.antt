use Rattle.bolt_format.proofs.EncodedHeaders.{head_written}
use Rattle.bolt_format.proofs.laws.bucket_heads_read_back.Goals as goal

pub returns : goal.returns
returns c = head_written

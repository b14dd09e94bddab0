use Rattle.bolt_recover.proofs.Words.{joined_file}
use Rattle.bolt_recover.proofs.laws.the_file_of_joined_members_is_bytes.Goals as goal

pub returns : goal.returns
unfolding joined_file
returns c = c.args.joined.now.bytes

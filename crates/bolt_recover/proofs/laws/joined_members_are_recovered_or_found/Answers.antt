use Rattle.bolt_recover.proofs.JoinedContents.{joined_contents}
use Rattle.bolt_recover.proofs.laws.joined_members_are_recovered_or_found.Goals as goal

pub returns : goal.returns
returns c = joined_contents

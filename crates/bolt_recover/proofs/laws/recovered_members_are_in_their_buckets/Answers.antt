use Rattle.bolt_recover.proofs.MembersInBuckets.{path_holds}
use Rattle.bolt_recover.proofs.laws.recovered_members_are_in_their_buckets.Goals as goal

pub returns : goal.returns
returns c = path_holds

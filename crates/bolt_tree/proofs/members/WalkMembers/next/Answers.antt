use Rattle.bolt_tree.proofs.Measured.{walk_falls}
use Rattle.bolt_tree.proofs.members.WalkMembers.next.Goals as goal

-- the walk is over the same file
pub returns-clause-reads : goal.returns-clause-reads
returns-clause-reads c = λ listing. rw c.next.ensures.checked (λ h. h, λ h. h)

pub returns-clause-fewer : goal.returns-clause-fewer
returns-clause-fewer c = walk_falls c.args.self.now c.next.new.self c.next.result c.next.ensures.checked c.next.ensures.given

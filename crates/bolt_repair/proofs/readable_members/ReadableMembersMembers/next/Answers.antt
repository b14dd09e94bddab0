-- The first that is left is returned, and its path is kept if others may be passed over after it.
use Rattle.std.proofs.Common.{is_some, subst}
use Rattle.bolt_tree.specs.Paths.{Path}
use Rattle.bolt_recover.specs.RecoveredMembers.{recovered_left, recovered_path}
use Rattle.bolt_repair.specs.{NearPaths.IsNearPath, ReadableLeft.readable_left, ReadableLeft.readable_path}
use Rattle.bolt_repair.proofs.ReadingLemmas.{gives_one}
use Rattle.bolt_repair.proofs.readable_members.ReadableMembersMembers.next.Goals as goal

pub returns-clause-given : goal.returns-clause-given
unfolding readable_left readable_path
returns-clause-given c = λ whole reads.
    let given = rw c.is_some.ensures at c.in_ok-item.ensures.given whole reads in
    let now = c.next_readable.new.recovered in
    gives_one (is_some c.args.self.now.near) c.of-self.result (recovered_left c.args.self.now.recovered whole) (recovered_left now whole) (recovered_path now) _
    given (subst (λ (p : Path). IsNearPath p c.of-self.result) c.path.ensures c.of-self.ensures)

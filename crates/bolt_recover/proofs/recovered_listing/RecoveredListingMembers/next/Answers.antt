-- A recovery returns what is recovered, and so does the walk over sound trees.
use Rattle.std.proofs.Common.{◌≡◌}
use Rattle.bolt_tree.proofs.Exports.{walk_falls}
use Rattle.bolt_recover.proofs.{Words.IfOk-weaker, Words.left_of, Words.on_err_weaker, Words.props, Words.walk_checked, SoundWalks.gives_prop}
use Rattle.bolt_recover.proofs.{SoundWalks.walked}
use Rattle.bolt_recover.proofs.recovered_listing.RecoveredListingMembers.next.Goals as goal

pub returns-in-Sound-clause-given : goal.returns-in-Sound-clause-given
returns-in-Sound-clause-given c =
    let walk = c.next-in-Sound in
    rw c.in-Sound.is (IfOk-weaker walk.result _ _
    (λ given gives listing is. walked (walk_checked c.in-Sound.walk) listing is (gives_prop _ _ _ given) gives) walk.ensures.given)

pub returns-in-Sound-clause-fewer : goal.returns-in-Sound-clause-fewer
returns-in-Sound-clause-fewer c =
    rw c.in-Sound.is (walk_falls c.in-Sound.walk c.next-in-Sound.new.self c.next-in-Sound.result c.next-in-Sound.ensures.checked c.next-in-Sound.ensures.given)

pub returns-in-Sound-clause-same : goal.returns-in-Sound-clause-same
returns-in-Sound-clause-same c =
    let walk = c.next-in-Sound in
    rw c.in-Sound.is (on_err_weaker walk.result
    (λ same listing is.
    walked {P = λ listing. left_of walk.new.self listing ≡ left_of c.in-Sound.walk listing} (walk_checked c.in-Sound.walk) listing is (hlevel props) same)
    walk.ensures.same)

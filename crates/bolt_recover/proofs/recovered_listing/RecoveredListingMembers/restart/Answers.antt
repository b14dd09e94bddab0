-- Nothing is recovered if the root page is lost. What sound trees list is recovered.
use Rattle.std.proofs.Common.{◌≡◌, sym}
use Rattle.bolt_recover.proofs.{FoundAll.nothing_recovered, SoundWalks.walked, Words.left_of, Words.props, Words.walk_checked, Words.∥∥₁_elim}
use Rattle.bolt_recover.proofs.recovered_listing.RecoveredListingMembers.restart.Goals as goal

pub returns-in-Rootless-clause-all : goal.returns-in-Rootless-clause-all
returns-in-Rootless-clause-all c = rw c.in-Rootless.is (λ listing is.
    let root = c.in-Rootless.field-0 in
    ∥∥₁_elim root.lost (hlevel props) (λ (x, lost). sym (nothing_recovered root.file.now root.meta x lost listing is)))

pub returns-in-Sound-clause-all : goal.returns-in-Sound-clause-all
returns-in-Sound-clause-all c = rw c.in-Sound.is (λ listing is.
    walked {P = λ listing. left_of c.new.result listing ≡ listing} (walk_checked c.in-Sound.walk) listing is (hlevel props)
    (rw c.checked.ensures at c.new.ensures.all))

-- The members are those of the merge, which goes on over the same listings.
use Rattle.bolt_recover.proofs.{SoundWalks.gives_prop, Words.IfOk-weaker, Words.joined_left, Words.joined_path, Words.on_err_weaker, Words.props}
use Rattle.bolt_recover.proofs.{Words.∥∥₁_elim, Words.∥∥₁_map}
use Rattle.bolt_recover.proofs.joined_listing.JoinedListingMembers.next.Goals as goal

pub invariant_of-self-clause-reads : goal.invariant_of-self-clause-reads
invariant_of-self-clause-reads c = ∥∥₁_map c.args.self.now.reads (λ reads. (c.next.ensures.reads _).1 reads)

pub returns-clause-given : goal.returns-clause-given
unfolding joined_left joined_path
returns-clause-given c =
    IfOk-weaker c.next.result _ _ (λ given gives listing is. ∥∥₁_elim c.args.self.now.reads (gives_prop _ _ _ given) (λ reads. gives _ reads))
    c.next.ensures.given

pub returns-clause-same : goal.returns-clause-same
unfolding joined_left
returns-clause-same c =
    on_err_weaker c.next.result (λ same listing is. ∥∥₁_elim c.args.self.now.reads (hlevel props) (λ reads. same _ reads)) c.next.ensures.same

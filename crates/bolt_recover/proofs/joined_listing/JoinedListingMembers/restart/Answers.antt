-- Begun again, over the same pages.
use Rattle.std.proofs.Common.{◌∙◌}
use Rattle.bolt_recover.proofs.{Words.on_ok_weaker, Words.props, Words.∥∥₁_elim}
use Rattle.bolt_recover.proofs.{Words.∥∥₁_map, JoinedLemmas.merged_joined}
use Rattle.bolt_recover.specs.JoinedMembers.{joined_viewers}
use Rattle.bolt_recover.proofs.joined_listing.JoinedListingMembers.restart.Goals as goal

pub invariant_of-self-clause-reads : goal.invariant_of-self-clause-reads
invariant_of-self-clause-reads c = ∥∥₁_map c.args.self.now.reads (λ reads. (c.restart.ensures.reads _).1 reads)

pub returns-clause-all : goal.returns-clause-all
unfolding joined_viewers
returns-clause-all c =
    let self = c.args.self.now in
    on_ok_weaker c.restart.result
    (λ all listing is.
    ∥∥₁_elim self.pages (hlevel props)
    (λ are. ∥∥₁_elim self.reads (hlevel props) (λ reads. all _ reads ∙ merged_joined self.file.now self.meta self.found.now listing are is)))
    c.restart.ensures.all

-- The members are those of the merge, which goes on over the same listings.
use Rattle.std.proofs.{Math.Logic.∥∥₁_elim, Math.Logic.∥∥₁_map, Props.props, lemmas.Result.IfOk-weaker, lemmas.Result.on_err_weaker}
use Rattle.bolt_repair.specs.RepairedMembers.{repaired_left, repaired_path}
use Rattle.bolt_recover.proofs.Exports.{gives_prop}
use Rattle.bolt_repair.proofs.repaired_listing.RepairedListingMembers.next.Goals as goal

pub invariant_of-self : goal.invariant_of-self
invariant_of-self c = record { reads = ∥∥₁_map c.args.self.now.reads (λ reads. (c.next.ensures.reads _).1 reads) }

pub returns-clause-given : goal.returns-clause-given
unfolding repaired_left repaired_path
returns-clause-given c =
    IfOk-weaker c.next.result _ _ (λ given gives listing is. ∥∥₁_elim c.args.self.now.reads (gives_prop _ _ _ given) (λ reads. gives _ reads))
    c.next.ensures.given

pub returns-clause-same : goal.returns-clause-same
unfolding repaired_left
returns-clause-same c =
    on_err_weaker c.next.result (λ same listing is. ∥∥₁_elim c.args.self.now.reads (Prim.hlevel props) (λ reads. same _ reads)) c.next.ensures.same

-- Begun again, over the same listings.
use Rattle.std.proofs.Common.{◌∙◌, List, [], ap}
use Rattle.std.proofs.{Math.Logic.∥∥₁_elim, Math.Logic.∥∥₁_map, Props.props, lemmas.Result.on_ok_weaker}
use Rattle.bolt_tree.specs.{InBuckets.members_in, Listing.Member, Merges.merge}
use Rattle.bolt_repair.specs.{RepairedMerges.repair_back, RepairedMerges.repair_made, Repairs.meta_path, Repairs.store_path}
use Rattle.bolt_repair.specs.RepairedMembers.{repaired_viewers}
use Rattle.bolt_repair.proofs.{OneRepair.merged_repaired, RepairedListings.parents_of, StrippedLemmas.strip_listing}
use Rattle.bolt_repair.proofs.repaired_listing.RepairedListingMembers.restart.Goals as goal

pub invariant_of-self : goal.invariant_of-self
invariant_of-self c = record { reads = ∥∥₁_map c.args.self.now.reads (λ reads. (c.restart.ensures.reads _).1 reads) }

pub returns-clause-all : goal.returns-clause-all
unfolding repaired_viewers
returns-clause-all c =
    let self = c.args.self.now in
    let repair = self.repair.now in
    let file = repair.searched.now.file.now in
    let meta = repair.searched.now.meta in
    let recovered = c.the_recovered_listing_is_recovered.ensures file meta in
    let stripped = strip_listing _ recovered.rises (parents_of _ (c.recovered_listing_is_of_a_tree.ensures file meta _ recovered)) in
    on_ok_weaker c.restart.result (λ all listing is. ∥∥₁_elim self.reads (Prim.hlevel props) (λ reads. ∥∥₁_elim repair.goes_back (Prim.hlevel props) (λ back.
    all _ reads
    ∙ ap (λ (ms : List Member).
    merge (merge ms (members_in repair.is_made store_path (repair_back repair))) (members_in repair.makes_meta meta_path [])) stripped
    ∙ merged_repaired file meta repair.search (c.sought_pages_are_one.ensures file meta repair.search) _ recovered (repair_back repair) (repair_made repair)
    back listing is))) c.restart.ensures.all

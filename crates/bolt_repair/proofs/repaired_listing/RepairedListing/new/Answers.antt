-- What goes back is merged with the recovered members of the same file that etcd can read, and then the bucket `meta` if it is made.
use Rattle.std.proofs.Common.{◌∙◌, [], ap, ap₂, List, map, sym}
use Rattle.std.proofs.{Math.Logic.∥∥₁_elim, Props.props}
use Rattle.bolt_tree.specs.{InBuckets.members_in, Merges.merge}
use Rattle.bolt_recover.specs.TheRecovered.{the_recovered}
use Rattle.bolt_etcd.specs.{declared.wire.revision.Revision.Revision, Wire.ShownRevisions.entry_of}
use Rattle.bolt_repair.specs.{RepairedMerges.repair_back, RepairedMerges.repair_made, RepairedMembers.repaired_left, Repairs.meta_path}
use Rattle.bolt_repair.specs.{Repairs.store_path}
use Rattle.bolt_repair.proofs.{OneRepair.merged_repaired, RepairedListings.parents_of, StrippedLemmas.strip_listing}
use Rattle.bolt_repair.proofs.repaired_listing.RepairedListing.new.Goals as goal

pub invariant_of-result : goal.invariant_of-result
invariant_of-result c =
    let repair = c.args.repair.now in
    let readable = c.in_ok-readable.ensures in
    let same = ap (λ (entries : List Revision). members_in repair.is_made store_path (map entry_of entries)) c.as_slice.ensures.value in
    record {
      reads = ∣
          c.new-4.ensures.reads _ _
          (c.new-3.ensures.reads _ _
          (rw (readable.file, readable.meta) (c.the_recovered_listing_is_recovered.ensures repair.searched.now.file.now repair.searched.now.meta))
          (sym (c.in_ok-back.ensures.listing ∙ same)))
          (sym c.in_ok-meta.ensures.listing)
          ∣₁;
    }

pub returns-clause-all : goal.returns-clause-all
unfolding repaired_left
returns-clause-all c = λ listing is.
    let repair = c.args.repair.now in
    let file = repair.searched.now.file.now in
    let meta = repair.searched.now.meta in
    let recovered = c.the_recovered_listing_is_recovered.ensures file meta in
    let same = ap (λ (entries : List Revision). members_in repair.is_made store_path (map entry_of entries)) c.as_slice.ensures.value in
    let stripped = strip_listing _ recovered.rises (parents_of _ (c.recovered_listing_is_of_a_tree.ensures file meta _ recovered)) in
    ∥∥₁_elim repair.goes_back (Prim.hlevel props) (λ back.
    c.new-4.ensures.left (the_recovered file meta, members_in repair.is_made store_path (repair_back repair)) (members_in repair.makes_meta meta_path [])
    ∙ ap₂ merge
    (c.new-3.ensures.left (the_recovered file meta) (members_in repair.is_made store_path (repair_back repair))
    ∙ ap₂ merge (c.in_ok-readable.ensures.all _ recovered ∙ stripped) (c.in_ok-back.ensures.left ∙ c.in_ok-back.ensures.listing ∙ same))
    (c.in_ok-meta.ensures.left ∙ c.in_ok-meta.ensures.listing)
    ∙ merged_repaired file meta repair.search (c.sought_pages_are_one.ensures file meta repair.search) _ recovered (repair_back repair) (repair_made repair)
    back listing is)

-- The repaired listing rises, is what a tree lists, and fits.
use Rattle.std.proofs.Common.{◌≡◌, Bool, List, ℕ, refl, subst}
use Rattle.std.proofs.Math.Logic.{∥∥₁_map}
use Rattle.std.specs.List.{Contains}
use Rattle.bolt_lemmas.specs.Order.{Rises}
use Rattle.bolt_format.specs.{Bytes.IsBytes, declared.meta.Meta.Meta}
use Rattle.bolt_layout.specs.Storable.{IsFitListing}
use Rattle.bolt_tree.specs.{Listing.Member, Listing.member_cmp, Tree.Tree, Tree.listing_of}
use Rattle.bolt_repair.specs.{Repaired.IsRepaired, Repaired.repaired_listing}
use Rattle.bolt_repair.specs.{RepairedMerges.repair_back, RepairedMerges.repair_made}
use Rattle.bolt_commands.proofs.RepairedFits.{listing_fits}
use Rattle.bolt_repair.specs.RepairedMembers.{repaired_viewers}
use Rattle.bolt_commands.proofs.laws.repaired_members_are_whole.Goals as goal

fit : (file : List ℕ) (meta : Meta) (search : Bool) (listing : List Member) → IsBytes file → (is : IsRepaired file meta search listing)
    → Rises member_cmp listing → (tree : Tree) × (listing ≡ listing_of tree) → IsFitListing listing
fit file meta search listing bytes is rises (tree, same) = record {
  tree = tree;
  lists = same;
  rises = rises;
  fit =
      λ path item has.
      listing_fits file meta search is.back is.made is.repair bytes path item (subst (λ (ms : List Member). Contains ms (path, item)) is.repaired has);
}

pub returns : goal.returns
unfolding repaired_viewers
returns c =
    let repair = c.args.repaired.now.repair.now in
    let searched = repair.searched.now in
    let of = c.repaired_listing_is_of_a_tree.ensures in
    record {
      some = ∥∥₁_map repair.goes_back (λ back. (
        repaired_listing back.recovered (repair_made repair) (repair_back repair),
        record { back = repair_back repair; made = repair_made repair; repair = back; repaired = refl },
      ));
      all = c.requires;
      one =
          λ listing is.
          ∣ c.a_fit_listing_is_of_one_tree.ensures listing
          (fit searched.file.now searched.meta repair.search listing searched.bytes is (of.rises searched.file.now searched.meta repair.search listing is)
          (of.tree searched.file.now searched.meta repair.search listing is)) ∣₁;
    }

-- A pass goes along members: those that are left to both are the same.
use Rattle.std.proofs.Common.{◌≡◌, ◌≤◌, List, ◌∷◌, length, subst, arith}
use Rattle.std.proofs.{Math.Logic.∥∥₁_elim, Math.Logic.∥∥₁_map, Props.props}
use Rattle.std.specs.List.{AllByRecursion}
use Rattle.bolt_tree.specs.{Entries.Bucket, Entries.Item, Entries.Value, Listing.Member, Paths.Path, Paths.last_key}
use Rattle.bolt_bulk.specs.{Private.HasItemLength, Private.HasMemberLengths, WholeListings.IsAgain, WholeListings.IsWholeListing}
use Rattle.bolt_bulk.proofs.FileLayouts.{listing_fits}

fit_prop : (path : Path) (item : Item) → IsProp ((1 ≤ length path) × (length (last_key path) ≤ 1073741824) × HasItemLength item)
fit_prop path (Value value) = Prim.hlevel props
fit_prop path (Bucket sequence) = Prim.hlevel props

module _ {M W : Type 0} (reads : M → W → Type 0) (left : M → W → List Member) where
  abbrev AllFit : M → M → Type 0
  AllFit first members = (whole : W) → reads first whole → ∥ AllByRecursion HasMemberLengths (left members whole) ∥₁

  abbrev GivesFirst : M → M → M → Path → Item → Type 0
  GivesFirst first old new path item = (whole : W) → reads first whole → left old whole ≡ (path, item) ∷ left new whole

  -- The first of the members that are left fits,
  pub first_fits : (first old new : M) (path : Path) (item : Item) → ∥ ((whole : W) × reads first whole) ∥₁ → AllFit first old
      → GivesFirst first old new path item
      → (1 ≤ length path) × (length (last_key path) ≤ 1073741824) × HasItemLength item
  first_fits first old new path item some fit next = ∥∥₁_elim some (fit_prop path item) (λ is.
      ∥∥₁_elim (fit is.0 is.1) (fit_prop path item) (λ all. (subst (AllByRecursion HasMemberLengths) (next is.0 is.1) all).0))

  -- and so do the others.
  pub others_fit : (first old new : M) (path : Path) (item : Item) → AllFit first old → GivesFirst first old new path item → AllFit first new
  others_fit first old new path item fit next whole is = ∥∥₁_map (fit whole is) (λ all. (subst (AllByRecursion HasMemberLengths) (next whole is) all).1)

  -- where nothing is given yet, all fit
  pub whole_fits : {listing : W → List Member} (members : M) → IsWholeListing reads listing left members → AllFit members members
  whole_fits {listing} members all whole is = grind (arith, listing_fits)

  -- the same members from their beginning
  pub whole_again : {listing : W → List Member} {ends_as : M → M → Type 0} (old new : M) → IsAgain reads listing left ends_as old new
      → IsWholeListing reads listing left old
      → IsWholeListing reads listing left new
  whole_again old new again all = record {
    some = ∥∥₁_map all.some (λ is. (is.0, (again.same is.0).1 is.1));
    all = λ whole is. again.all whole ((again.same whole).0 is);
    one = λ whole is. all.one whole ((again.same whole).0 is);
  }

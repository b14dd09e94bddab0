-- What a copy is made of: all members of a listing that has one layout.
use Rattle.std.specs.Prelude.{◌≡◌, ◌↔◌, List}
use Rattle.bolt_check.specs.CheckedFiles.{bytes_of, meta_of}
use Rattle.bolt_layout.specs.Copies.{IsOfOneTree}
use Rattle.bolt_tree.specs.{Listing.IsListing, Listing.Member, Walks.left_of, Walks.walk_checked, declared.walk.Walk.Walk}

-- The members have a listing, all of it is left, and it is that of one tree.
pub record IsWholeListing {M W : Type 0} (reads : M → W → Type 0) (listing : W → List Member) (left : M → W → List Member) (members : M) : Type 0 where
  pub some : ∥ ((whole : W) × reads members whole) ∥₁
  pub all : (whole : W) → reads members whole → left members whole ≡ listing whole
  pub one : (whole : W) → reads members whole → ∥ IsOfOneTree (listing whole) ∥₁

-- The members begin again: they are those of the same listing, and all are left. What they end as is what they would have ended as before.
pub record IsAgain {M W : Type 0} (reads : M → W → Type 0) (listing : W → List Member) (left : M → W → List Member) (ends_as : M → M → Type 0)
    (old new : M) : Type 0 where
  pub same : (whole : W) → reads new whole ↔ reads old whole
  pub all : (whole : W) → reads old whole → left new whole ≡ listing whole
  pub same_end : (end : M) → ends_as new end → ends_as old end

-- The walk has all members of a sound file.
abbrev pub IsWholeWalk : Walk → Type 0
IsWholeWalk walk =
    IsWholeListing (λ (w : Walk) (listing : List Member). IsListing (bytes_of (walk_checked w)) (meta_of (walk_checked w)) listing) (λ listing. listing)
    (λ (w : Walk) (listing : List Member). left_of w listing) walk

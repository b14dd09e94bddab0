-- What members have left of their listing. What is promised of it is promised for all that they may read.
use Rattle.std.specs.Prelude.{List}
use Rattle.bolt_lemmas.specs.Order.{Rises}
use Rattle.bolt_tree.specs.{Listing.Member, Listing.member_cmp}

-- a property holds of what members have left
abbrev pub ForLeft : {M W : Type 0} → (reads : M → W → Type 0) → (left : M → W → List Member) → M → (List Member → Type 0) → Type 0
ForLeft {M} {W} reads left members P = (whole : W) → reads members whole → P (left members whole)

-- a property holds of what members have left, if that is in the order of paths
abbrev pub ForRising : {M W : Type 0} → (reads : M → W → Type 0) → (left : M → W → List Member) → M → (List Member → Type 0) → Type 0
ForRising {M} {W} reads left members P = (whole : W) → reads members whole → Rises member_cmp (left members whole) → P (left members whole)

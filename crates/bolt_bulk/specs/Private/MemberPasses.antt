-- What a pass over all members of a source finds and writes, of each listing that the source has.
use Rattle.std.specs.Prelude.{◌≡◌, ◌≤◌, ◌<◌, ℕ, Bool, List, [], length, Result, IfErr, IfOk}
use Rattle.bolt_format.specs.declared.sink.Sink.{Ghosts}
use Rattle.bolt_tree.specs.{Listing.Member, Tree.tree_of}
use Rattle.bolt_layout.specs.{Copies.IsOfOneTree, Copies.layout_of_listing, declared.Layout.Layout}
use Rattle.bolt_bulk.specs.{Compacting.too_many, WholeListings.IsAgain, Private.Endings.EndsPass, Private.Endings.ReturnsEnded}
use Rattle.bolt_bulk.specs.{Private.Passes.FitLimits, Private.Passes.limits_with}
use Rattle.bolt_bulk.specs.{Private.Stops.stops_as_planned, declared.bulk_fault.BulkFault.BulkFault, declared.limits.Limits.Limits}
use Rattle.bolt_bulk.specs.{declared.page_setup.PageSetup.PageSetup, declared.pass.PassEnd.PassEnd}
use Rattle.bolt_bulk.specs.{declared.bulk_fault.PlanFault.PlanFault, declared.bulk_fault.PlanFault.TheVariants.TooLarge}

-- the limits are right for each tree that is listed
abbrev pub FitAll : {M W : Type 0} → (M → W → Type 0) → (W → List Member) → M → Layout → (page_size : ℕ) → Limits → Type 0
FitAll {M} {W} reads listing members which page_size limits =
    (whole : W) → reads members whole → FitLimits which (tree_of (listing whole)) page_size (limits_with limits)

-- the limits are right for each tree that is listed, in one of the layouts
abbrev pub FitOne : {M W : Type 0} → (M → W → Type 0) → (W → List Member) → M → (page_size : ℕ) → Limits → Type 0
FitOne reads listing members page_size limits = (which : Layout) × FitAll reads listing members which page_size limits

-- Limits are found that fit the listing, and the members begin again. TooLarge is returned only if the layout has 2^63 bytes or more.
pub record FindsLimits {M W : Type 0} (reads : M → W → Type 0) (listing : W → List Member) (left : M → W → List Member) (ends_as : M → M → Type 0) (old new : M)
    (which : Layout) (page_size sequence : ℕ) (result : Result Limits PlanFault) : Type 0 where
  pub fit : IfOk result (λ limits. FitAll reads listing old which page_size limits)
  pub large : IfErr result (λ fault. fault ≡ TooLarge → (whole : W) → reads old whole
      → too_many ≤ length (layout_of_listing which page_size (listing whole) sequence))
  pub again : IfOk result (λ limits. IsAgain reads listing left ends_as old new)

-- a pass over all members, with limits that are right for them
abbrev pub PutsMembers : {S M W : Type 0} → Ghosts S → (old new : S) → (M → W → Type 0) → (W → List Member) → M → PageSetup → Limits → (notes : Bool)
    → Result PassEnd BulkFault → Type 0
PutsMembers {S} {M} {W} sink old new reads listing members setup limits notes result =
    (which : Layout) (whole : W) → reads members whole → FitLimits which (tree_of (listing whole)) setup.page_size (limits_with limits)
    → EndsPass (record { which = which; tree = tree_of (listing whole); notes = notes }) sink old new setup [] result

-- a pass that writes nothing, and so doesn't fail to
abbrev pub PassesOverMembers : {M W : Type 0} → (M → W → Type 0) → (W → List Member) → M → PageSetup → Limits → (notes : Bool)
    → Result PassEnd PlanFault → Type 0
PassesOverMembers {M} {W} reads listing members setup limits notes result =
    (which : Layout) (whole : W) → reads members whole → FitLimits which (tree_of (listing whole)) setup.page_size (limits_with limits)
    → ReturnsEnded (record { which = which; tree = tree_of (listing whole); notes = notes }) setup (stops_as_planned result)

-- a property holds of each layout of a listing that is of one tree, if the layout has fewer than 2^63 bytes
abbrev pub ForFitting : (page_size sequence : ℕ) → (Layout → List Member → Type 0) → Type 0
ForFitting page_size sequence P =
    (which : Layout) (listing : List Member) → ∥ IsOfOneTree listing ∥₁ → length (layout_of_listing which page_size listing sequence) < too_many
    → P which listing

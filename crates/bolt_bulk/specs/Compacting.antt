-- What `plan` and `compact` return: docs/LAYOUT.md, "What holds of both layouts". `CopiesEach` is all that a copy promises.
-- The layout is that of the listing of the file, at the page size asked for, with the sequence of the file's root bucket.
use Rattle.std.specs.Prelude.{◌≡◌, ◌<◌, ◌≤◌, ◌^◌, ℕ, List, length, Option, Result, IfErr, IfOk, IsErr, OnErr, OnOk}
use Rattle.std.specs.Io.KnownBytes.{Appends, Keeps}
use Rattle.bolt_format.specs.Sinks.{AppendsProperPrefix}
use Rattle.bolt_check.specs.{CheckedFiles.bytes_of, CheckedFiles.meta_of, declared.checked.Checked.Checked}
use Rattle.bolt_tree.specs.{Listing.IsListing, Listing.Member, Tree.tree_of}
use Rattle.bolt_layout.specs.{Copies.IsSoundCopy, Copies.RefusesPrefixes, Copies.layout_of_listing, Held.most_held, Layout.layout_held}
use Rattle.bolt_layout.specs.{Layout.layout_high_water, Layout.layout_root, declared.Layout.Layout}
use Rattle.bolt_bulk.specs.{declared.bulk_fault.BulkFault.BulkFault, declared.bulk_fault.PlanFault.PlanFault, declared.members_copy.Done.Done}
use Rattle.bolt_bulk.specs.{declared.members_copy.Plan.Plan}
use Rattle.bolt_bulk.specs.declared.bulk_fault.BulkFault.TheVariants as bulk
use Rattle.bolt_bulk.specs.declared.bulk_fault.PlanFault.TheVariants as planned

-- a layout has fewer bytes than this
abbrev pub too_many : ℕ
too_many = 2 ^ 63

-- The plan is the root page and the high-water mark of the layout, which has fewer than 2^63 bytes. Without a plan the layout has 2^63 bytes
-- or more, or memory ran out.
pub record Plans (which : Layout) (page_size sequence : ℕ) (listing : List Member) (result : Result Plan PlanFault) : Type 0 where
  pub root : IfOk result (λ plan. plan.root ≡ layout_root which page_size (tree_of listing))
  pub high_water : IfOk result (λ plan. plan.high_water ≡ layout_high_water which page_size (tree_of listing))
  pub fits : OnOk result (length (layout_of_listing which page_size listing sequence) < too_many)
  pub large : IfErr result (λ fault. fault ≡ planned.TooLarge → too_many ≤ length (layout_of_listing which page_size listing sequence))

-- What a call promises that plans a copy of members: this for each listing that they have.
abbrev pub PlansEach : {W : Type 0} → (W → Type 0) → (W → List Member) → Layout → (page_size sequence : ℕ) → Result Plan PlanFault → Type 0
PlansEach {W} reads listing which page_size sequence result = (whole : W) → reads whole → Plans which page_size sequence (listing whole) result

-- If the call returns Ok, the sink has accepted the whole layout, without a failure, and the number of its bytes is returned. Otherwise the
-- sink has accepted a proper prefix of it. The fault is Sink only if the sink failed, and another one only if it didn't. It is TooLarge only
-- if the layout has 2^63 bytes or more. Of such a layout nothing is written, and the call returns a fault other than Sink.
pub record Copies {S : Type 0} (taken : S → Option (List ℕ)) (failed : S → ℕ) (old new : S) (layout : List ℕ) (result : Result Done BulkFault) : Type 0 where
  pub all : OnOk result (Appends (taken old) (taken new) layout)
  pub bytes : IfOk result (λ done. done.bytes ≡ length layout)
  pub sound : OnOk result (failed new ≡ failed old)
  pub short : OnErr result (AppendsProperPrefix (taken old) (taken new) layout)
  pub failure : IfErr result (λ fault. fault ≡ bulk.Sink → 0 < failed new)
  pub other : IfErr result (λ fault. (fault ≡ bulk.Sink → ⊥) → failed new ≡ failed old)
  pub large : IfErr result (λ fault. fault ≡ bulk.TooLarge → too_many ≤ length layout)
  pub refuses : too_many ≤ length layout → IsErr result × Keeps (taken old) (taken new) × (failed new ≡ failed old)
  pub untouched : too_many ≤ length layout → IfErr result (λ fault. fault ≡ bulk.Sink → ⊥)

-- What a call promises that copies members in this layout, at this page size and with this sequence of the root bucket: for each listing that
-- they have. If it returns Ok, the copy is a sound file with the same listing, and `held` is the greatest number of items that are held at one
-- time while the layout is written, which is bounded. Every proper prefix of a layout with fewer than 2^63 bytes is refused.
pub record CopiesEach {S W : Type 0} (taken : S → Option (List ℕ)) (failed : S → ℕ) (old new : S) (reads : W → Type 0) (listing : W → List Member)
    (which : Layout) (page_size sequence : ℕ) (result : Result Done BulkFault) : Type 0 where
  pub copied : (whole : W) → reads whole → Copies taken failed old new (layout_of_listing which page_size (listing whole) sequence) result
  pub accepted : OnOk result ((whole : W) → reads whole → ∥ IsSoundCopy which page_size (tree_of (listing whole)) sequence (listing whole) ∥₁)
  pub held : IfOk result (λ done. (whole : W) → reads whole → done.held ≡ layout_held which page_size (tree_of (listing whole)))
  pub bounded : IfOk result (λ done. (whole : W) → reads whole → done.held ≤ most_held page_size (listing whole))
  pub prefixes : (whole : W) → reads whole → length (layout_of_listing which page_size (listing whole) sequence) < too_many
      → ∥ RefusesPrefixes (layout_of_listing which page_size (listing whole) sequence) (layout_root which page_size (tree_of (listing whole))) ∥₁

-- the members of a checked file
abbrev pub CopiesFile : {S : Type 0} → (taken : S → Option (List ℕ)) → (failed : S → ℕ) → (old new : S) → Checked → Layout → (page_size : ℕ)
    → Result Done BulkFault → Type 0
CopiesFile taken failed old new checked which page_size result =
    CopiesEach taken failed old new (λ (listing : List Member). IsListing (bytes_of checked) (meta_of checked) listing) (λ listing. listing)
    which page_size (meta_of checked).root_sequence result

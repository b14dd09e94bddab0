-- What a layout promises: docs/LAYOUT.md, "What holds of both layouts".
use Rattle.std.specs.Prelude.{◌≡◌, ◌≤◌, ◌<◌, ◌^◌, ℕ, true, List, length, take}
use Rattle.bolt_format.specs.{Metas.HasBothMetas, Metas.IsActive, Metas.IsPageSize, declared.page_fault.TheConstants.PageFault.CUT}
use Rattle.bolt_format.specs.{declared.meta.Meta.Meta, declared.meta.MetaFault.TheVariants.Cut, declared.meta.Slot.TheVariants.One}
use Rattle.bolt_check.specs.{Accounts.IsFree, Accounts.IsInUse, Findings.finding, Sound.IsRefused, Sound.IsSound, Sound.IsUsed}
use Rattle.bolt_check.specs.declared.check_fault.CheckFault.TheVariants.{Open, Structure}
use Rattle.bolt_tree.specs.{Listing.IsListing, Listing.Member, Tree.Tree, Tree.listing_of, Tree.tree_of}
use Rattle.bolt_layout.specs.{Layout.layout_meta, Layout.layout_of, Storable.IsStorable, declared.Layout.Layout}

-- no page of the file is free, for this meta
abbrev pub HasNoFreePage : List ℕ → Meta → Type 0
HasNoFreePage file meta = (n : ℕ) → IsFree meta.high_water (IsInUse file meta (IsUsed file meta)) n → ⊥

-- Both metas of a layout are valid, and that of slot one is active. For it the layout is sound, trees and accounts, has no free page and
-- has this listing.
pub record IsSoundCopy (which : Layout) (page_size : ℕ) (tree : Tree) (sequence : ℕ) (listing : List Member) : Type 0 where
  pub metas : HasBothMetas (layout_of which page_size tree sequence)
  pub chosen : IsActive (layout_of which page_size tree sequence) One (layout_meta which page_size tree sequence 1)
  pub sound : IsSound (layout_of which page_size tree sequence) (layout_meta which page_size tree sequence 1) true
  pub full : HasNoFreePage (layout_of which page_size tree sequence) (layout_meta which page_size tree sequence 1)
  pub lists : IsListing (layout_of which page_size tree sequence) (layout_meta which page_size tree sequence 1) listing

-- A layout is asked for by an accepted page size, a tree that can be stored and a sequence of 64 bits.
pub record IsAsked (page_size : ℕ) (tree : Tree) (sequence : ℕ) : Type 0 where
  pub size : IsPageSize page_size
  pub storable : IsStorable tree
  pub sequence_fits : sequence < 2 ^ 64

-- A property holds of each layout that is asked for and has fewer than 2^63 bytes: of its kind, page size, tree and sequence.
abbrev pub ForAsked : (Layout → ℕ → Tree → ℕ → Type 0) → Type 0
ForAsked P = (which : Layout) (page_size : ℕ) (tree : Tree) (sequence : ℕ) → IsAsked page_size tree sequence
    → length (layout_of which page_size tree sequence) < 2 ^ 63 → P which page_size tree sequence

-- A property holds of each layout of a tree that can be stored: of its kind, page size, tree and bytes.
abbrev pub ForStorable : (Layout → ℕ → Tree → List ℕ → Type 0) → Type 0
ForStorable P = (which : Layout) (page_size : ℕ) (tree : Tree) (sequence : ℕ) → IsPageSize page_size → IsStorable tree
    → P which page_size tree (layout_of which page_size tree sequence)

-- A layout that is cut short anywhere is refused: it has no meta, or the first finding is that its root page is cut off.
pub record RefusesPrefixes (layout : List ℕ) (root : ℕ) : Type 0 where
  pub before_metas : (n : ℕ) → n < length layout → n < 80 → IsRefused (take n layout) (Open Cut)
  pub at_root : (n : ℕ) → n < length layout → 80 ≤ n → IsRefused (take n layout) (Structure (finding CUT root))

-- The listing is that of exactly one tree, which is computed from it and can be stored: so it has one layout at each page size.
pub record IsOfOneTree (listing : List Member) : Type 0 where
  pub storable : IsStorable (tree_of listing)
  pub lists : listing_of (tree_of listing) ≡ listing
  pub one : (tree : Tree) → listing_of tree ≡ listing → tree ≡ tree_of listing

abbrev pub layout_of_listing : (which : Layout) (page_size : ℕ) → List Member → (sequence : ℕ) → List ℕ
layout_of_listing which page_size listing sequence = layout_of which page_size (tree_of listing) sequence

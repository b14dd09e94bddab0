-- What holds of a copy that is whole: docs/LAYOUT.md, "What holds of both layouts", and docs/COMMANDS.md, "Snapshots".
use Rattle.std.specs.Prelude.{◌≡◌, ◌≢◌, ◌≤◌, ◌<◌, ◌-◌, ℕ, List, Bool, true, IsTrue, Some, length, take}
use Rattle.bolt_bulk.specs.Compacting.{too_many}
use Rattle.bolt_check.specs.{BboltFindings.AreBboltFindings, Nodes.node_at, Sound.IsRefused, Sound.IsSound}
use Rattle.bolt_check.specs.{declared.check_fault.CheckFault.CheckFault, declared.finding.Finding.Finding}
use Rattle.bolt_check.specs.declared.check_fault.CheckFault.TheVariants as check
use Rattle.bolt_format.specs.{Metas.HasBothMetas, Metas.IsActive, Metas.IsPageSize, declared.meta.Meta.Meta, declared.meta.Slot.Slot}
use Rattle.bolt_layout.specs.{NoGaps.HasNoGaps, Copies.IsAsked, Copies.IsOfOneTree, Copies.layout_of_listing, Layout.layout_meta, Layout.layout_of}
use Rattle.bolt_layout.specs.{Layout.layout_root, declared.Layout.Layout}
use Rattle.bolt_etcd.specs.Check.SnapshotFaults.{IsSnapshot, cut_hash_fault}
use Rattle.bolt_tree.specs.{Listing.IsListing, Listing.Member, Tree.tree_of}
use Rattle.bolt_commands.specs.SnapshotAnswers.{copy_of, asked_hash_fault}

-- `check` accepts a file that holds these bytes, its listing is this one, and none of its pages has a gap
abbrev pub AcceptsListing : List ℕ → List Member → Type 0
AcceptsListing file listing =
    (slot : Slot) × (meta : Meta) × IsActive file slot meta × IsSound file meta true × IsListing file meta listing × HasNoGaps file meta

-- `check` refuses a file that holds these bytes, and not for want of memory
abbrev pub RefusesFile : List ℕ → Type 0
RefusesFile file = (fault : CheckFault) × (fault ≢ check.Memory) × IsRefused file fault

pub record IsGoodCopy (snapshot : Bool) (layout : List ℕ) (listing : List Member) : Type 0 where
  -- `check` accepts the copy, hash and all, and it has this listing, and no gap
  pub accepted : AcceptsListing (copy_of snapshot layout) listing
  -- both metas of the copy are valid
  pub metas : HasBothMetas (copy_of snapshot layout)
  -- if the copy is to be a snapshot, it is one
  pub hash : IsTrue snapshot → IsSnapshot (copy_of snapshot layout)
  -- if the copy is cut short in its layout, `check` refuses it
  pub cut_layout : (n : ℕ) → n < length layout → RefusesFile (take n (copy_of snapshot layout))
  -- if the hash of the copy is missing or cut short, that is found
  pub cut_hash : (n : ℕ) → length layout ≤ n → n < length (copy_of snapshot layout)
      → asked_hash_fault snapshot (take n (copy_of snapshot layout)) ≡ Some (cut_hash_fault (n - length layout))

-- a property holds of each good copy
abbrev pub ForGoodCopies : (Bool → List ℕ → Type 0) → Type 0
ForGoodCopies P = (snapshot : Bool) (layout : List ℕ) (listing : List Member) → IsGoodCopy snapshot layout listing → P snapshot (copy_of snapshot layout)

-- A property holds of what bbolt fails on along the ways of each copy of a listing, hash and all, if its layout has fewer than 2^63 bytes.
abbrev pub ForCopyFindings : (Layout → List Finding → Type 0) → Type 0
ForCopyFindings P =
    (which : Layout) (snapshot : Bool) (listing : List Member) (page_size sequence : ℕ) → IsOfOneTree listing → IsAsked page_size (tree_of listing) sequence
    → length (layout_of which page_size (tree_of listing) sequence) < too_many → (findings : List Finding)
    → AreBboltFindings (node_at (copy_of snapshot (layout_of which page_size (tree_of listing) sequence))
    (layout_meta which page_size (tree_of listing) sequence 1))
    (layout_root which page_size (tree_of listing)) findings → P which findings

-- each copy of the listing that has fewer than 2^63 bytes is a good one
abbrev pub HasGoodCopies : List Member → (sequence : ℕ) → Type 0
HasGoodCopies listing sequence =
    (which : Layout) (snapshot : Bool) (page_size : ℕ) → IsPageSize page_size → length (layout_of_listing which page_size listing sequence) < too_many
    → IsGoodCopy snapshot (layout_of_listing which page_size listing sequence) listing

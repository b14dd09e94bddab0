-- Each bucket that a path of a sound file names has its entries in order.
-- Rests on the law that a bucket of the tree has them, and on that each such bucket is one of the tree (BucketWays).
use Rattle.std.proofs.Common.{ℕ, List}
use Rattle.bolt_tree.proofs.Words.{AreEntries, Checked, HasEntries, HasSoundTrees, IsEntry, IsStart, LeafElement, Meta, Root_page, Start, bytes_of}
use Rattle.bolt_tree.proofs.Words.{tour_elements, entries_of, meta_of, pages_at, root_start, with_trees, ∥∥₁_prop}
use Rattle.bolt_tree.proofs.{BucketWays.root_starts, BucketWays.starts_named, RisingEntries.tour_entries}

pub entries_at : (file : List ℕ) (meta : Meta) → HasSoundTrees file meta → (start : Start) → IsStart file meta start
    → (entries : List LeafElement) × AreEntries (IsEntry file meta) start entries
entries_at file meta sound start is = (tour_elements (pages_at file meta start), tour_entries file meta sound start is)

pub all_entries : (file : List ℕ) (meta : Meta) → HasSoundTrees file meta → HasEntries (IsEntry file meta) (Root_page meta.root)
all_entries file meta sound =
    λ path bucket names. entries_at file meta sound bucket (starts_named file meta (Root_page meta.root) path bucket (root_starts file meta) names)

pub checked_entries : (checked : Checked) → ∥ HasEntries (entries_of checked) (root_start checked) ∥₁
checked_entries checked =
    with_trees checked (∥ HasEntries (entries_of checked) (root_start checked) ∥₁) ∥∥₁_prop
    (λ trees. ∣ all_entries (bytes_of checked) (meta_of checked) trees ∣₁)

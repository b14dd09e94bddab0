-- The figures of a bucket's buckets, added up entry by entry.
use Rattle.std.proofs.Common.{◌≡◌, ◌⊎◌, inl, inr, ap, ℕ, Vec, length, List, [], ◌∷◌, None, Option, Some, false, is_some, option_map, refl, sym, subst}
use Rattle.std.proofs.Common.{true}
use Rattle.bolt_commands.proofs.Vocabulary.{AddsEntry, AreEntries, Bucket, Checked, EntryView, Failure, FigureForm, ForEntries, HasSoundTrees}
use Rattle.bolt_commands.proofs.Vocabulary.{HasStats, IsStatsAnswer, IsTotal, LeadsTo, LeafElement, Meta, Path, Root_page, Start, Stats, add_stats}
use Rattle.bolt_commands.proofs.Vocabulary.{bucket_checked, bucket_start, bytes_of, entries_of, meta_of, no_stats, owned_path, props, refused}
use Rattle.bolt_commands.proofs.Vocabulary.{∥∥₁_elim, ∥∥₁_map}
use Rattle.bolt_tree.specs.{Lookups.IsBucketOf, ShownEntries.shown_entry, declared.entry.Entry.Entry}
use Rattle.bolt_commands.proofs.AtPaths.{at_path, no_parts}
use Rattle.bolt_stats.specs.StatsOf.{IsStatsOf}
use Rattle.bolt_commands.specs.declared.failure.Failure.TheVariants as failure

-- an entry that is a bucket adds its figures, and a value none
pub adds_bucket : (inner : Bucket) (checked : Checked) (own before sum : Stats) (e : LeafElement) → bucket_checked inner ≡ checked
    → IsBucketOf (Some e) (Some inner)
    → ∥ IsStatsOf (bytes_of (bucket_checked inner)) (meta_of (bucket_checked inner)) (bucket_start inner) own ∥₁ → sum ≡ add_stats before own
    → ∥ AddsEntry (bytes_of checked) (meta_of checked) e before sum ∥₁
adds_bucket inner checked own before sum e same is stats added = ∥∥₁_map (rw same at stats) (λ own_are. rw added (rw is.0 (own, rw is.1 at own_are, refl)))

pub adds_none : (file : List ℕ) (meta : Meta) (before : Stats) (e : LeafElement) → IsBucketOf (Some e) None → ∥ AddsEntry file meta e before before ∥₁
adds_none file meta before e plain = rw plain (∣ refl ∣₁)

-- what a test of a move's result says of what is shown
pub shown_some : (found : Option Entry) → is_some found ≡ true → (x : EntryView) × (option_map shown_entry found ≡ Some x)
shown_some None some = absurd (cc)
shown_some (Some entry) some = (shown_entry entry, refl)

pub shown_none : (found : Option Entry) → is_some found ≡ false → option_map shown_entry found ≡ None
shown_none None none = refl
shown_none (Some entry) none = absurd (cc)

-- what is left makes the whole, so it does with the next entry
pub total_more : (file : List ℕ) (meta : Meta) (old new : List LeafElement) (e : LeafElement) (before after total : Stats) → old ≡ e ∷ new
    → ∥ AddsEntry file meta e before after ∥₁
    → ∥ IsTotal file meta new after total ∥₁ → ∥ IsTotal file meta old before total ∥₁
total_more file meta old new e before after total is adds later =
    rw is (∥∥₁_elim adds (hlevel props) (λ one. ∥∥₁_map later (λ rest. (after, one, rest))))

-- ---- the bucket at a path

-- the figures of the root bucket
pub root_stats : {Z : Type 0} (path : List (Vec ℕ Z)) (checked : Checked) (root : Bucket) (total : Stats) → length path ≡ 0
    → HasSoundTrees (bytes_of checked) (meta_of checked)
    → bucket_checked root ≡ checked → bucket_start root ≡ Root_page (meta_of checked).root
    → ForEntries (bucket_checked root) (bucket_start root)
    (λ entries. ∥ IsTotal (bytes_of (bucket_checked root)) (meta_of (bucket_checked root)) entries no_stats total ∥₁)
    → HasStats (bytes_of checked) (owned_path path) (meta_of checked) total
root_stats path checked root total empty trees is begins promised =
    let Sum : List LeafElement → Type 0 = λ entries. ∥ IsTotal (bytes_of (bucket_checked root)) (meta_of (bucket_checked root)) entries no_stats total ∥₁ in
    let (start, entries, names, are, known) = at_path checked [] root Sum trees is ∣ sym begins ∣₁ promised in
    let sum = subst (λ (c : Checked). ∥ IsTotal (bytes_of c) (meta_of c) entries no_stats total ∥₁) is known in
    let here = subst (λ (s : Start). AreEntries (entries_of checked) s entries) (sym names) are in
    rw (no_parts path empty) (entries, ∥∥₁_map sum (λ all. (here, all)))

-- and those of another bucket
pub bucket_stats : {Z : Type 0} (path : List (Vec ℕ Z)) (checked : Checked) (bucket : Bucket) (own : Stats) → (length path ≡ 0 → ⊥)
    → bucket_checked bucket ≡ checked → ∥ LeadsTo (bytes_of checked) (meta_of checked) (owned_path path) (bucket_start bucket) ∥₁
    → ∥ IsStatsOf (bytes_of (bucket_checked bucket)) (meta_of (bucket_checked bucket)) (bucket_start bucket) own ∥₁
    → HasStats (bytes_of checked) (owned_path path) (meta_of checked) own
bucket_stats [] checked bucket own some is named stats = absurd (some refl)
bucket_stats (part ∷ path) checked bucket own some is named stats =
    (bucket_start bucket, ∥∥₁_elim named (hlevel props) (λ led. ∥∥₁_map (rw is at stats) (λ are. (led, are))))

-- why there are none
pub stats_missing : (file : List ℕ) (path : Path) (form : FigureForm) (meta : Meta) (reason : Failure)
    → (reason ≡ failure.Memory) ⊎ ((reason ≡ failure.NoBucket) × ((bucket : Start) → LeadsTo file meta path bucket → ⊥))
    → IsStatsAnswer file path form meta (refused reason)
stats_missing file path form meta reason (inl full) = inr (inr (ap refused full))
stats_missing file path form meta reason (inr (is, nowhere)) = inr (inl (nowhere, ap refused is))

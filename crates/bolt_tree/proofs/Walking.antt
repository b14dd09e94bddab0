-- What is known of a walk's buckets and of what it does next.
use Rattle.std.proofs.Common.{◌≡◌, ◌∙◌, List, [], ◌∷◌, ◌++◌, sym, ap, subst}
use Rattle.bolt_tree.proofs.Words.{AreOpen, Checked, CursorView, HasEntries, IsAhead, IsInPlace, IsInside, Lists, Member, Names, Path, Start}
use Rattle.bolt_tree.proofs.Words.{cursors_of, entries_of, leaf_view, open_path, path_of, props, rest_after, root_start, start_of, ∥∥₁_elim, ∥∥₁_map}
use Rattle.bolt_tree.proofs.{AllEntries.checked_entries, Seeking.behind_all}
use Rattle.bolt_tree.specs.declared.open_buckets.WalkStep.{WalkStep}
use Rattle.bolt_tree.specs.declared.open_buckets.WalkStep.TheVariants.{Begin, Enter, Give, Leave}
use Rattle.bolt_tree.specs.declared.open_buckets.OpenBuckets.{OpenBuckets}

pub ahead_prop : (buckets : OpenBuckets) (ahead : WalkStep) → IsProp (IsAhead buckets ahead)
ahead_prop buckets Begin = hlevel props
ahead_prop buckets (Enter value) = hlevel props
ahead_prop buckets (Give leaf) = hlevel props
ahead_prop buckets Leave = hlevel props

-- where only the room for more has changed
pub ahead_in : (old new : OpenBuckets) (ahead : WalkStep) → new.checked ≡ old.checked → open_path new ≡ open_path old → IsAhead old ahead
    → IsAhead new ahead
ahead_in old new Begin file same h = same ∙ h
ahead_in old new (Enter value) file same h = (
  h.0,
  subst (λ (c : Checked). IsInside c (open_path new) (start_of value.now)) (sym file)
      (subst (λ (ks : Path). IsInside old.checked ks (start_of value.now)) (sym same) h.1),
)
ahead_in old new (Give leaf) file same h = (
  h.0,
  subst (λ (c : Checked).
      ∥ ((path : Path) × (bucket : Start) × (open_path new ≡ path ++ leaf.key.now ∷ []) × Names (entries_of c) (root_start c) path bucket
      × entries_of c bucket (leaf_view leaf)) ∥₁)
      (sym file) (∥∥₁_map h.1 (λ (path, bucket, at, names, is). (path, bucket, same ∙ at, names, is))),
)
ahead_in old new Leave file same h = h

-- a walk begins at the root
pub begins : (checked : Checked) (buckets : OpenBuckets) → buckets.checked ≡ checked → cursors_of buckets ≡ [] → buckets.path.items ≡ []
    → ∥ IsInPlace buckets × IsAhead buckets Begin ∥₁
begins checked buckets file none at =
    let path : open_path buckets ≡ [] = ap path_of at in
    let are : AreOpen buckets.checked [] (cursors_of buckets) (open_path buckets) =
    subst (λ (cs : List CursorView). AreOpen buckets.checked [] cs (open_path buckets)) (sym none)
    (subst (λ (ks : Path). AreOpen buckets.checked [] [] ks) (sym path) tt) in
    ∥∥₁_map (checked_entries checked) (λ h. (∣ (subst (λ (c : Checked). HasEntries (entries_of c) (root_start c)) (sym file) h, are) ∣₁, path))

pub all_ahead : (checked : Checked) (keys : Path) → keys ≡ [] → (listing : List Member) → Lists (entries_of checked) (root_start checked) listing
    → rest_after keys listing ≡ listing
all_ahead checked keys none listing lists =
    ap (λ (p : Path). rest_after p listing) none
    ∙ ∥∥₁_elim (checked_entries checked) (hlevel props) (λ h. behind_all (entries_of checked) (root_start checked) h listing lists)

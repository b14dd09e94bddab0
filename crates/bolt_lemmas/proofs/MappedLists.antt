-- Lists by what their elements show: sorted, and with neighbors merged.
use Rattle.std.proofs.Common.{Bool, List, [], ap, arith, cond, false, length, map, refl, slice_index_or, true, ◌+◌, ◌<◌, ◌∙◌, ◌∷◌, ◌≡◌}
use Rattle.std.proofs.lemmas.List.{get_or-map, length-map}
use Rattle.std.specs.List.{dedup, dedup_from}
use Rattle.std.specs.List.Sorted.{IsSortedBy}

module _ {X Y : Type 0} (f : X → Y) where
  pub sorted_mapped : (lt : Y → Y → Bool) (xs : List X) → IsSortedBy (λ a b. lt (f a) (f b)) xs → IsSortedBy lt (map f xs)
  sorted_mapped lt [] up k d low high = absurd (omega arith)
  sorted_mapped lt (x ∷ xs) up k d low high =
      let long = length-map (x ∷ xs) f in
      let lt_long : k + 1 < length (x ∷ xs) = omega (arith, long) in
      ap (λ (y : Y). lt y (slice_index_or (map f (x ∷ xs)) k d)) (get_or-map f (x ∷ xs) (k + 1) x d lt_long)
      ∙ ap (λ (y : Y). lt (f (slice_index_or (x ∷ xs) (k + 1) x)) y) (get_or-map f (x ∷ xs) k x d (omega arith))
      ∙ up k x low lt_long

  pub sorted_by_shown : (lt : Y → Y → Bool) (xs : List X) → IsSortedBy lt (map f xs) → IsSortedBy (λ a b. lt (f a) (f b)) xs
  sorted_by_shown lt xs up k d low high =
      grind (
        arith,
        length-map xs f,
        slice_index_or xs k d,
        get_or-map f xs (k + 1) d (f d) high,
        slice_index_or (map f xs) (k + 1) (f d),
        get_or-map f xs k d (f d) (omega arith),
      )

  module _ (same : Y → Y → Bool) where
    abbrev pub shown_same : X → X → Bool
    shown_same a b = same (f a) (f b)

    dedup_step : (k z : X) (zs : List X) (b : Bool) → ((k' : X) → map f (dedup_from shown_same k' zs) ≡ dedup_from same (f k') (map f zs))
        → map f (cond b (dedup_from shown_same k zs) (k ∷ dedup_from shown_same z zs))
        ≡ cond b (dedup_from same (f k) (map f zs)) (f k ∷ dedup_from same (f z) (map f zs))
    dedup_step k z zs true later = later k
    dedup_step k z zs false later = ap (λ l. f k ∷ l) (later z)

    dedup_from_mapped : (k : X) (zs : List X) → map f (dedup_from shown_same k zs) ≡ dedup_from same (f k) (map f zs)
    dedup_from_mapped k [] = refl
    dedup_from_mapped k (z ∷ zs) = dedup_step k z zs (shown_same z k) (λ k'. dedup_from_mapped k' zs)

    pub dedup_mapped : (xs : List X) → map f (dedup shown_same xs) ≡ dedup same (map f xs)
    dedup_mapped [] = refl
    dedup_mapped (x ∷ xs) = dedup_from_mapped x xs

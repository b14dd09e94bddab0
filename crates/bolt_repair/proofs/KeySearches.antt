-- What a binary search by keys finds.
use Rattle.std.proofs.Common.{◌≡◌, ◌↔◌, ◌∙◌, ◌<◌, inl, inr, ℕ, Bool, true, false, List, [], ◌∷◌, length, map, Result, Ok, Err, sym, ap}
use Rattle.std.proofs.Common.{slice_index_or, arith}
use Rattle.std.proofs.lemmas.Bool.{cases_lt}
use Rattle.std.proofs.{lemmas.List.get_or-map, lemmas.List.length-map, lemmas.List.Elements.Contains-from_at}
use Rattle.std.proofs.{lemmas.List.Sorted.searchable_from_sorted, lemmas.Cmp.tied_itself}
use Rattle.std.specs.{List.Contains, List.HoldsAt, List.Sorted.IsBinarySearchResult, List.Sorted.IsPartitionPoint, List.Sorted.IsSearchInRange}
use Rattle.std.specs.{List.Sorted.IsSortedBy, Ordering.is_lt, Result.is_ok}
use Rattle.std.specs.declared.cmp.Ordering.TheVariants.{Equal, Greater, Less}
use Rattle.bolt_lemmas.proofs.Exports.{shows_from}
use Rattle.bolt_check.specs.Keys.{Key, key_cmp}
use Rattle.bolt_tree.proofs.Exports.{key_exact, key_total}

module _ {X : Type 0} (f : X → Key) (key : Key) where
  found_here : (xs : List X) (i : ℕ) → i < length xs → HoldsAt (λ x. key_cmp (f x) key ≡ Equal) xs i → Contains (map f xs) key
  found_here [] i below holds = absurd (omega arith)
  found_here (x ∷ xs) i below holds =
      let long = length-map (x ∷ xs) f in
      Contains-from_at (map f (x ∷ xs)) key (i, omega (arith, long), λ d. get_or-map f (x ∷ xs) i x d below ∙ key_exact _ key (holds x))

  not_found : (xs : List X) (i : ℕ) → IsPartitionPoint (λ x. key_cmp (f x) key ≡ Less) (λ x. key_cmp (f x) key ≡ Greater) xs i
      → Contains (map f xs) key → ⊥
  not_found xs i parts has =
      let (x, (k, below, at), is) = shows_from f xs key has in
      let tied : key_cmp (f (slice_index_or xs k x)) key ≡ Equal =
      ap (λ (y : X). key_cmp (f y) key) at ∙ ap (λ (l : Key). key_cmp l key) is ∙ tied_itself key_total key in
      elim (cases_lt k i) [
        | inl before ↦ (let less = parts.0 k x (omega arith) before in let wrong : Less ≡ Equal = sym less ∙ tied in cc)
        | inr after ↦ (let greater = parts.1 k x after below in let wrong : Greater ≡ Equal = sym greater ∙ tied in cc)
      ]

  pub found_key : (xs : List X) (r : Result ℕ ℕ) (b : Bool) → IsSortedBy (λ a c. is_lt (key_cmp (f a) (f c))) xs → IsSearchInRange r (length xs)
      → IsBinarySearchResult (λ x. key_cmp (f x) key) xs r → b ≡ is_ok r → (b ≡ true) ↔ Contains (map f xs) key
  found_key xs (Ok i) b up within found is = (λ _. found_here xs i within found, λ _. is)
  found_key xs (Err i) b up within found is =
      (λ e. absurd (let wrong : true ≡ false = sym e ∙ is in cc), λ has. absurd (not_found xs i (found (searchable_from_sorted key_total f xs key up)) has))

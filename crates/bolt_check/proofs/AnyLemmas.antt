-- Whether a test holds of an element, as a loop over the elements finds it.
use Rattle.std.proofs.Common.{◌≡◌, ◌+◌, ◌&&◌, ◌||◌, ℕ, Bool, true, false, List, [], ◌∷◌, Some, drop, not, refl, slice_get}
use Rattle.std.specs.List.{list_any}
use Rattle.bolt_check.proofs.Words.{Entry, Node}
use Rattle.bolt_check.specs.BboltFindings.{has_large_value, has_value, is_large_value, is_value}
use Rattle.bolt_format.proofs.Exports.{drop_next}

module _ {X : Type 0} (p : X → Bool) (xs : List X) (i : ℕ) (x : X) (at : slice_get xs i ≡ Some x) where
  -- the next element isn't one
  pub any_next : p x ≡ false → list_any p (drop i xs) ≡ list_any p (drop (i + 1) xs)
  any_next other = rw (drop_next xs i x at, other) refl

-- without a value there is none under a large key
large_is_value : (entries : List Entry) → (list_any is_value entries && list_any is_large_value entries) ≡ list_any is_large_value entries
large_is_value [] = refl
large_is_value (e ∷ entries) = by e.is_bucket refl (large_is_value entries)
  where
    by : (is_bucket : Bool) → e.is_bucket ≡ is_bucket
        → (list_any is_value entries && list_any is_large_value entries) ≡ list_any is_large_value entries
        → (list_any is_value (e ∷ entries) && list_any is_large_value (e ∷ entries)) ≡ list_any is_large_value (e ∷ entries)
    by true is rest = rw is rest
    by false is rest = rw is refl

leaf_large_values : (is_leaf : Bool) (entries : List Entry)
    → ((is_leaf && list_any is_value entries) && (is_leaf && list_any is_large_value entries)) ≡ (is_leaf && list_any is_large_value entries)
leaf_large_values true entries = large_is_value entries
leaf_large_values false entries = refl

pub large_values : (in_root : Bool) (node : Node)
    → ((not in_root || (in_root && has_value node)) && has_large_value node) ≡ has_large_value node
large_values false node = refl
large_values true node = leaf_large_values node.is_leaf node.entries

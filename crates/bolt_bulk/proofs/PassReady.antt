-- What is known of a pass without its tree, after a step.
use Rattle.std.proofs.Common.{◌⊎◌, ◌≡◌, ℕ, ◌+◌, ◌/◌, ◌≤◌, ◌<◌, false, List, [], ◌∷◌, ◌++◌, length, map, Option, Some, subst}
use Rattle.std.proofs.Common.{arith}
use Rattle.std.proofs.lemmas.List.{length-append, length-map, map-append}
use Rattle.bolt_lemmas.proofs.Exports.{all_append}
use Rattle.bolt_format.specs.{ElementPlaces.leaf_view, declared.element.Leaf.Leaf}
use Rattle.bolt_tree.specs.Tree.{Tree, with_value}
use Rattle.bolt_layout.specs.declared.Layout.{Layout}
use Rattle.bolt_bulk.specs.{Private.HasRoot, Private.IsPendingSmall, Private.IsSmall, Private.onto}
use Rattle.bolt_bulk.specs.{declared.pending_bucket.PendingBucket.PendingBucket}
use Rattle.bolt_bulk.proofs.{Ontos.value_too_large, HeldRuns.data_push}

-- the bucket that may be inline
pub small_of : (page_size : ℕ) (pending : Option PendingBucket) (p : PendingBucket) (entries : List Leaf) → pending ≡ Some p
    → IsPendingSmall page_size pending entries → IsSmall page_size p entries
small_of page_size pending p entries some small = subst (λ (q : Option PendingBucket). IsPendingSmall page_size q entries) some small

-- one more value
pub small_push : (page_size size : ℕ) (p : PendingBucket) (entries more : List Leaf) (entry : Leaf) → IsSmall page_size p entries
    → length entry.key.now ≤ 1073741824 → entry.is_bucket ≡ false
    → size ≡ p.size + (16 + (length entry.key.now + length entry.value.now)) → size ≤ page_size / 4 → length entries < 65534 → more ≡ entries ++ entry ∷ []
    → IsSmall page_size (record { key = p.key; sequence = p.sequence; size = size }) more
small_push page_size size p entries more entry is key value sized small few pushed = grind (arith, map-append, data_push, length-append, all_append)

-- a value that doesn't fit: the bucket has a root page
pub full_rooted : (which : Layout) (page_size : ℕ) (p : PendingBucket) (entries : List Leaf) (key value : List ℕ) (after : Tree)
    → IsSmall page_size p entries
    → (page_size / 4 < p.size + (16 + (length key + length value))) ⊎ (65534 ≤ length entries)
    → HasRoot which page_size (onto (map leaf_view entries) (with_value key value after))
full_rooted which page_size p entries key value after is full = grind (arith, length-map, value_too_large)

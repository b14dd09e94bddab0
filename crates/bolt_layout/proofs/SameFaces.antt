-- The items of a bucket have the same keys and sizes in both layouts, and the same buckets are inline.
use Rattle.std.proofs.Common.{◌≡◌, ◌+◌, ℕ, true, false, List, ◌∷◌, length, map, refl, ap, arith}
use Rattle.bolt_lemmas.proofs.Exports.{sum_map}
use Rattle.bolt_layout.proofs.Words.{Balanced, end, holds_bucket, is_inline, items_of, Laid, leaf_item, LeafElement, length-map, Plain, Tree}
use Rattle.bolt_layout.proofs.Words.{with_bucket, with_value}
use Rattle.bolt_layout.proofs.Faces.{Face, face, face_size}

-- Sizes decide which buckets are inline.
inline_by_faces : (page_size : ℕ) (inside : Tree) (plain balanced : List (Laid LeafElement)) → map face plain ≡ map face balanced
    → is_inline page_size inside plain ≡ is_inline page_size inside balanced
inline_by_faces page_size inside plain balanced same =
    grind (arith, length-map plain face, length-map balanced face, sum_map face face_size plain, sum_map face face_size balanced)

-- A bucket that holds no bucket has the same items.
same_items : (page_size : ℕ) (tree : Tree) → holds_bucket tree ≡ false → items_of Plain page_size tree ≡ items_of Balanced page_size tree
same_items page_size (with_value key value after) none =
    ap (λ (items : List (Laid LeafElement)). leaf_item key value false ∷ items) (same_items page_size after none)
same_items page_size tree none = grind arith

-- So has one that is inline.
inline_items : (page_size : ℕ) (inside : Tree) → is_inline page_size inside (items_of Plain page_size inside) ≡ true
    → items_of Plain page_size inside ≡ items_of Balanced page_size inside
inline_items page_size inside inline = grind (arith, same_items)

pub items_alike : (page_size : ℕ) (tree : Tree) → map face (items_of Plain page_size tree) ≡ map face (items_of Balanced page_size tree)
items_alike page_size end = refl
items_alike page_size (with_value key value after) = ap (λ (faces : List Face). (key, 16 + (length key + length value)) ∷ faces) (items_alike page_size after)
items_alike page_size (with_bucket key sequence inside after) =
    grind (arith, inline_by_faces, inline_items, items_alike page_size inside, items_alike page_size after)

pub inline_alike : (page_size : ℕ) (inside : Tree)
    → is_inline page_size inside (items_of Plain page_size inside) ≡ is_inline page_size inside (items_of Balanced page_size inside)
inline_alike page_size inside = grind (arith, inline_by_faces, items_alike)

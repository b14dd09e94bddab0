-- The plain layout of a tree takes at most 28 times the page numbers of the balanced one: both have the same leaves.
use Rattle.std.proofs.Common.{◌≡◌, ◌∙◌, ℕ, ◌+◌, ◌*◌, ◌≤◌, List, [], ◌∷◌, map, refl, sym, ap, arith}
use Rattle.bolt_lemmas.proofs.Exports.{all_weaker, sum_map}
use Rattle.bolt_layout.proofs.Words.{AllByRecursion, Balanced, cut_of, end, HasLengths, is_inline, IsPageSize, IsStorable, items_of, Laid}
use Rattle.bolt_layout.proofs.Words.{largest_page, LeafElement, numbers_of, overflow_of, Plain, RisesInside, root_of, root_over, run_size}
use Rattle.bolt_layout.proofs.Words.{size_bounds, size_of, stored_bucket, Tree, with_bucket, with_value}
use Rattle.bolt_layout.proofs.{Faces.Face, Faces.face, Faces.face_size, Faces.map_cut, HeldBounds.level_numbers, LaidItems.IsItem}
use Rattle.bolt_layout.proofs.{PlainNumbers.leaves_numbers, PlainNumbers.plain_most, SameFaces.inline_alike, SameFaces.items_alike}
use Rattle.bolt_layout.proofs.{TreeItems.tree_items, Weights.own_numbers}

-- The sizes of the items decide what the leaves take themselves.
faces_numbers : (page_size : ℕ) → List (List Face) → ℕ
faces_numbers page_size [] = 0
faces_numbers page_size (faces ∷ runs) = (1 + overflow_of page_size (run_size face_size faces)) + faces_numbers page_size runs

own_by_faces : (page_size : ℕ) (runs : List (List (Laid LeafElement))) → own_numbers page_size runs ≡ faces_numbers page_size (map (map face) runs)
unfolding faces_numbers
own_by_faces page_size [] = refl
own_by_faces page_size (run ∷ runs) =
    omega (arith, own_by_faces page_size runs, sum_map face face_size run, ap (λ (n : ℕ). overflow_of page_size (16 + n)) (sum_map face face_size run))

own_alike : (page_size : ℕ) (plain balanced : List (Laid LeafElement)) → map face plain ≡ map face balanced
    → own_numbers page_size (cut_of page_size 1 size_of plain) ≡ own_numbers page_size (cut_of page_size 1 size_of balanced)
own_alike page_size plain balanced same =
    own_by_faces page_size (cut_of page_size 1 size_of plain)
    ∙ (ap (λ (runs : List (List Face)). faces_numbers page_size runs)
    (map_cut face page_size 1 face_size plain
    ∙ (ap (λ (faces : List Face). cut_of page_size 1 face_size faces) same ∙ sym (map_cut face page_size 1 face_size balanced)))
    ∙ sym (own_by_faces page_size (cut_of page_size 1 size_of balanced)))

-- So a bucket's root page takes not many more numbers in the plain layout, where its items don't,
root_larger : (page_size : ℕ) (plain balanced : List (Laid LeafElement)) → 1024 ≤ page_size → AllByRecursion (IsItem page_size) plain
    → map face plain ≡ map face balanced
    → numbers_of plain ≤ 28 * numbers_of balanced → (root_over Plain page_size plain).numbers ≤ 28 * (root_over Balanced page_size balanced).numbers
unfolding root_over
root_larger page_size plain balanced low all same below = grind (arith, all_weaker, plain_most, level_numbers, leaves_numbers, own_alike)

-- and so for a bucket as it is stored,
stored_larger : (page_size : ℕ) (key : List ℕ) (sequence : ℕ) (inside : Tree) (plain balanced : List (Laid LeafElement))
    → is_inline page_size inside plain ≡ is_inline page_size inside balanced
    → (root_over Plain page_size plain).numbers ≤ 28 * (root_over Balanced page_size balanced).numbers
    → (stored_bucket Plain page_size key sequence inside plain).numbers ≤ 28 * (stored_bucket Balanced page_size key sequence inside balanced).numbers
stored_larger page_size key sequence inside plain balanced inline larger = grind arith

-- and for all buckets.
items_larger : (page_size : ℕ) → 1024 ≤ page_size → page_size ≤ largest_page → (tree : Tree) → HasLengths tree → RisesInside tree
    → numbers_of (items_of Plain page_size tree) ≤ 28 * numbers_of (items_of Balanced page_size tree)
items_larger page_size low high end lengths rises = omega arith
items_larger page_size low high (with_value key value after) lengths rises = let rest = items_larger page_size low high after lengths.2 rises in omega arith
items_larger page_size low high (with_bucket key sequence inside after) lengths rises =
    let plain = items_of Plain page_size inside in
    let balanced = items_of Balanced page_size inside in
    let all = tree_items Plain page_size (omega arith) high inside lengths.2 rises.1 in
    let root = root_larger page_size plain balanced low all (items_alike page_size inside) (items_larger page_size low high inside lengths.2 rises.1) in
    let stored = stored_larger page_size key sequence inside plain balanced (inline_alike page_size inside) root in
    let rest = items_larger page_size low high after lengths.3 rises.2 in omega arith

pub plain_not_much_larger : (page_size : ℕ) (tree : Tree) → IsPageSize page_size → IsStorable tree
    → (root_of Plain page_size tree).numbers ≤ 28 * (root_of Balanced page_size tree).numbers
unfolding root_of
plain_not_much_larger page_size tree size storable = grind (arith, size_bounds, tree_items, items_larger, root_larger, items_alike)

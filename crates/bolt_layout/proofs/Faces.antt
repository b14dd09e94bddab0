-- A row as the cut sees it: the keys and sizes of its items decide how the row is cut, and the keys and sizes of the row above.
use Rattle.std.proofs.Common.{◌≡◌, ◌∙◌, ◌++◌, ◌+◌, ℕ, List, [], ◌∷◌, length, map, refl, ap, arith}
use Rattle.bolt_lemmas.proofs.Exports.{sum_map}
use Rattle.bolt_layout.proofs.Words.{Balanced, branch_cut, branch_page_view, BranchElement, common_steps, cut_from, cut_of, join_last, joins, Laid}
use Rattle.bolt_layout.proofs.Words.{last_length, Layout, leaf_page_view, leaf_pages, LeafElement, length-map, map-append, next_level, page_over}
use Rattle.bolt_layout.proofs.Words.{PageView, Plain, size_of}

map_joins : {X Y : Type 0} (f : X → Y) (page_size least : ℕ) (size : Y → ℕ) (run : List X) (next : X)
    → joins page_size least (λ x. size (f x)) run next ≡ joins page_size least size (map f run) (f next)
map_joins f page_size least size run next = grind (arith, common_steps, length-map, map-append, sum_map)

map_from : {X Y : Type 0} (f : X → Y) (page_size least : ℕ) (size : Y → ℕ) (run items : List X)
    → map (map f) (cut_from page_size least (λ x. size (f x)) run items) ≡ cut_from page_size least size (map f run) (map f items)
map_from f page_size least size run [] = refl
map_from f page_size least size run (next ∷ items) =
    grind (
      arith,
      common_steps,
      map_joins,
      map-append,
      map_from f page_size least size (run ++ next ∷ []) items,
      map_from f page_size least size (next ∷ []) items,
    )

pub map_cut : {X Y : Type 0} (f : X → Y) (page_size least : ℕ) (size : Y → ℕ) (items : List X)
    → map (map f) (cut_of page_size least (λ x. size (f x)) items) ≡ cut_of page_size least size (map f items)
map_cut f page_size least size items = grind (arith, map_from)

pub map_last : {X Y : Type 0} (f : X → Y) (runs : List (List X)) → last_length (map (map f) runs) ≡ last_length runs
map_last f (run ∷ next ∷ runs) = map_last f (next ∷ runs)
map_last f runs = grind (arith, length-map)

map_join : {X Y : Type 0} (f : X → Y) (runs : List (List X)) → map (map f) (join_last runs) ≡ join_last (map (map f) runs)
map_join f [] = refl
map_join f (run ∷ []) = refl
map_join f (run ∷ next ∷ []) = grind (arith, length-map, map-append)
map_join {Y = Y} f (run ∷ next ∷ more ∷ runs) = ap (λ (rs : List (List Y)). map f run ∷ rs) (map_join f (next ∷ more ∷ runs))

map_branches : {X Y : Type 0} (f : X → Y) (which : Layout) (page_size : ℕ) (size : Y → ℕ) (items : List X)
    → map (map f) (branch_cut which page_size (λ x. size (f x)) items) ≡ branch_cut which page_size size (map f items)
map_branches f Plain page_size size items = map_cut f page_size 2 size items
map_branches {X = X} {Y = Y} f Balanced page_size size items =
    map_join f (cut_of page_size 2 (λ (x : X). size (f x)) items) ∙ ap (λ (rs : List (List Y)). join_last rs) (map_cut f page_size 2 size items)

-- an item's key and size
abbrev pub Face : Type 0
Face = List ℕ × ℕ

abbrev pub face : {E : Type 0} → Laid E → Face
face item = (item.key, item.size)

abbrev pub face_size : Face → ℕ
face_size f = f.1

-- those of the page over a run
abbrev pub top_key : List Face → List ℕ
top_key [] = []
top_key (f ∷ faces) = f.0

abbrev pub top_face : List Face → Face
top_face faces = (top_key faces, 16 + length (top_key faces))

over_faces : {E : Type 0} (view : ℕ → List E → PageView) (page_size : ℕ) (runs : List (List (Laid E)))
    → map face (map (page_over view page_size) runs) ≡ map top_face (map (map face) runs)
over_faces view page_size [] = refl
over_faces view page_size (run ∷ runs) = grind (arith, over_faces view page_size runs)

pub leaf_faces : (page_size : ℕ) (items : List (Laid LeafElement))
    → map face (leaf_pages page_size items) ≡ map top_face (cut_from page_size 1 face_size [] (map face items))
leaf_faces page_size items =
    grind (arith, over_faces leaf_page_view page_size (cut_from page_size 1 size_of [] items), map_from face page_size 1 face_size [] items)

pub next_faces : (which : Layout) (page_size : ℕ) (pages : List (Laid BranchElement))
    → map face (next_level which page_size pages) ≡ map top_face (branch_cut which page_size face_size (map face pages))
next_faces which page_size pages =
    grind (arith, over_faces branch_page_view page_size (branch_cut which page_size size_of pages), map_branches face which page_size face_size pages)

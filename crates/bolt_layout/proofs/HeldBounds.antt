-- How many items are held at one time, at the most: four page sizes for each bucket of a path, and never more than the pages have bytes.
use Rattle.std.proofs.Common.{◌≡◌, ◌∙◌, ℕ, suc, ◌+◌, ◌*◌, ◌/◌, ◌^◌, ◌<◌, ◌≤◌, Bool, List, [], ◌∷◌, ◌++◌, length, map, flat_map, max, refl, sym, ap}
use Rattle.std.proofs.Common.{subst, inl, inr, arith, sum_by}
use Rattle.bolt_lemmas.proofs.Exports.{all_split}
use Rattle.bolt_layout.proofs.Words.{AllByRecursion, branch_cut, branch_page_view, BranchElement, cases_lt, cut_of, is_inline, IsDivided, IsPageRun}
use Rattle.bolt_layout.proofs.Words.{IsPageSize, IsStorable, items_of, Laid, Layout, layout_of, leaf_level, leaf_page_view, LeafElement}
use Rattle.bolt_layout.proofs.Words.{length-append, length-map, listing_below, listing_of, Member, next_level, numbers_of, page_over, PageView, Path}
use Rattle.bolt_layout.proofs.Words.{root_of, root_over, size_bounds, size_of, stored_bucket, sum_by-cons, top_in, Tree, with_bucket, with_value}
use Rattle.bolt_layout.proofs.{Cutting.branches_divide, Cutting.branches_halve, Cutting.cut_divides}
use Rattle.bolt_layout.proofs.{OverRows.pages_count, OverRows.runs_numbers, OverRows.runs_some, Soundness.layout_length}
use Rattle.bolt_layout.specs.{Held.longest, Held.most_held, Laid.held_in}

-- An item takes 16 bytes at least. While the pages below it are written, `most` items are held, and no more than these pages have bytes.
record IsHeldBelow {E : Type 0} (page_size most : ℕ) (item : Laid E) : Type 0 where
  sized : 16 ≤ item.size
  few : item.held ≤ most
  small : item.held ≤ item.numbers * page_size

-- ---- a run

run_few : {E : Type 0} (page_size most : ℕ) (run : List (Laid E)) → AllByRecursion (IsHeldBelow page_size most) run → held_in run ≤ length run + most
run_few page_size most [] all = omega arith
run_few page_size most (item ∷ run) all = let ih = run_few page_size most run all.1 in let one = all.0.few in omega arith

run_small : {E : Type 0} (page_size most : ℕ) (run : List (Laid E)) → AllByRecursion (IsHeldBelow page_size most) run
    → held_in run ≤ numbers_of run * page_size + length run
run_small page_size most [] all = omega arith
run_small page_size most (item ∷ run) all = omega (arith, run_small page_size most run all.1)

run_sized : {E : Type 0} (page_size most : ℕ) (run : List (Laid E)) → AllByRecursion (IsHeldBelow page_size most) run
    → 16 * length run ≤ sum_by size_of run
run_sized page_size most [] all = omega arith
run_sized page_size most (item ∷ run) all = omega (arith, sum_by-cons, run_sized page_size most run all.1)

-- a page has few items
thin : {E : Type 0} (page_size wide extra most : ℕ) (run : List (Laid E)) → 16 * wide ≤ page_size → extra ≤ 1
    → IsPageRun page_size wide extra size_of run → AllByRecursion (IsHeldBelow page_size most) run
    → 16 * length run ≤ page_size
thin {E = E} page_size wide extra most run room one is all =
    elim (cases_lt wide (length run)) [
      | inl many ↦
          (let but = is.fits many in
          let both = all_split (IsHeldBelow page_size most) but.front but.last (subst (AllByRecursion (IsHeldBelow page_size most)) but.whole all) in
          let sized = run_sized page_size most but.front both.0 in
          let long = ap (λ (xs : List (Laid E)). length xs) but.whole ∙ length-append but.front but.last in
          let few = but.few in
          let fits = but.fits in omega arith)
      | inr few ↦ omega arith
    ]

-- so the page over a run adds a sixteenth of the page size
over_held : {E : Type 0} (view : ℕ → List E → PageView) (page_size most : ℕ) (run : List (Laid E)) → 16 * length run ≤ page_size
    → AllByRecursion (IsHeldBelow page_size most) run
    → IsHeldBelow page_size (most + page_size / 16) (page_over view page_size run)
over_held view page_size most run room all = grind (arith, run_few, run_small)

-- ---- a level

level_held : {E : Type 0} (view : ℕ → List E → PageView) (page_size wide extra most : ℕ) (runs : List (List (Laid E))) (items : List (Laid E))
    → 16 * wide ≤ page_size → extra ≤ 1
    → flat_map (λ run. run) runs ≡ items → AllByRecursion (IsPageRun page_size wide extra size_of) runs → AllByRecursion (IsHeldBelow page_size most) items
    → AllByRecursion (IsHeldBelow page_size (most + page_size / 16)) (map (page_over view page_size) runs)
level_held view page_size wide extra most [] items room one whole each all = tt
level_held view page_size wide extra most (run ∷ runs) items room one whole each all =
    let both = all_split (IsHeldBelow page_size most) run (flat_map (λ run. run) runs) (subst (AllByRecursion (IsHeldBelow page_size most)) (sym whole) all) in
    let few = thin page_size wide extra most run room one each.0 both.0 in
    (over_held view page_size most run few both.0, level_held view page_size wide extra most runs (flat_map (λ run. run) runs) room one refl each.1 both.1)

weaker : {E : Type 0} (page_size most more : ℕ) (item : Laid E) → most ≤ more → IsHeldBelow page_size most item → IsHeldBelow page_size more item
weaker page_size most more item h is = let few = is.few in record { sized = is.sized; few = omega arith; small = is.small }

-- half the pages, one level more
top_held : (which : Layout) (page_size steps k most : ℕ) (level : List (Laid BranchElement)) → 64 ≤ page_size
    → AllByRecursion (IsHeldBelow page_size most) level → 1 ≤ length level → length level ≤ suc steps → length level ≤ 2 ^ k
    → IsHeldBelow page_size (most + k * (page_size / 16)) (top_in which steps page_size level)
top_held which page_size (suc steps) (suc k) most (page ∷ other ∷ level) low all some fuel few =
    let pages : List (Laid BranchElement) = page ∷ other ∷ level in
    let runs : List (List (Laid BranchElement)) = branch_cut which page_size size_of pages in
    let divided : IsDivided page_size 3 1 size_of pages runs = branches_divide which page_size size_of pages in
    let half : 2 * length runs ≤ suc (length pages) = branches_halve which page_size size_of pages in
    let up = level_held branch_page_view page_size 3 1 most runs pages (omega arith) (omega arith) divided.whole divided.each all in
    let any = runs_some runs pages divided.whole (omega arith) in
    let same = length-map runs (page_over branch_page_view page_size) in
    let ih = top_held which page_size steps k (most + page_size / 16) (next_level which page_size pages) low up (omega arith) (omega arith) (omega arith) in
    weaker page_size _ _ (top_in which (suc steps) page_size pages) (omega arith) ih
top_held which page_size steps k most level low all some fuel few = grind (arith, weaker)

top_numbers : (which : Layout) (page_size steps : ℕ) (level : List (Laid BranchElement)) → length level ≤ suc steps
    → numbers_of level ≤ (top_in which steps page_size level).numbers
top_numbers which page_size (suc steps) (page ∷ other ∷ level) fuel =
    let pages : List (Laid BranchElement) = page ∷ other ∷ level in
    let runs : List (List (Laid BranchElement)) = branch_cut which page_size size_of pages in
    let divided : IsDivided page_size 3 1 size_of pages runs = branches_divide which page_size size_of pages in
    let half : 2 * length runs ≤ suc (length pages) = branches_halve which page_size size_of pages in
    let same = length-map runs (page_over branch_page_view page_size) in
    let ih = top_numbers which page_size steps (next_level which page_size pages) (omega arith) in
    grind (arith, runs_numbers)
top_numbers which page_size steps level fuel = grind arith

-- ---- a bucket

pub level_numbers : (which : Layout) (page_size : ℕ) (items : List (Laid LeafElement))
    → numbers_of (leaf_level page_size items) ≤ (root_over which page_size items).numbers
unfolding root_over
level_numbers which page_size items = grind (arith, top_numbers)

items_numbers : (which : Layout) (page_size : ℕ) (items : List (Laid LeafElement)) → numbers_of items ≤ (root_over which page_size items).numbers
items_numbers which page_size items =
    let runs : List (List (Laid LeafElement)) = cut_of page_size 1 size_of items in
    let divided : IsDivided page_size 1 0 size_of items runs = cut_divides page_size 1 1 0 size_of items (omega arith) (omega arith) (omega arith) in
    grind (arith, runs_numbers, level_numbers)

-- at most 64 levels, each with a sixteenth of the page size
root_held : (which : Layout) (page_size most : ℕ) (items : List (Laid LeafElement)) → 64 ≤ page_size
    → AllByRecursion (IsHeldBelow page_size most) items → (root_over which page_size items).numbers ≤ 2 ^ 63
    → IsHeldBelow page_size (most + 4 * page_size) (root_over which page_size items)
unfolding root_over
root_held which page_size most [] low all room =
    weaker page_size (most + page_size / 16) _ (root_over which page_size []) (omega arith) (over_held leaf_page_view page_size most [] (omega arith) tt)
root_held which page_size most (item ∷ items) low all room =
    let runs : List (List (Laid LeafElement)) = cut_of page_size 1 size_of (item ∷ items) in
    let level : List (Laid BranchElement) = leaf_level page_size (item ∷ items) in
    let divided : IsDivided page_size 1 0 size_of (item ∷ items) runs =
    cut_divides page_size 1 1 0 size_of (item ∷ items) (omega arith) (omega arith) (omega arith) in
    let leaves = level_held leaf_page_view page_size 1 0 most runs (item ∷ items) (omega arith) (omega arith) divided.whole divided.each all in
    let any = runs_some runs (item ∷ items) divided.whole (omega arith) in
    let same = length-map runs (page_over leaf_page_view page_size) in
    let count = pages_count leaf_page_view page_size runs in
    let numbers = level_numbers which page_size (item ∷ items) in
    let top = top_held which page_size (length level) 63 (most + page_size / 16) level low leaves (omega arith) (omega arith) (omega arith) in
    weaker page_size _ _ (root_over which page_size (item ∷ items)) (omega arith) top

-- ---- a tree

longest-append : (a b : List Member) → longest (a ++ b) ≡ max (longest a) (longest b)
longest-append [] b = omega arith
longest-append (member ∷ a) b = let ih = longest-append a b in omega arith

stored_held : (which : Layout) (page_size most : ℕ) (key : List ℕ) (sequence : ℕ) (inside : Tree) (items : List (Laid LeafElement))
    (after : List (Laid LeafElement)) (b : Bool)
    → is_inline page_size inside items ≡ b
    → numbers_of (stored_bucket which page_size key sequence inside items ∷ after) ≤ 2 ^ 63
    → ((root_over which page_size items).numbers ≤ 2 ^ 63 → IsHeldBelow page_size most (root_over which page_size items))
    → IsHeldBelow page_size most (stored_bucket which page_size key sequence inside items) × (numbers_of after ≤ 2 ^ 63)
stored_held which page_size most key sequence inside items after b e room root = grind arith

-- each item, where no path below is longer than so many parts more
tree_held : (which : Layout) (page_size deep : ℕ) (path : Path) (tree : Tree) → 64 ≤ page_size → numbers_of (items_of which page_size tree) ≤ 2 ^ 63
    → longest (listing_below path tree) ≤ length path + deep
    → AllByRecursion (IsHeldBelow page_size (4 * page_size * deep)) (items_of which page_size tree)
tree_held which page_size deep path (with_value key value after) low room short =
    grind (arith, tree_held which page_size deep path after low (omega arith) (omega arith))
tree_held which page_size (suc deep) path (with_bucket key sequence inside after) low room short =
    let l = length-append path (key ∷ []) in
    let both = longest-append (listing_below (path ++ key ∷ []) inside) (listing_below path after) in
    let items : List (Laid LeafElement) = items_of which page_size inside in
    let root : (root_over which page_size items).numbers ≤ 2 ^ 63 → IsHeldBelow page_size (4 * page_size * suc deep) (root_over which page_size items) =
    λ within. (
    let numbers = items_numbers which page_size items in
    let below = tree_held which page_size deep (path ++ key ∷ []) inside low (omega arith) (omega arith) in
    weaker page_size _ _ (root_over which page_size items) (omega arith) (root_held which page_size (4 * page_size * deep) items low below within)
    ) in
    let (one, rest) =
    stored_held which page_size (4 * page_size * suc deep) key sequence inside items (items_of which page_size after) (is_inline page_size inside items)
    refl room root in
    (one, tree_held which page_size (suc deep) path after low rest (omega arith))
tree_held which page_size deep path tree low room short = grind (arith, length-append)

whole_held : (which : Layout) (page_size : ℕ) (tree : Tree) → 64 ≤ page_size → (root_of which page_size tree).numbers ≤ 2 ^ 63
    → IsHeldBelow page_size (most_held page_size (listing_of tree)) (root_of which page_size tree)
unfolding root_of
whole_held which page_size tree low room =
    let items : List (Laid LeafElement) = items_of which page_size tree in
    let numbers = items_numbers which page_size items in
    let deep : ℕ = longest (listing_of tree) in
    let below = tree_held which page_size deep [] tree low (omega arith) (omega arith) in
    weaker page_size _ _ (root_over which page_size items) (omega arith) (root_held which page_size (4 * page_size * deep) items low below room)

pub held_bounded : (which : Layout) (page_size : ℕ) (tree : Tree) → 64 ≤ page_size → (root_of which page_size tree).numbers ≤ 2 ^ 63
    → (root_of which page_size tree).held ≤ most_held page_size (listing_of tree)
held_bounded which page_size tree low room = (whole_held which page_size tree low room).few

pub held_small : (which : Layout) (page_size : ℕ) (tree : Tree) → 64 ≤ page_size → (root_of which page_size tree).numbers ≤ 2 ^ 63
    → (root_of which page_size tree).held ≤ (root_of which page_size tree).numbers * page_size
held_small which page_size tree low room = (whole_held which page_size tree low room).small

-- of a layout of fewer than 2^63 bytes
pub layout_small : (which : Layout) (page_size : ℕ) (tree : Tree) (sequence : ℕ) → IsPageSize page_size → IsStorable tree
    → length (layout_of which page_size tree sequence) < 2 ^ 63
    → (64 ≤ page_size) × ((root_of which page_size tree).numbers ≤ 2 ^ 63)
    × ((root_of which page_size tree).numbers * page_size ≤ length (layout_of which page_size tree sequence))
layout_small which page_size tree sequence size storable short = grind (arith, layout_length, size_bounds)

-- No branch page of a balanced layout has fewer than two elements.
use Rattle.std.proofs.Common.{◌≡◌, ℕ, suc, ◌+◌, ◌≤◌, List, [], ◌∷◌, length, map, flat_map, refl, sym, ap, subst, arith}
use Rattle.bolt_lemmas.proofs.Exports.{all_append, all_split}
use Rattle.bolt_layout.proofs.Words.{AllByRecursion, Balanced, branch_cut, branch_page_view, BranchElement, cut_of, elements_of, end, items_of}
use Rattle.bolt_layout.proofs.Words.{join_last, Laid, layout_pages, leaf_level, leaf_page_view, LeafElement, length-append, next_level, page_over}
use Rattle.bolt_layout.proofs.Words.{pages_of, root_of, root_over, size_of, top_in, Tree, with_bucket, with_value}
use Rattle.bolt_layout.proofs.{Cutting.branches_divide, Cutting.cut_divides, OneCut.AreRuns}
use Rattle.bolt_layout.proofs.{OneCut.cut_runs, OneCut.cut_whole, OneCut.first_long}
use Rattle.bolt_format.specs.declared.header.Kind.TheVariants as kind
use Rattle.bolt_layout.specs.Layout.{HasTwoIfBranch, first_page}

abbrev HasItems : {X : Type 0} → List X → Type 0
HasItems run = 2 ≤ length run

-- A run that another one follows has two items, so the joined cut of a row of two or more has only such runs.
joined_long : {X : Type 0} (page_size : ℕ) (size : X → ℕ) (runs : List (List X)) → AreRuns page_size 2 size runs
    → 2 ≤ length (flat_map (λ run. run) runs) → AllByRecursion HasItems (join_last runs)
joined_long page_size size [] are two = tt
joined_long page_size size (run ∷ []) are two = (omega (arith, length-append run []), tt)
joined_long page_size size (run ∷ next ∷ []) are two = grind (arith, length-append)
joined_long {X = X} page_size size (run ∷ next ∷ more ∷ runs) are two =
    let second = first_long page_size 2 size next more runs are.2 in
    let l = length-append next (flat_map (λ (r : List X). r) (more ∷ runs)) in
    (first_long page_size 2 size run next (more ∷ runs) are, joined_long page_size size (next ∷ more ∷ runs) are.2 (omega arith))

runs_long : {X : Type 0} (page_size : ℕ) (size : X → ℕ) (items : List X) → 2 ≤ length items
    → AllByRecursion HasItems (branch_cut Balanced page_size size items)
runs_long page_size size items two = grind (arith, cut_whole, joined_long, cut_runs)

-- the pages of an item, from any number on
abbrev HasTwos : {E : Type 0} → Laid E → Type 0
HasTwos item = (number : ℕ) → AllByRecursion HasTwoIfBranch (item.pages number)

row_twos : {E : Type 0} (items : List (Laid E)) → AllByRecursion HasTwos items → (number : ℕ) → AllByRecursion HasTwoIfBranch (pages_of items number)
row_twos [] all number = tt
row_twos (item ∷ items) all number = grind (arith, all_append, row_twos items all.1 (number + item.numbers))

no_branch : kind.Leaf ≡ kind.Branch → ⊥
no_branch e = cc

leaf_twos : (page_size : ℕ) (run : List (Laid LeafElement)) → AllByRecursion HasTwos run → HasTwos (page_over leaf_page_view page_size run)
leaf_twos page_size run all number = all_append HasTwoIfBranch (pages_of run number) _ (row_twos run all number) (λ branch. absurd (no_branch branch), tt)

count_elements : (run : List (Laid BranchElement)) (number : ℕ) → length (elements_of run number) ≡ length run
count_elements [] number = refl
count_elements (item ∷ run) number = ap suc (count_elements run (number + item.numbers))

branch_twos : (page_size : ℕ) (run : List (Laid BranchElement)) → HasItems run → AllByRecursion HasTwos run
    → HasTwos (page_over branch_page_view page_size run)
branch_twos page_size run two all number = grind (arith, count_elements, all_append, row_twos)

-- Leaves,
leaves_twos : (page_size : ℕ) (runs : List (List (Laid LeafElement))) → AllByRecursion HasTwos (flat_map (λ run. run) runs)
    → AllByRecursion HasTwos (map (page_over leaf_page_view page_size) runs)
leaves_twos page_size [] all = tt
leaves_twos page_size (run ∷ runs) all =
    let both = all_split HasTwos run (flat_map (λ r. r) runs) all in
    (leaf_twos page_size run both.0, leaves_twos page_size runs both.1)

-- the branches over a level,
level_twos : (page_size : ℕ) (runs : List (List (Laid BranchElement))) → AllByRecursion HasItems runs
    → AllByRecursion HasTwos (flat_map (λ run. run) runs)
    → AllByRecursion HasTwos (map (page_over branch_page_view page_size) runs)
level_twos page_size [] two all = tt
level_twos page_size (run ∷ runs) two all =
    let both = all_split HasTwos run (flat_map (λ r. r) runs) all in
    (branch_twos page_size run two.0 both.0, level_twos page_size runs two.1 both.1)

top_twos : (steps page_size : ℕ) (level : List (Laid BranchElement)) → AllByRecursion HasTwos level → HasTwos (top_in Balanced steps page_size level)
top_twos (suc steps) page_size (page ∷ other ∷ level) all =
    let pages : List (Laid BranchElement) = page ∷ other ∷ level in
    let runs : List (List (Laid BranchElement)) = branch_cut Balanced page_size size_of pages in
    let divided = branches_divide Balanced page_size size_of pages in
    let below = subst (AllByRecursion HasTwos) (sym divided.whole) all in
    top_twos steps page_size (next_level Balanced page_size pages) (level_twos page_size runs (runs_long page_size size_of pages (omega arith)) below)
top_twos steps page_size level all = grind (arith, leaf_twos)

-- a bucket,
root_twos : (page_size : ℕ) (items : List (Laid LeafElement)) → AllByRecursion HasTwos items → HasTwos (root_over Balanced page_size items)
unfolding root_over
root_twos page_size items all =
    let divided = cut_divides page_size 1 1 0 size_of items (omega arith) (omega arith) (omega arith) in
    let below = subst (AllByRecursion HasTwos) (sym divided.whole) all in
    top_twos (length (leaf_level page_size items)) page_size (leaf_level page_size items) (leaves_twos page_size (cut_of page_size 1 size_of items) below)

-- and all buckets.
tree_twos : (page_size : ℕ) (tree : Tree) → AllByRecursion HasTwos (items_of Balanced page_size tree)
tree_twos page_size end = tt
tree_twos page_size (with_value key value after) = (λ number. tt, tree_twos page_size after)
tree_twos page_size (with_bucket key sequence inside after) = grind (arith, tree_twos page_size inside, tree_twos page_size after, root_twos)

pub layout_twos : (page_size : ℕ) (tree : Tree) → AllByRecursion HasTwoIfBranch (layout_pages Balanced page_size tree)
unfolding root_of
layout_twos page_size tree = root_twos page_size (items_of Balanced page_size tree) (tree_twos page_size tree) first_page

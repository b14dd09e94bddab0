-- The branches of a bucket in the plain layout take at most 27 times the page numbers of its leaves.
-- A level of branches takes no more than its pages and the weights of the level below. The weights don't rise from level to level, and the
-- number of pages halves. A page weighs less than 2^21: so the weights of 21 levels are counted in full, and above these the pages alone.
use Rattle.std.proofs.Common.{◌≡◌, ℕ, zero, suc, ◌+◌, ◌-◌, ◌*◌, ◌/◌, ◌<◌, ◌≤◌, List, [], ◌∷◌, length, map, flat_map, sym, ap, subst, arith}
use Rattle.bolt_lemmas.proofs.Exports.{all_split, all_weaker}
use Rattle.bolt_layout.proofs.Words.{AllByRecursion, branch_page_view, BranchElement, cut_of, div-lt_iff_lt-mul, IsDivided, IsPageRun, Laid}
use Rattle.bolt_layout.proofs.Words.{leaf_level, leaf_page_view, LeafElement, length-map, mul-le-mul_left, mul-le-mul_right, next_level, numbers_of}
use Rattle.bolt_layout.proofs.Words.{page_over, PageView, Plain, root_over, size_of, top_in}
use Rattle.bolt_layout.proofs.{Cutting.branches_divide, Cutting.branches_halve, Cutting.cut_divides, LastItem.HasItem}
use Rattle.bolt_layout.proofs.{OverRows.HasShortKey, OverRows.runs_some}
use Rattle.bolt_layout.proofs.Weights.{HasKeyRoom, IsLight, level_light, level_numbers_are, level_weights, own_numbers, own_weight, own_weights}
use Rattle.bolt_layout.proofs.Weights.{weight, weights, weights_count, weights_light}

-- twice as much, so many times
abbrev doubled : (times n : ℕ) → ℕ
doubled zero n = n
doubled (suc times) n = doubled times (2 * n)

-- the runs of a divided row have items
runs_have : {X : Type 0} (page_size wide extra : ℕ) (size : X → ℕ) (runs : List (List X)) → AllByRecursion (IsPageRun page_size wide extra size) runs
    → AllByRecursion HasItem runs
runs_have page_size wide extra size runs each = all_weaker (IsPageRun page_size wide extra size) HasItem (λ run is. is.some) runs each

-- a page's item has its header and its key
rooms_kept : {E : Type 0} (view : ℕ → List E → PageView) (page_size : ℕ) (runs : List (List (Laid E)))
    → AllByRecursion HasKeyRoom (map (page_over view page_size) runs)
rooms_kept view page_size [] = tt
rooms_kept view page_size (run ∷ runs) = (omega arith, rooms_kept view page_size runs)

-- What the branches over a level take, by the number of its pages but one, and by its weights.
abbrev branches_most : (times n more weight : ℕ) → ℕ
branches_most times n more weight = times * weight + (2 * more + 4 * (n * more))

-- half the pages, and no more weight: one level less, at twice the weight
level_less : (times n more fewer lighter weight own : ℕ) → 2 * fewer ≤ more → lighter ≤ weight → own ≤ more + weight
    → own + branches_most times (2 * n) fewer lighter ≤ branches_most (suc times) n more weight
level_less times n more fewer lighter weight own half less small = omega (arith, mul-le-mul_left times less, mul-le-mul_left n half)

-- and where each page weighs so much at the most, the pages alone
level_last : (n more fewer lighter weight own : ℕ) → 2 * fewer ≤ more → 1 ≤ more → weight ≤ n * suc more → own ≤ more + weight
    → own + branches_most 0 n fewer lighter ≤ branches_most 0 n more weight
level_last n more fewer lighter weight own half some light small = omega (arith, mul-le-mul_left n some, mul-le-mul_left n half)

-- A level of branches over a level of pages.
record IsNext (page_size most more : ℕ) (pages next : List (Laid BranchElement)) : Type 0 where
  own : ℕ
  fewer : ℕ
  numbers : numbers_of next ≡ numbers_of pages + own
  count : length next ≡ suc fewer
  half : 2 * fewer ≤ more
  small : own ≤ more + weights page_size pages
  less : weights page_size next ≤ weights page_size pages
  rooms : AllByRecursion HasKeyRoom next
  light : AllByRecursion (IsLight page_size most) next

next_is : (page_size most more : ℕ) (pages : List (Laid BranchElement)) → 16 ≤ page_size → AllByRecursion HasKeyRoom pages
    → AllByRecursion (IsLight page_size most) pages
    → length pages ≡ suc more → 1 ≤ more → IsNext page_size most more pages (next_level Plain page_size pages)
next_is page_size most more pages low rooms light count some =
    let runs : List (List (Laid BranchElement)) = cut_of page_size 2 size_of pages in
    let divided : IsDivided page_size 3 1 size_of pages runs = branches_divide Plain page_size size_of pages in
    let half : 2 * length runs ≤ suc (length pages) = branches_halve Plain page_size size_of pages in
    let any = runs_some runs pages divided.whole (omega arith) in
    let same = length-map runs (page_over branch_page_view page_size) in
    let have = runs_have page_size 3 1 size_of runs divided.each in
    let rooms2 = subst (AllByRecursion HasKeyRoom) (sym divided.whole) rooms in
    let light2 = subst (AllByRecursion (IsLight page_size most)) (sym divided.whole) light in
    let numbers = ap (λ (ps : List (Laid BranchElement)). numbers_of ps) divided.whole in
    let weigh = ap (λ (ps : List (Laid BranchElement)). weights page_size ps) divided.whole in
    let are = level_numbers_are branch_page_view page_size runs in
    let own = own_weight page_size runs low in
    let less = level_weights branch_page_view page_size runs low have rooms2 in
    record {
      own = own_numbers page_size runs;
      fewer = length runs - 1;
      numbers = omega arith;
      count = omega arith;
      half = omega arith;
      small = omega arith;
      less = omega arith;
      rooms = rooms_kept branch_page_view page_size runs;
      light = level_light branch_page_view page_size most runs low have rooms2 light2;
    }

-- So the top of a level takes no more than the level and that.
top_most : (page_size most steps times n more : ℕ) (level : List (Laid BranchElement)) → 16 ≤ page_size → AllByRecursion HasKeyRoom level
    → AllByRecursion (IsLight page_size most) level
    → most ≤ doubled times n → length level ≡ suc more
    → (top_in Plain steps page_size level).numbers ≤ numbers_of level + branches_most times n more (weights page_size level)
top_most page_size most (suc steps) zero n more (page ∷ other ∷ level) low rooms light enough count =
    let pages : List (Laid BranchElement) = page ∷ other ∷ level in
    let is : IsNext page_size most more pages (next_level Plain page_size pages) = next_is page_size most more pages low rooms light count (omega arith) in
    let ih = top_most page_size most steps zero n is.fewer (next_level Plain page_size pages) low is.rooms is.light enough is.count in
    let heavy = weights_light page_size most pages light in
    let all : most * length pages ≤ n * length pages = mul-le-mul_right (length pages) enough in
    let all2 : n * length pages ≡ n * suc more = ap (λ (x : ℕ). n * x) count in
    let last =
    level_last n more is.fewer (weights page_size (next_level Plain page_size pages)) (weights page_size pages) is.own is.half (omega arith)
    (omega arith) is.small in
    omega arith
top_most page_size most (suc steps) (suc times) n more (page ∷ other ∷ level) low rooms light enough count =
    let pages : List (Laid BranchElement) = page ∷ other ∷ level in
    let is : IsNext page_size most more pages (next_level Plain page_size pages) = next_is page_size most more pages low rooms light count (omega arith) in
    let ih = top_most page_size most steps times (2 * n) is.fewer (next_level Plain page_size pages) low is.rooms is.light enough is.count in
    let less =
    level_less times n more is.fewer (weights page_size (next_level Plain page_size pages)) (weights page_size pages) is.own is.half is.less is.small in
    omega arith
top_most page_size most steps times n more level low rooms light enough count = grind arith

-- Leaves weigh no more than keys of 2^30 bytes do at the least page size.
leaves_light : (page_size : ℕ) (runs : List (List (Laid LeafElement))) → 1024 ≤ page_size → AllByRecursion HasItem runs
    → AllByRecursion HasShortKey (flat_map (λ run. run) runs)
    → AllByRecursion (IsLight page_size 1048577) (map (page_over leaf_page_view page_size) runs)
leaves_light page_size ((first ∷ run) ∷ runs) low some short =
    let both = all_split HasShortKey (first ∷ run) (flat_map (λ run. run) runs) short in
    let below : (16 + length first.key) / page_size < 1048577 =
    (div-lt_iff_lt-mul {k = page_size} {x = 16 + length first.key} {y = 1048577} (omega arith)).1 (omega arith) in
    (omega arith, leaves_light page_size runs low some.1 both.1)
leaves_light page_size runs low some short = grind arith

-- The leaves take the numbers below their items and their own,
pub leaves_numbers : (page_size : ℕ) (items : List (Laid LeafElement))
    → numbers_of (leaf_level page_size items) ≡ numbers_of items + own_numbers page_size (cut_of page_size 1 size_of items)
leaves_numbers page_size items =
    let runs = cut_of page_size 1 size_of items in
    let divided : IsDivided page_size 1 0 size_of items runs = cut_divides page_size 1 1 0 size_of items (omega arith) (omega arith) (omega arith) in
    grind (arith, level_numbers_are)

-- and the root page of the bucket not many more.
pub plain_most : (page_size : ℕ) (items : List (Laid LeafElement)) → 1024 ≤ page_size → AllByRecursion HasKeyRoom items
    → AllByRecursion HasShortKey items → 1 ≤ length items
    → (root_over Plain page_size items).numbers ≤ numbers_of items + 28 * own_numbers page_size (cut_of page_size 1 size_of items)
unfolding root_over
plain_most page_size items low rooms short some =
    let runs : List (List (Laid LeafElement)) = cut_of page_size 1 size_of items in
    let level : List (Laid BranchElement) = leaf_level page_size items in
    let divided : IsDivided page_size 1 0 size_of items runs = cut_divides page_size 1 1 0 size_of items (omega arith) (omega arith) (omega arith) in
    let have = runs_have page_size 1 0 size_of runs divided.each in
    let rooms2 = subst (AllByRecursion HasKeyRoom) (sym divided.whole) rooms in
    let short2 = subst (AllByRecursion HasShortKey) (sym divided.whole) short in
    let any = runs_some runs items divided.whole some in
    let same = length-map runs (page_over leaf_page_view page_size) in
    let light = leaves_light page_size runs low have short2 in
    let top =
    top_most page_size 1048577 (length level) 21 1 (length level - 1) level (omega arith) (rooms_kept leaf_page_view page_size runs) light (omega arith)
    (omega arith) in
    grind (arith, leaves_numbers, own_weights, weights_count)

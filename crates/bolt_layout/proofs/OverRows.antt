-- The root page over a row of leaf items: a leaf page, or a branch page over pages that stand over pieces of the row.
use Rattle.std.proofs.lemmas.Grind.{common_steps}
use Rattle.std.proofs.Common.{◌≡◌, ◌∙◌, ℕ, zero, suc, ◌+◌, ◌*◌, ◌^◌, ◌<◌, ◌≤◌, List, [], ◌∷◌, ◌++◌, length, map, flat_map, refl, sym, ap, subst}
use Rattle.std.proofs.Common.{arith, append_assoc, sum_by}
use Rattle.bolt_lemmas.proofs.Exports.{all_split}
use Rattle.bolt_layout.proofs.Words.{AllByRecursion, append-nil, branch_cut, branch_page_view, BranchElement, cut_of, IsDivided, IsPageRun, Laid}
use Rattle.bolt_layout.proofs.Words.{Layout, leaf_level, leaf_page_view, LeafElement, length-map, max_items, mul-le-mul_right, next_level, numbers_of}
use Rattle.bolt_layout.proofs.Words.{page_over, PageView, root_over, run_size, size_of, sum_by-append, sum_by-cons, top_in}
use Rattle.bolt_layout.proofs.{Cutting.branches_divide, Cutting.branches_halve, Cutting.cut_divides}
use Rattle.bolt_layout.specs.Divisions.{FitsBut}

abbrev pub Over : Type 1
Over = Laid BranchElement → List (Laid LeafElement) → Type 0

-- pages over one piece of the row after another, none of them empty
abbrev pub Pieces : Over → List (Laid BranchElement) → List (Laid LeafElement) → Type 0
Pieces over [] leaves = leaves ≡ []
Pieces over (page ∷ pages) leaves = (first : Laid LeafElement) × (front back : List (Laid LeafElement)) × (leaves ≡ first ∷ (front ++ back))
    × over page (first ∷ front) × Pieces over pages back

-- a run that has room on a page
pub record IsRun {E : Type 0} (run : List (Laid E)) : Type 0 where
  pub few : length run ≤ suc max_items
  pub small : run_size size_of run < 0x100000000

abbrev pub IsOver : (page_size height : ℕ) → Over
IsOver page_size zero page leaves = (page ≡ page_over leaf_page_view page_size leaves) × IsRun leaves
IsOver page_size (suc height) page leaves =
    (first : Laid BranchElement) × (kids : List (Laid BranchElement)) × (page ≡ page_over branch_page_view page_size (first ∷ kids))
    × IsRun (first ∷ kids) × Pieces (IsOver page_size height) (first ∷ kids) leaves

-- Pieces of a list, and the first of them.
pub pieces_split : (over : Over) (xs ys : List (Laid BranchElement)) (leaves : List (Laid LeafElement)) → Pieces over (xs ++ ys) leaves
    → (front back : List (Laid LeafElement)) × (leaves ≡ front ++ back) × Pieces over xs front × Pieces over ys back
pieces_split over [] ys leaves h = ([], leaves, refl, refl, h)
pieces_split over (x ∷ xs) ys leaves h =
    let (first, one, rest, e, o, more) = h in
    let (front, back, e2, a, b) = pieces_split over xs ys rest more in (
      first ∷ (one ++ front),
      back,
      e ∙ ap (λ (r : List (Laid LeafElement)). first ∷ r) (ap (λ (r : List (Laid LeafElement)). one ++ r) e2 ∙ sym (append_assoc one front back)),
      (first, one, front, refl, o, a),
      b,
    )

pub over_key : (page_size height : ℕ) (page : Laid BranchElement) (x : Laid LeafElement) (leaves : List (Laid LeafElement))
    → IsOver page_size height page (x ∷ leaves) → page.key ≡ x.key
over_key page_size zero page x leaves (e, run) = ap (λ (p : Laid BranchElement). p.key) e
over_key page_size (suc height) page x leaves h =
    let (kid, kids, e, run, pieces) = h in
    let (first, front, back, e2, o, more) = pieces in
    let same : x ≡ first = cc in
    ap (λ (p : Laid BranchElement). p.key) e ∙ (over_key page_size height kid first front o ∙ ap (λ (i : Laid LeafElement). i.key) (sym same))

pub over_size : (page_size height : ℕ) (page : Laid BranchElement) (leaves : List (Laid LeafElement)) → IsOver page_size height page leaves
    → page.size ≡ 16 + length page.key
over_size page_size height page leaves h = grind arith

-- keys that the format allows
abbrev pub HasShortKey : Laid LeafElement → Type 0
HasShortKey item = length item.key ≤ 0x40000000

abbrev pub IsAtMost : {E : Type 0} → ℕ → Laid E → Type 0
IsAtMost bound item = item.size ≤ bound

pieces_small : (page_size height : ℕ) (pages : List (Laid BranchElement)) (leaves : List (Laid LeafElement))
    → Pieces (IsOver page_size height) pages leaves
    → AllByRecursion HasShortKey leaves → AllByRecursion (IsAtMost 0x40000010) pages
pieces_small page_size height [] leaves h keys = tt
pieces_small page_size height (page ∷ pages) leaves h keys =
    let (first, front, back, e, o, more) = h in
    let keys2 : AllByRecursion HasShortKey (first ∷ (front ++ back)) = subst (AllByRecursion HasShortKey) e keys in
    let rest = (all_split HasShortKey front back keys2.1).1 in
    let same : length page.key ≡ length first.key = ap (λ (k : List ℕ). length k) (over_key page_size height page first front o) in
    let size = over_size page_size height page (first ∷ front) o in
    (omega arith, pieces_small page_size height pages back more rest)

sum_at_most : {E : Type 0} (bound : ℕ) (run : List (Laid E)) → AllByRecursion (IsAtMost bound) run → sum_by size_of run ≤ length run * bound
sum_at_most bound [] h = omega arith
sum_at_most bound (x ∷ run) h = omega (arith, sum_by-cons, sum_at_most bound run h.1)

-- A run that a page can hold, of items that are not too large, has room on its page.
run_fits : {E : Type 0} (page_size extra bound : ℕ) (run : List (Laid E)) → page_size + extra * bound < 0x100000000
    → FitsBut page_size extra size_of run
    → AllByRecursion (IsAtMost bound) run → run_size size_of run < 0x100000000
run_fits {E = E} page_size extra bound run small is sizes =
    let both = all_split (IsAtMost bound) is.front is.last (subst (AllByRecursion (IsAtMost bound)) is.whole sizes) in
    grind (arith, sum_by-append, sum_at_most, mul-le-mul_right)

run_of : {E : Type 0} (page_size wide extra bound : ℕ) (run : List (Laid E)) → extra ≤ 1 → page_size + extra * bound < 0x100000000
    → 16 + wide * bound < 0x100000000
    → IsPageRun page_size wide extra size_of run → AllByRecursion (IsAtMost bound) run → IsRun run
run_of page_size wide extra bound run one small room is sizes = grind (arith, run_fits, sum_at_most, mul-le-mul_right)

-- The leaf pages over a row of items that is divided.
pub leaves_over : (page_size : ℕ) (runs : List (List (Laid LeafElement))) (leaves : List (Laid LeafElement)) → page_size < 0x80000000
    → flat_map (λ run. run) runs ≡ leaves → AllByRecursion (IsPageRun page_size 1 0 size_of) runs → AllByRecursion (IsAtMost 0xFFFFFFEF) leaves
    → Pieces (IsOver page_size 0) (map (page_over leaf_page_view page_size) runs) leaves
leaves_over page_size ((first ∷ front) ∷ runs) leaves small whole each sizes =
    let back : List (Laid LeafElement) = flat_map (λ run. run) runs in
    let both = all_split (IsAtMost 0xFFFFFFEF) (first ∷ front) back (subst (AllByRecursion (IsAtMost 0xFFFFFFEF)) (sym whole) sizes) in
    let fits = run_of page_size 1 0 0xFFFFFFEF (first ∷ front) (omega arith) (omega arith) (omega arith) each.0 both.0 in
    (first, front, back, sym whole, (refl, fits), leaves_over page_size runs back small refl each.1 both.1)
leaves_over page_size runs leaves small whole each sizes = grind arith

pub pieces_first : (over : Over) (page : Laid BranchElement) (pages : List (Laid BranchElement)) (leaves : List (Laid LeafElement))
    → Pieces over (page ∷ pages) leaves
    → (first : Laid LeafElement) × (rest : List (Laid LeafElement)) × (leaves ≡ first ∷ rest)
pieces_first over page pages leaves h = let (first, front, back, e, o, more) = h in (first, front ++ back, e)

-- a branch page over pages
branch_over : (page_size height : ℕ) (first : Laid BranchElement) (run : List (Laid BranchElement)) (leaves : List (Laid LeafElement))
    (x : Laid LeafElement) (rest : List (Laid LeafElement))
    → IsRun (first ∷ run) → Pieces (IsOver page_size height) (first ∷ run) leaves → leaves ≡ x ∷ rest
    → IsOver page_size (suc height) (page_over branch_page_view page_size (first ∷ run)) (x ∷ rest)
branch_over page_size height first run leaves x rest fits pieces e = grind arith

-- The branch pages over a row of pages that is divided.
pub branches_over : (page_size height : ℕ) (runs : List (List (Laid BranchElement))) (kids : List (Laid BranchElement)) (leaves : List (Laid LeafElement))
    → page_size < 0x80000000 → flat_map (λ run. run) runs ≡ kids → AllByRecursion (IsPageRun page_size 3 1 size_of) runs
    → AllByRecursion (IsAtMost 0x40000010) kids → Pieces (IsOver page_size height) kids leaves
    → Pieces (IsOver page_size (suc height)) (map (page_over branch_page_view page_size) runs) leaves
branches_over page_size height ((first ∷ run) ∷ runs) kids leaves small whole each sizes pieces =
    let others : List (Laid BranchElement) = flat_map (λ run. run) runs in
    let pieces2 = subst (λ (r : List (Laid BranchElement)). Pieces (IsOver page_size height) r leaves) (sym whole) pieces in
    let both = all_split (IsAtMost 0x40000010) (first ∷ run) others (subst (AllByRecursion (IsAtMost 0x40000010)) (sym whole) sizes) in
    let (front, back, e, a, b) = pieces_split (IsOver page_size height) (first ∷ run) others leaves pieces2 in
    let (x, rest, e2) = pieces_first (IsOver page_size height) first run front a in
    let fits = run_of page_size 3 1 0x40000010 (first ∷ run) (omega arith) (omega arith) (omega arith) each.0 both.0 in
    let more = branches_over page_size height runs others back small refl each.1 both.1 b in
    (x, rest, back, e ∙ ap (λ (r : List (Laid LeafElement)). r ++ back) e2, branch_over page_size height first run front x rest fits a e2, more)
branches_over page_size height runs kids leaves small whole each sizes pieces = grind arith

-- No page number is lost from level to level, and each page has one.
pub numbers-append : {E : Type 0} (xs ys : List (Laid E)) → numbers_of (xs ++ ys) ≡ numbers_of xs + numbers_of ys
numbers-append [] ys = omega arith
numbers-append (x ∷ xs) ys = let ih = numbers-append xs ys in omega arith

pub pages_count : {E : Type 0} (view : ℕ → List E → PageView) (page_size : ℕ) (runs : List (List (Laid E)))
    → length runs ≤ numbers_of (map (page_over view page_size) runs)
pages_count view page_size [] = omega arith
pages_count view page_size (run ∷ runs) = let ih = pages_count view page_size runs in omega arith

-- a row that has items is divided into runs
pub runs_some : {E : Type 0} (runs : List (List (Laid E))) (items : List (Laid E)) → flat_map (λ run. run) runs ≡ items → 1 ≤ length items
    → 1 ≤ length runs
runs_some {E = E} [] items whole some = let e = ap (λ (xs : List (Laid E)). length xs) whole in omega arith
runs_some (run ∷ runs) items whole some = omega arith

pub runs_numbers : {E : Type 0} (view : ℕ → List E → PageView) (page_size : ℕ) (runs : List (List (Laid E)))
    → numbers_of (flat_map (λ run. run) runs) ≤ numbers_of (map (page_over view page_size) runs)
runs_numbers view page_size [] = omega arith
runs_numbers view page_size (run ∷ runs) = omega (arith, numbers-append, runs_numbers view page_size runs)

-- The page at the top, which stands over the whole row.
record IsTopOver (page_size height wide numbers : ℕ) (top : Laid BranchElement) (leaves : List (Laid LeafElement)) : Type 0 where
  levels : ℕ
  few : (k : ℕ) → wide ≤ 2 ^ k → levels ≤ height + k
  over : IsOver page_size levels top leaves
  more : numbers ≤ top.numbers

over_whole : (page_size height : ℕ) (page : Laid BranchElement) (leaves : List (Laid LeafElement))
    → Pieces (IsOver page_size height) (page ∷ []) leaves → IsOver page_size height page leaves
over_whole page_size height page leaves h = grind (arith, append-nil)

-- half the pages, one level more
fewer : (others next height levels : ℕ) → 2 * next ≤ suc (suc (suc others)) → ((k : ℕ) → next ≤ 2 ^ k → levels ≤ suc height + k)
    → (k : ℕ) → suc (suc others) ≤ 2 ^ k → levels ≤ height + k
fewer others next height levels half few zero most = absurd (omega arith)
fewer others next height levels half few (suc k) most = grind arith

top_fits : (which : Layout) (page_size steps height : ℕ) (level : List (Laid BranchElement)) (leaves : List (Laid LeafElement))
    → page_size < 0x80000000
    → AllByRecursion HasShortKey leaves → Pieces (IsOver page_size height) level leaves
    → 1 ≤ length level → length level ≤ suc steps → IsTopOver page_size height (length level) (numbers_of level) (top_in which steps page_size level) leaves
top_fits which page_size (suc steps) height (page ∷ other ∷ level) leaves small keys pieces some fuel =
    let pages : List (Laid BranchElement) = page ∷ other ∷ level in
    let runs : List (List (Laid BranchElement)) = branch_cut which page_size size_of pages in
    let divided : IsDivided page_size 3 1 size_of pages runs = branches_divide which page_size size_of pages in
    let half : 2 * length runs ≤ suc (length pages) = branches_halve which page_size size_of pages in
    let up =
    branches_over page_size height runs pages leaves small divided.whole divided.each (pieces_small page_size height pages leaves pieces keys) pieces in
    let any = runs_some runs pages divided.whole (omega arith) in
    let same = length-map runs (page_over branch_page_view page_size) in
    let ih = top_fits which page_size steps (suc height) (next_level which page_size pages) leaves small keys up (omega arith) (omega arith) in
    let numbers = runs_numbers branch_page_view page_size runs in
    let all = ap (λ (r : List (Laid BranchElement)). numbers_of r) divided.whole in
    let more = ih.more in
    record {
      levels = ih.levels;
      few = fewer (length level) (length runs) height ih.levels half (λ k most. ih.few k (omega arith));
      over = ih.over;
      more = omega arith;
    }
top_fits which page_size steps height level leaves small keys pieces some fuel = grind (arith, common_steps, over_whole)

-- The root page of a bucket's items stands over them, and where it takes no more than 2^63 page numbers, at most 64 pages from its leaves.
pub root_is_over : (which : Layout) (page_size : ℕ) (items : List (Laid LeafElement)) → page_size < 0x80000000 → AllByRecursion HasShortKey items
    → AllByRecursion (IsAtMost 0xFFFFFFEF) items
    → (height : ℕ) × ((root_over which page_size items).numbers ≤ 2 ^ 63 → height ≤ 63) × IsOver page_size height (root_over which page_size items) items
unfolding root_over
root_is_over which page_size [] small keys sizes = (0, λ room. omega arith, (refl, record { few = omega arith; small = omega arith }))
root_is_over which page_size (item ∷ items) small keys sizes =
    let all : List (Laid LeafElement) = item ∷ items in
    let runs : List (List (Laid LeafElement)) = cut_of page_size 1 size_of all in
    let level : List (Laid BranchElement) = leaf_level page_size all in
    let divided : IsDivided page_size 1 0 size_of all runs = cut_divides page_size 1 1 0 size_of all (omega arith) (omega arith) (omega arith) in
    let pieces = leaves_over page_size runs all small divided.whole divided.each sizes in
    let any = runs_some runs all divided.whole (omega arith) in
    let same = length-map runs (page_over leaf_page_view page_size) in
    let count = pages_count leaf_page_view page_size runs in
    let top = top_fits which page_size (length level) 0 level all small keys pieces (omega arith) (omega arith) in
    (top.levels, λ room. top.few 63 (omega arith), top.over)

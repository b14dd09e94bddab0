-- How many page numbers a row of pages takes: its overflow, by the weights of what stands on it.
use Rattle.std.proofs.{lemmas.Grind.common_steps, Math.Nat.div-mul-le_self, lemmas.Nat.le-div}
use Rattle.std.proofs.Common.{◌≡◌, ℕ, ◌+◌, ◌*◌, ◌/◌, ◌<◌, ◌≤◌, List, [], ◌∷◌, ◌++◌, length, map, flat_map, sum_by, refl, arith}
use Rattle.bolt_lemmas.proofs.Exports.{all_split}
use Rattle.bolt_layout.proofs.Words.{add-mul, AllByRecursion, div-lt_iff_lt-mul, Laid, numbers_of, overflow_of, page_over, PageView, run_overflow}
use Rattle.bolt_layout.proofs.Words.{size_of, sum_by-cons}
use Rattle.bolt_layout.proofs.{LastItem.HasItem, OverRows.numbers-append}

div_rises : (a b k : ℕ) → 0 < k → a ≤ b → a / k ≤ b / k
div_rises a b k some h = let l = div-mul-le_self a k in le-div (a / k) b k some (omega arith)

div_sum : (a b k : ℕ) → 0 < k → (a + b) / k ≤ a / k + (1 + b / k)
div_sum a b k some = grind (arith, add-mul, div-lt_iff_lt-mul)

-- an item weighs a page, and as many as its size fills
abbrev pub weight : {E : Type 0} → (page_size : ℕ) → Laid E → ℕ
weight page_size item = 1 + item.size / page_size

abbrev pub weights : {E : Type 0} → (page_size : ℕ) → List (Laid E) → ℕ
weights page_size [] = 0
weights page_size (item ∷ items) = weight page_size item + weights page_size items

weights-append : {E : Type 0} (page_size : ℕ) (xs ys : List (Laid E)) → weights page_size (xs ++ ys) ≡ weights page_size xs + weights page_size ys
weights-append page_size [] ys = omega arith
weights-append page_size (x ∷ xs) ys = let ih = weights-append page_size xs ys in omega arith

-- The numbers that the pages over these runs take themselves.
abbrev pub own_numbers : {E : Type 0} → (page_size : ℕ) → List (List (Laid E)) → ℕ
own_numbers page_size [] = 0
own_numbers page_size (run ∷ runs) = (1 + run_overflow page_size run) + own_numbers page_size runs

pub level_numbers_are : {E : Type 0} (view : ℕ → List E → PageView) (page_size : ℕ) (runs : List (List (Laid E)))
    → numbers_of (map (page_over view page_size) runs) ≡ numbers_of (flat_map (λ run. run) runs) + own_numbers page_size runs
level_numbers_are view page_size [] = refl
level_numbers_are view page_size (run ∷ runs) = omega (arith, numbers-append, level_numbers_are view page_size runs)

-- A page's overflow is at most the weight of its items.
run_weight : {E : Type 0} (page_size : ℕ) (run : List (Laid E)) → 16 ≤ page_size → (15 + sum_by size_of run) / page_size ≤ weights page_size run
run_weight page_size [] low = let below : 15 / page_size < 1 = (div-lt_iff_lt-mul {k = page_size} {x = 15} {y = 1} (omega arith)).1 (omega arith) in omega arith
run_weight {E = E} page_size (item ∷ run) low =
    let ih = run_weight page_size run low in
    let s : 15 + sum_by size_of (item ∷ run) ≡ item.size + (15 + sum_by size_of run) = let c = sum_by-cons (size_of {E = E}) item run in omega arith in
    grind (arith, div_sum)

pub own_weight : {E : Type 0} (page_size : ℕ) (runs : List (List (Laid E))) → 16 ≤ page_size
    → own_numbers page_size runs ≤ length runs + weights page_size (flat_map (λ run. run) runs)
unfolding overflow_of
own_weight page_size [] low = omega arith
own_weight page_size (run ∷ runs) low =
    let ih = own_weight page_size runs low in
    let l = weights-append page_size run (flat_map (λ run. run) runs) in
    let w = run_weight page_size run low in
    grind arith

-- An item has the 16 bytes of its header and its key.
abbrev pub HasKeyRoom : {E : Type 0} → Laid E → Type 0
HasKeyRoom item = 16 + length item.key ≤ item.size

-- So the page over a run weighs no more than the first item, nor than the numbers that the page takes.
first_weight : {E : Type 0} (view : ℕ → List E → PageView) (page_size : ℕ) (first : Laid E) (run : List (Laid E)) → 16 ≤ page_size → HasKeyRoom first
    → weight page_size (page_over view page_size (first ∷ run)) ≤ weight page_size first
first_weight view page_size first run low room = let d = div_rises (16 + length first.key) first.size page_size (omega arith) room in omega arith

pub level_weights : {E : Type 0} (view : ℕ → List E → PageView) (page_size : ℕ) (runs : List (List (Laid E))) → 16 ≤ page_size
    → AllByRecursion HasItem runs
    → AllByRecursion HasKeyRoom (flat_map (λ run. run) runs)
    → weights page_size (map (page_over view page_size) runs) ≤ weights page_size (flat_map (λ run. run) runs)
level_weights view page_size ((first ∷ run) ∷ runs) low some room =
    let rest : List (Laid _) = flat_map (λ run. run) runs in
    let both = all_split HasKeyRoom (first ∷ run) rest room in
    let ih = level_weights view page_size runs low some.1 both.1 in
    let l = weights-append page_size (first ∷ run) rest in
    let w = first_weight view page_size first run low both.0.0 in omega arith
level_weights view page_size runs low some room = grind arith

pub own_weights : {E : Type 0} (view : ℕ → List E → PageView) (page_size : ℕ) (runs : List (List (Laid E))) → 16 ≤ page_size
    → AllByRecursion HasItem runs
    → AllByRecursion HasKeyRoom (flat_map (λ run. run) runs) → weights page_size (map (page_over view page_size) runs) ≤ own_numbers page_size runs
unfolding overflow_of
own_weights view page_size [] low some room = omega arith
own_weights view page_size ([] ∷ runs) low some room = absurd (let none = some.0 in omega arith)
own_weights {E = E} view page_size ((first ∷ run) ∷ runs) low some room =
    let both = all_split HasKeyRoom (first ∷ run) (flat_map (λ run. run) runs) room in
    let ih = own_weights view page_size runs low some.1 both.1 in
    grind (arith, common_steps, sum_by-cons, div_rises)

-- each item weighs a page at least
pub weights_count : {E : Type 0} (page_size : ℕ) (items : List (Laid E)) → length items ≤ weights page_size items
weights_count page_size [] = omega arith
weights_count page_size (item ∷ items) = let ih = weights_count page_size items in omega arith

-- So no page is heavier than the heaviest below.
abbrev pub IsLight : {E : Type 0} → (page_size most : ℕ) → Laid E → Type 0
IsLight page_size most item = weight page_size item ≤ most

pub level_light : {E : Type 0} (view : ℕ → List E → PageView) (page_size most : ℕ) (runs : List (List (Laid E))) → 16 ≤ page_size
    → AllByRecursion HasItem runs
    → AllByRecursion HasKeyRoom (flat_map (λ run. run) runs) → AllByRecursion (IsLight page_size most) (flat_map (λ run. run) runs)
    → AllByRecursion (IsLight page_size most) (map (page_over view page_size) runs)
level_light view page_size most [] low some room light = tt
level_light view page_size most ([] ∷ runs) low some room light = absurd (let none = some.0 in omega arith)
level_light {E = E} view page_size most ((first ∷ run) ∷ runs) low some room light =
    let rest : List (Laid E) = flat_map (λ run. run) runs in
    let rooms = all_split HasKeyRoom (first ∷ run) rest room in
    let lights = all_split (IsLight page_size most) (first ∷ run) rest light in
    let w = first_weight view page_size first run low rooms.0.0 in
    (omega arith, level_light view page_size most runs low some.1 rooms.1 lights.1)

pub weights_light : {E : Type 0} (page_size most : ℕ) (items : List (Laid E)) → AllByRecursion (IsLight page_size most) items
    → weights page_size items ≤ most * length items
weights_light page_size most [] light = omega arith
weights_light page_size most (item ∷ items) light = omega (arith, weights_light page_size most items light.1)

-- The first element whose data isn't where bbolt writes it.
use Rattle.std.proofs.Common.{◌≡◌, ◌∙◌, ℕ, zero, suc, ◌+◌, ◌-◌, ◌<◌, ◌≤◌, Bool, true, false, List, Option, None, Some, arith, ap, cond, length, sym}
use Rattle.std.proofs.lemmas.Option.{same_Some}
use Rattle.std.specs.List.{find, range_with_len}
use Rattle.bolt_format.specs.Elements.{branch_end, branches_fault, element_at, leaf_end, leaves_fault, table_fault, value_fault}
use Rattle.bolt_format.specs.Gaps.{first_elsewhere, is_elsewhere}
use Rattle.bolt_format.proofs.{FaultLemmas.first_of-none, GoodPages.good_branch, GoodPages.good_leaf, GoodPages.table-none}

-- the first of the numbers that passes: number i, or one of the rest
pub find-step : (test : ℕ → Bool) (i count : ℕ) → i < count
    → find test (range_with_len i (count - i)) ≡ cond (test i) (Some i) (find test (range_with_len (i + 1) (count - (i + 1))))
find-step test i count h = grind arith

pub find-end : (test : ℕ → Bool) (i count : ℕ) → count ≤ i → find test (range_with_len i (count - i)) ≡ None
find-end test i count h = let left : count - i ≡ 0 = omega arith in ap (λ n. find test (range_with_len i n)) left

pub ruleset find_steps = (find-step, find-end)

-- the first that passes is one of the numbers
chosen-within : (b : Bool) (a i n : ℕ) (rest : Option ℕ) → cond b (Some a) rest ≡ Some i → (rest ≡ Some i → i < a + 1 + n) → i < a + suc n
chosen-within true a i n rest e later = let same = same_Some a i e in omega (arith, same)
chosen-within false a i n rest e later = let below = later e in omega (arith, below)

find-within : (test : ℕ → Bool) (a n i : ℕ) → find test (range_with_len a n) ≡ Some i → i < a + n
find-within test a zero i e = absurd (cc)
find-within test a (suc n) i e = chosen-within (test a) a i n _ e (find-within test (a + 1) n i)

pub elsewhere_below : (start end : ℕ → ℕ) (count i : ℕ) (first : Option ℕ) → first ≡ first_elsewhere start end count → first ≡ Some i → i < count
elsewhere_below start end count i first is some = let below = find-within (is_elsewhere start end count) 0 count i (sym is ∙ some) in omega (arith, below)

-- a page that passed its tests has its table, and each element is in its bytes
pub branch_table : (bytes : List ℕ) (count : ℕ) → branches_fault bytes count ≡ None → element_at count ≤ length bytes
unfolding branches_fault
branch_table bytes count e = table-none bytes count (first_of-none (table_fault bytes count) _ e).0

pub leaf_table : (bytes : List ℕ) (count : ℕ) → leaves_fault value_fault bytes count ≡ None → element_at count ≤ length bytes
unfolding leaves_fault
leaf_table bytes count e = table-none bytes count (first_of-none (table_fault bytes count) _ e).0

pub branch_there : (bytes : List ℕ) (count i : ℕ) → branches_fault bytes count ≡ None → i < count
    → (element_at (i + 1) ≤ length bytes) × (branch_end bytes i ≤ length bytes)
branch_there bytes count i e h = good_branch bytes count i e h

pub leaf_there : (bytes : List ℕ) (count i : ℕ) → leaves_fault value_fault bytes count ≡ None → i < count
    → (element_at (i + 1) ≤ length bytes) × (leaf_end bytes i ≤ length bytes)
leaf_there bytes count i e h = let good = good_leaf value_fault bytes count i e h in (good.0, good.1)

pub ruleset branch_places = (branch_table, branch_there, elsewhere_below)

pub ruleset leaf_places = (leaf_table, leaf_there, elsewhere_below)

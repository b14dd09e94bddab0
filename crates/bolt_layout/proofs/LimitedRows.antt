-- How a row is cut with a limit: without one as in the plain layout, and with the right one as in the balanced.
use Rattle.std.proofs.lemmas.Grind.{common_steps}
use Rattle.std.proofs.Common.{◌≡◌, ◌∙◌, ◌⊎◌, ◌++◌, ◌+◌, ◌-◌, ◌≤◌, ℕ, zero, suc, List, [], ◌∷◌, length, Option, Some, None, refl, sym, ap, inl, inr}
use Rattle.std.proofs.Common.{arith}
use Rattle.bolt_layout.proofs.Words.{Balanced, branch_cut, cases_Bool, cut_from, cut_of, cut_row, join_last, joins, last_length, length_push}
use Rattle.bolt_layout.proofs.LastItem.{join_behind, join_none, last_behind, some_runs}
use Rattle.bolt_layout.specs.Limits.{cut_within}

-- Without a limit a row is cut as the plain one.
pub left_free : {X : Type 0} (page_size : ℕ) (size : X → ℕ) (run items : List X)
    → cut_within page_size size None run items ≡ cut_from page_size 2 size run items
left_free page_size size run [] = refl
left_free page_size size run (next ∷ items) = grind (arith, left_free page_size size (run ++ next ∷ []) items, left_free page_size size (next ∷ []) items)

-- one run has all items
one_run : {X : Type 0} (page_size : ℕ) (size : X → ℕ) (run items : List X) → length (cut_from page_size 2 size run items) ≡ 1
    → last_length (cut_from page_size 2 size run items) ≡ length run + length items
one_run page_size size run [] one = omega arith
one_run page_size size run (next ∷ items) one = elim (cases_Bool (joins page_size 2 size run next)) [
  | inl t ↦
      (let one2 : length (cut_from page_size 2 size (run ++ next ∷ []) items) ≡ 1 = rw t at one in
      let ih = one_run page_size size (run ++ next ∷ []) items one2 in
      let l = length_push run next in rw t (omega arith))
  | inr f ↦
      (let one2 : suc (length (cut_from page_size 2 size (next ∷ []) items)) ≡ 1 = rw f at one in
      let some = some_runs page_size 2 size (next ∷ []) items in absurd (omega arith))
]

-- an item that is the last of its row joins where no run may begin
last_joined : {X : Type 0} (page_size : ℕ) (size : X → ℕ) (run : List X) (next : X) (items : List X) → length items ≡ 0
    → cut_within page_size size None (run ++ next ∷ []) items ≡ join_last (run ∷ cut_from page_size 2 size (next ∷ []) items)
last_joined page_size size run next items none = grind (arith, common_steps)

-- Where the last run has one item, and one run less may begin, it joins the run before.
left_joined : {X : Type 0} (page_size : ℕ) (size : X → ℕ) (n : ℕ) (run items : List X) → length (cut_from page_size 2 size run items) ≡ n + 2
    → last_length (cut_from page_size 2 size run items) ≡ 1 → cut_within page_size size (Some n) run items ≡ join_last (cut_from page_size 2 size run items)
left_joined page_size size n run [] many one = absurd (omega arith)
left_joined {X = X} page_size size zero run (next ∷ items) many one = elim (cases_Bool (joins page_size 2 size run next)) [
  | inl t ↦
      (let many2 : length (cut_from page_size 2 size (run ++ next ∷ []) items) ≡ 0 + 2 = rw t at many in
      let one2 : last_length (cut_from page_size 2 size (run ++ next ∷ []) items) ≡ 1 = rw t at one in
      rw t (left_joined page_size size zero (run ++ next ∷ []) items many2 one2))
  | inr f ↦
      (let more : List (List X) = cut_from page_size 2 size (next ∷ []) items in
      let many2 : suc (length more) ≡ 0 + 2 = rw f at many in
      let one2 : last_length (run ∷ more) ≡ 1 = rw f at one in
      let same = last_behind run more (omega arith) in
      let all = one_run page_size size (next ∷ []) items (omega arith) in
      rw f (last_joined page_size size run next items (omega arith)))
]
left_joined {X = X} page_size size (suc n) run (next ∷ items) many one = elim (cases_Bool (joins page_size 2 size run next)) [
  | inl t ↦
      (let many2 : length (cut_from page_size 2 size (run ++ next ∷ []) items) ≡ suc n + 2 = rw t at many in
      let one2 : last_length (cut_from page_size 2 size (run ++ next ∷ []) items) ≡ 1 = rw t at one in
      rw t (left_joined page_size size (suc n) (run ++ next ∷ []) items many2 one2))
  | inr f ↦
      (let more : List (List X) = cut_from page_size 2 size (next ∷ []) items in
      let many2 : suc (length more) ≡ suc n + 2 = rw f at many in
      let one2 : last_length (run ∷ more) ≡ 1 = rw f at one in
      let same = last_behind run more (omega arith) in
      let fewer : suc n - 1 ≡ n = omega arith in
      let ih : cut_within page_size size (Some n) (next ∷ []) items ≡ join_last more =
      left_joined page_size size n (next ∷ []) items (omega arith) (omega arith) in
      rw (f, fewer) (ap (λ (rs : List (List X)). run ∷ rs) ih ∙ sym (join_behind run more (omega arith))))
]

-- The limit of a row, by how many runs its plain cut has, and how many items the last.
abbrev pub IsLimit : (runs last : ℕ) → Option ℕ → Type 0
IsLimit runs last limit = ((limit ≡ None) × ((2 ≤ last) ⊎ (runs ≤ 1))) ⊎ ((limit ≡ Some (runs - 2)) × (last ≡ 1) × (2 ≤ runs))

pub row_limited : {X : Type 0} (page_size : ℕ) (size : X → ℕ) (limit : Option ℕ) (items : List X)
    → IsLimit (length (cut_of page_size 2 size items)) (last_length (cut_of page_size 2 size items)) limit
    → cut_row page_size size limit items ≡ branch_cut Balanced page_size size items
row_limited page_size size limit items is = grind (arith, join_none, left_joined, left_free)

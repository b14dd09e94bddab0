-- The limits of rows: those of other rows stay, and those of a bucket are noted row by row.
use Rattle.std.proofs.{lemmas.Grind.common_steps, lemmas.Bool.cases_lt, lemmas.List.drop_all, lemmas.Map.Lookups.exact_unsigned}
use Rattle.std.proofs.Common.{◌≡◌, ◌∙◌, ◌<◌, ◌≤◌, ◌+◌, ◌-◌, ℕ, suc, Bool, false, Option, Some, None, List, [], ◌∷◌, length, drop, refl, sym, ap, inl}
use Rattle.std.proofs.Common.{inr, arith}
use Rattle.std.specs.{BTreeMap.BTreeMap, BTreeMap.Updates, BTreeMap.get, Ordering.is_eq}
use Rattle.bolt_layout.specs.Limits.{limit_at, limits_from_ends}
use Rattle.bolt_bulk.specs.{Private.IsOtherRow, Private.limit_in, Private.row_cmp, declared.limits.Limits.Limits}

apart : (bucket level b l : ℕ) → IsOtherRow bucket level b l → is_eq (row_cmp (bucket, level) (b, l)) ≡ false
apart bucket level b l other = grind (arith, exact_unsigned)

pub others_stay : (old new : BTreeMap (ℕ × ℕ) ℕ) (bucket level allowed : ℕ) → Updates row_cmp old new (bucket, level) (Some allowed) → (b l : ℕ)
    → IsOtherRow bucket level b l
    → get row_cmp new (b, l) ≡ get row_cmp old (b, l)
others_stay old new bucket level allowed updates b l other = updates.2 (b, l) (apart bucket level b l other)

-- One row after another gets its limit.
noted_step : (rows : List (ℕ × ℕ)) (lost loses : Bool) (i : ℕ) (row : ℕ × ℕ) (limit : Option ℕ) (old new : ℕ → Option ℕ)
    → drop i rows ≡ row ∷ drop (i + 1) rows
    → ((rest : List (ℕ × ℕ)) → limits_from_ends lost (row ∷ rest) ≡ limit ∷ limits_from_ends loses rest)
    → ((k : ℕ) → k < i → old k ≡ limit_at (limits_from_ends false rows) k) → ((k : ℕ) → i ≤ k → old k ≡ None)
    → ((k : ℕ) → limit_at (limits_from_ends false rows) (i + k) ≡ limit_at (limits_from_ends lost (drop i rows)) k)
    → new i ≡ limit → ((k : ℕ) → (k ≡ i → ⊥) → new k ≡ old k)
    → ((k : ℕ) → k < i + 1 → new k ≡ limit_at (limits_from_ends false rows) k) × ((k : ℕ) → i + 1 ≤ k → new k ≡ None)
noted_step rows lost loses i row limit old new at step below above rest here others =
    let T : List (Option ℕ) = limits_from_ends false rows in
    let next : limits_from_ends lost (drop i rows) ≡ limit ∷ limits_from_ends loses (drop (i + 1) rows) =
    ap (λ (rs : List (ℕ × ℕ)). limits_from_ends lost rs) at ∙ step (drop (i + 1) rows) in
    let zero_is : i ≡ i + 0 = omega arith in
    grind (arith, common_steps, cases_lt)

noted_rest : (rows : List (ℕ × ℕ)) (lost loses : Bool) (i : ℕ) (row : ℕ × ℕ) (limit : Option ℕ) → drop i rows ≡ row ∷ drop (i + 1) rows
    → ((rest : List (ℕ × ℕ)) → limits_from_ends lost (row ∷ rest) ≡ limit ∷ limits_from_ends loses rest)
    → ((k : ℕ) → limit_at (limits_from_ends false rows) (i + k) ≡ limit_at (limits_from_ends lost (drop i rows)) k)
    → (k : ℕ) → limit_at (limits_from_ends false rows) (i + 1 + k) ≡ limit_at (limits_from_ends loses (drop (i + 1) rows)) k
noted_rest rows lost loses i row limit at step rest k =
    let next : limits_from_ends lost (drop i rows) ≡ limit ∷ limits_from_ends loses (drop (i + 1) rows) =
    ap (λ (rs : List (ℕ × ℕ)). limits_from_ends lost rs) at ∙ step (drop (i + 1) rows) in
    let shift : i + 1 + k ≡ i + suc k = omega arith in
    ap (λ (n : ℕ). limit_at (limits_from_ends false rows) n) shift ∙ (rest (suc k) ∙ ap (λ (ls : List (Option ℕ)). limit_at ls (suc k)) next)

none_at : (lost : Bool) (k : ℕ) → limit_at (limits_from_ends lost []) k ≡ None
none_at lost k = refl

-- and after the last row there is none
pub noted_all : (rows : List (ℕ × ℕ)) (lost : Bool) (i : ℕ) (old : ℕ → Option ℕ) → length rows ≤ i
    → ((k : ℕ) → k < i → old k ≡ limit_at (limits_from_ends false rows) k) → ((k : ℕ) → i ≤ k → old k ≡ None)
    → ((k : ℕ) → limit_at (limits_from_ends false rows) (i + k) ≡ limit_at (limits_from_ends lost (drop i rows)) k)
    → (k : ℕ) → old k ≡ limit_at (limits_from_ends false rows) k
noted_all rows lost i old past below above rest k = elim (cases_lt k i) [
  | inl before ↦ below k before
  | inr after ↦
      (let n : ℕ = k - i in
      let same : i + n ≡ k = omega arith in
      let none : drop i rows ≡ [] = drop_all i rows past in
      let last = rest n ∙ (ap (λ (rs : List (ℕ × ℕ)). limit_at (limits_from_ends lost rs) n) none ∙ none_at lost n) in
      above k after ∙ (sym last ∙ ap (λ (m : ℕ). limit_at (limits_from_ends false rows) m) same))
]

-- The rows below number i have their limits, and the others have none yet; `lost` says whether row i has lost its last item.
pub record Noting (old now : Limits) (bucket : ℕ) (rows : List (ℕ × ℕ)) (lost : Bool) (i : ℕ) : Type 0 where
  pub below : ((k : ℕ) → limit_in old bucket k ≡ None) → (k : ℕ) → k < i → limit_in now bucket k ≡ limit_at (limits_from_ends false rows) k
  pub above : ((k : ℕ) → limit_in old bucket k ≡ None) → (k : ℕ) → i ≤ k → limit_in now bucket k ≡ None
  pub rest : (k : ℕ) → limit_at (limits_from_ends false rows) (i + k) ≡ limit_at (limits_from_ends lost (drop i rows)) k
  pub others : (b k : ℕ) → (b ≡ bucket → ⊥) → limit_in now b k ≡ limit_in old b k

pub noting_more : (old now new : Limits) (bucket : ℕ) (rows : List (ℕ × ℕ)) (lost loses : Bool) (i : ℕ) (row : ℕ × ℕ) (limit : Option ℕ)
    → drop i rows ≡ row ∷ drop (i + 1) rows
    → ((rest : List (ℕ × ℕ)) → limits_from_ends lost (row ∷ rest) ≡ limit ∷ limits_from_ends loses rest) → Noting old now bucket rows lost i
    → (limit_in now bucket i ≡ None → limit_in new bucket i ≡ limit) → ((b k : ℕ) → IsOtherRow bucket i b k → limit_in new b k ≡ limit_in now b k)
    → Noting old new bucket rows loses (i + 1)
noting_more old now new bucket rows lost loses i row limit at step is here others =
    let noted = λ (fresh : (k : ℕ) → limit_in old bucket k ≡ None).
    noted_step rows lost loses i row limit (limit_in now bucket) (limit_in new bucket) at step (is.below fresh) (is.above fresh) is.rest
    (here (is.above fresh i (omega arith))) (λ k other. others bucket k (inr other)) in
    record {
      below = λ fresh. (noted fresh).0;
      above = λ fresh. (noted fresh).1;
      rest = noted_rest rows lost loses i row limit at step is.rest;
      others = λ b k other. others b k (inl other) ∙ is.others b k other;
    }

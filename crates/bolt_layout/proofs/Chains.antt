-- Data that follows other data has no gap.
use Rattle.std.proofs.Common.{◌≡◌, ◌∙◌, ℕ, zero, suc, ◌+◌, false, None, not, refl, sym, ap, subst, add-one}
use Rattle.std.specs.List.{find, range_with_len}
use Rattle.bolt_layout.proofs.Words.{eq-eqb}
use Rattle.bolt_format.specs.Gaps.{is_elsewhere, written_start}

-- the data of n elements from i on begins here, and that of each next one where the one before ends
abbrev pub Follows : (start end : ℕ → ℕ) → (free i n : ℕ) → Type 0
Follows start end free i zero = Unit {0}
Follows start end free i (suc n) = (start i ≡ free) × Follows start end (end i) (suc i) n

pub none_elsewhere : (start end : ℕ → ℕ) (count i n free : ℕ) → free ≡ written_start end count i → Follows start end free i n
    → find (is_elsewhere start end count) (range_with_len i n) ≡ None
none_elsewhere start end count i zero free same follows = refl
none_elsewhere start end count i (suc n) free same follows =
    let here : is_elsewhere start end count i ≡ false = ap not (eq-eqb (start i) (written_start end count i) (follows.0 ∙ same)) in
    let next = subst (λ (k : ℕ). Follows start end (end i) k n) (sym (add-one i)) follows.1 in
    rw here (none_elsewhere start end count (i + 1) n (end i) (ap (written_start end count) (sym (add-one i))) next)

-- A table after the pages of a span were claimed.
use Rattle.std.proofs.Common.{rules, ◌≡◌, ◌∙◌, ℕ, ◌<◌, ◌≤◌, ◌⊎◌, inl, inr, List, ap}
use Rattle.bolt_check.proofs.Words.{IsClaimed, IsUnclaimed, IsUnlisted, PageUse, times_of, use_at}

pub not_both : (t : List PageUse) (k : ℕ) → IsUnclaimed t k → IsClaimed t k → ⊥
not_both t k a b = cc

module _ (old new : List PageUse) (from last : ℕ) (below : (k : ℕ) → k < from → use_at new k ≡ use_at old k)
    (above : (k : ℕ) → last < k → use_at new k ≡ use_at old k) where
  -- only the span has changed
  pub outside : (n : ℕ) → (use_at new n ≡ use_at old n) ⊎ ((from ≤ n) × (n ≤ last))
  outside n = search rules

  -- claiming lists nothing
  pub still_unlisted : ((k : ℕ) → from ≤ k → k ≤ last → times_of (use_at new k) ≡ 0) → IsUnlisted old → IsUnlisted new
  still_unlisted used plain n = elim (outside n) [ inl same ↦ ap times_of same ∙ plain n | inr at ↦ used n at.0 at.1 ]

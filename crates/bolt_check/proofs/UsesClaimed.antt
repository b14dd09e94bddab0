-- The table of pages, after the freelist's span was claimed and its ids were listed.
use Rattle.std.proofs.Common.{◌≡◌, ℕ, List, arith}
use Rattle.bolt_check.proofs.Words.{ClaimsFreelist, ClaimsUses, is_used, IsClaimed, IsInUse, ListsFree, Meta, PageUse, times_in, use_at}

module _ (file : List ℕ) (meta : Meta) (old mid : List PageUse) (claims : ClaimsFreelist file meta old mid) where
  -- pages that are listed aren't in use, so what the table says of those in use stays
  module _ (new : List PageUse) (ids : List ℕ) (lists : ListsFree meta.high_water (IsInUse file meta (IsClaimed old)) (times_in ids))
      (used : (n : ℕ) → is_used (use_at new n) ≡ is_used (use_at mid n)) (kept : (n : ℕ) → times_in ids n ≡ 0 → use_at new n ≡ use_at mid n) where
    unlisted : (n : ℕ) → IsClaimed new n → times_in ids n ≡ 0
    unlisted n is = grind arith

    pub uses_listed : ClaimsUses file meta old new
    uses_listed = grind arith

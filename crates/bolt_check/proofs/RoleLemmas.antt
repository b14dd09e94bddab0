-- The role of a page, from the table of uses.
use Rattle.std.proofs.lemmas.Grind.{common_steps}
use Rattle.std.proofs.Common.{◌≡◌, ℕ, ◌<◌, ◌≤◌, ◌↔◌, inl, inr, true, List, refl, arith}
use Rattle.bolt_check.proofs.Words.{ClaimsUses, HasRightAccounts, HasRole, HasUse, IsClaimed, IsMetaUse, IsNoted, IsSound, IsUsed, Meta, NO_FREELIST}
use Rattle.bolt_check.proofs.Words.{node_at, PageUse, use_at}
use Rattle.bolt_check.specs.{Private.RoleTables.AreUses, Private.RoleTables.role_by, Ways.reached}

module _ (file : List ℕ) (meta : Meta) (table : List PageUse) (are : AreUses file meta table) where
  role_of : (n : ℕ) (u : PageUse) → n < meta.high_water → meta.high_water ≤ NO_FREELIST → use_at table n ≡ u → HasRole file meta n (role_by meta n u)
  role_of n u below high_water e = grind arith

  pub right_role : (n : ℕ) → n < meta.high_water → meta.high_water ≤ NO_FREELIST → HasRole file meta n (role_by meta n (use_at table n))
  right_role n below high_water = role_of n (use_at table n) below high_water refl

pub page_positive : (file : List ℕ) (meta : Meta) → IsSound file meta true → 0 < meta.page_size
page_positive file meta sound = grind (arith, common_steps)

-- the uses of a sound file, with the freelist's span claimed or none written
pub uses_with : (file : List ℕ) (meta : Meta) (old new : List PageUse) → HasRightAccounts file meta → ((n : ℕ) → IsClaimed old n ↔ IsUsed file meta n)
    → ((n : ℕ) (u : PageUse) → IsNoted old n u → HasUse (node_at file meta) (reached (node_at file meta) meta.root) IsMetaUse n u)
    → ClaimsUses file meta old new → AreUses file meta new
uses_with file meta old new right claimed uses claims = record {
  noted = λ n u noted. elim (claims.noted n u noted) [ inl was ↦ inl (uses n u was) | inr is ↦ inr is ];
  good = right.good;
  claimed = λ n in_use. claims.claimed n (elim in_use [ inl used ↦ inl ((claimed n).1 used) | inr is ↦ inr is ]);
}

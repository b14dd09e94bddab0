-- What holds of a page with a role, for the crates above.
use Rattle.std.proofs.Common.{◌≡◌, ℕ, ◌+◌, ◌*◌, ◌<◌, ◌≤◌, inl, inr, Bool, true, List, [], Ok, length, refl, sym, subst, arith}
use Rattle.bolt_check.proofs.Words.{bytes_of, cases_lt, Checked, HasRightAccounts, HasRole, HasSoundTrees, IsFirstPage, IsInFreelist, IsSome, IsSound}
use Rattle.bolt_check.proofs.Words.{Meta, meta_of, Node, node_at, page_at, Role, root_spot, ∥∥₁_elim, ∥∥₁_map}
use Rattle.bolt_check.specs.{CheckedFiles.has_accounts, Roles.AreRoles, Ways.reached}
use Rattle.bolt_check.specs.declared.role_table.Role.TheVariants as role
use Rattle.bolt_check.proofs.{FreelistLemmas.freelist_page, FreelistLemmas.freelist_within, HighWaterLemmas.node_shown, HighWaterLemmas.node_within}
use Rattle.bolt_check.proofs.{RoleExists.role_exists, RoleLemmas.page_positive, RoleOnce.role_once}
use Rattle.bolt_check.specs.CheckedFiles.{checked_viewers}

-- a file whose accounts were tested is sound with its accounts
pub sound_accounts : (checked : Checked) → has_accounts checked ≡ true → ∥ IsSound (bytes_of checked) (meta_of checked) true ∥₁
unfolding checked_viewers
sound_accounts checked is = ∥∥₁_map checked.sound (λ tested. tested.whole is)

-- what follows of that, and has one proof, holds of it
pub with_accounts : (checked : Checked) (P : Type 0) → has_accounts checked ≡ true → IsProp P
    → (IsSound (bytes_of checked) (meta_of checked) true → P) → P
with_accounts checked P is prop f = ∥∥₁_elim (sound_accounts checked is) prop f

module _ (file : List ℕ) (meta : Meta) where
  -- the first page of a branch or a leaf is good
  pub first_shown : (is_leaf : Bool) (n : ℕ) → IsFirstPage (node_at file meta) (reached (node_at file meta) meta.root) is_leaf n
      → IsSome (page_at file meta n)
  first_shown is_leaf n is = grind (arith, node_shown)

  -- and so is the freelist's
  pub freelist_shown : (n : ℕ) → IsInFreelist file meta n → n ≡ meta.freelist → IsSome (page_at file meta n)
  freelist_shown n is same = subst (λ (k : ℕ). IsSome (page_at file meta k)) (sym same) (rw (freelist_page file meta is.written is.good) refl)

  -- no page up to the last of a span begins at the file's end
  inside_file : (n last : ℕ) → 0 < meta.page_size → n ≤ last → (last + 1) * meta.page_size ≤ length file → length file ≤ n * meta.page_size → ⊥
  inside_file n last positive low end past = grind arith

  past_node : (number n : ℕ) (node : Node) → 0 < meta.page_size → node_at file meta number ≡ Ok node → n ≤ number + node.overflow
      → length file ≤ n * meta.page_size → ⊥
  past_node number n node positive page low past = inside_file n (number + node.overflow) positive low (node_within file meta number node page).1 past

  past_metas : (n : ℕ) → 0 < meta.page_size → HasSoundTrees file meta → n < 2 → length file ≤ n * meta.page_size → ⊥
  past_metas n positive trees low past =
      let (node, page) = (trees.good [] (root_spot meta.root) refl).1 in
      let above : 2 ≤ meta.root = trees.above_metas [] meta.root (rw page (omega arith, omega arith)) in
      past_node meta.root n node positive page (omega (arith, low, above)) past

  past_role : (n : ℕ) (r : Role) → 0 < meta.page_size → HasSoundTrees file meta → HasRole file meta n r → length file ≤ n * meta.page_size
      → r ≡ role.Free
  past_role n r positive trees is past = grind (arith, past_metas, past_node, inside_file, freelist_within)

  -- a page that begins at the file's end or past it is free
  pub past_is_free : IsSound file meta true → (n : ℕ) (r : Role) → HasRole file meta n r → length file ≤ n * meta.page_size → r ≡ role.Free
  past_is_free sound n r is past = past_role n r (page_positive file meta sound) sound.trees is past

  pub one_role : IsSound file meta true → (n : ℕ) (a b : Role) → HasRole file meta n a → HasRole file meta n b → a ≡ b
  one_role sound n a b h k = role_once file meta n sound.trees (sound.right refl) a b h k

  pub size_positive : IsSound file meta true → 0 < meta.page_size
  size_positive sound = page_positive file meta sound

  role_below : HasSoundTrees file meta → HasRightAccounts file meta → (n : ℕ) → (r : Role) × (n < meta.high_water → HasRole file meta n r)
  role_below trees right n = elim (cases_lt n meta.high_water) [
    | inl below ↦ let p = role_exists file meta n trees right below in (p.0, λ _. p.1)
    | inr past ↦ (role.Free, λ below. absurd (omega (arith, past, below)))
  ]

  pub some_roles : HasSoundTrees file meta → HasRightAccounts file meta → (roles : ℕ → Role) × AreRoles file meta roles
  some_roles trees right = (λ n. (role_below trees right n).0, λ n. (role_below trees right n).1)

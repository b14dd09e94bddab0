-- In a sound file a page has at most one role: where it is in use determines the role, and it is free if it isn't in use.
use Rattle.std.proofs.Common.{◌≡◌, ◌∙◌, ℕ, ◌<◌, ◌==◌, ◌⊎◌, inl, inr, Bool, true, false, List, Option, Some, Result, Ok, Err, cond, sym, ap, refl}
use Rattle.std.proofs.Common.{arith}
use Rattle.bolt_check.proofs.Words.{At_page, eq-eqb, HasRightAccounts, HasRole, HasSoundTrees, IsFirstPage, IsFree, IsInUse, IsUsed, Meta, ne_eqb}
use Rattle.bolt_check.proofs.Words.{Node, node_at, Nodes, Reach, Role, SpanHas, Spot}
use Rattle.bolt_check.specs.Ways.{reached}
use Rattle.bolt_check.specs.declared.role_table.Role.TheVariants as role

abbrev pub first_role : Bool → Role
first_role true = role.Leaf
first_role false = role.Branch

-- the role of page n in the span of a node, of a spot, or of the freelist
abbrev pub node_role : ℕ → Result Node ℕ → ℕ → Role
node_role n (Err fault) number = role.Free
node_role n (Ok node) number = cond (n == number) (first_role node.is_leaf) role.Inside

abbrev pub spot_role : ℕ → Nodes → Option Spot → Role
spot_role n nodes (Some (At_page s)) = node_role n (nodes s.number) s.number
spot_role n nodes o = role.Free

abbrev pub list_role : ℕ → ℕ → Role
list_role freelist n = cond (n == freelist) role.Freelist role.Inside

module _ (file : List ℕ) (meta : Meta) (n : ℕ) where
  abbrev nodes : Nodes
  nodes = node_at file meta

  abbrev reach : Reach
  reach = reached nodes meta.root

  abbrev pub Used : Type 0
  Used = IsInUse file meta (IsUsed file meta) n

  abbrev pub used_role : Used → Role
  used_role (inl (inl low)) = role.Meta
  used_role (inl (inr (way, span))) = spot_role n nodes (reach way)
  used_role (inr is) = list_role meta.freelist n

  -- a role is that of a use, or the page is free
  abbrev Placed : Role → Type 0
  Placed r = ((p : Used) × (r ≡ used_role p)) ⊎ (IsFree meta.high_water (IsInUse file meta (IsUsed file meta)) n × (r ≡ role.Free))

  first_place : (is_leaf : Bool) → IsFirstPage nodes reach is_leaf n → Placed (first_role is_leaf)
  first_place is_leaf h = let same = h.number in
      inl (inl (inr (h.way, rw (h.leads, h.page) (omega (arith, same), omega (arith, same)))), rw (h.leads, h.page, eq-eqb n h.spot.number same, h.kind) refl)

  place_of : (r : Role) → HasRole file meta n r → Placed r
  place_of role.Meta h = inl (inl (inl h), refl)
  place_of role.Branch h = first_place false h
  place_of role.Leaf h = first_place true h
  place_of role.Freelist h = inl (inr h.0, rw (eq-eqb n meta.freelist h.1) refl)
  place_of role.Inside (inl h) = inl
      (inl (inr (h.way, rw (h.leads, h.page) h.within)), rw (h.leads, h.page, ne_eqb n h.spot.number (λ e. omega (arith, h.later, e))) refl)
  place_of role.Inside (inr h) = inl (inr h.0, rw (ne_eqb n meta.freelist (λ e. omega (arith, h.1, e))) refl)
  place_of role.Free h = inr (h, refl)

  module _ (trees : HasSoundTrees file meta) (right : HasRightAccounts file meta) where
    meta_or_way : (way : List ℕ) → n < 2 → SpanHas nodes (reach way) n → ⊥
    meta_or_way way low span = omega (arith, trees.above_metas way n span, low)

    one_use : (p q : Used) → used_role p ≡ used_role q
    one_use (inl (inl l)) (inl (inl m)) = refl
    one_use (inl (inl l)) (inl (inr (w, k))) = absurd (meta_or_way w l k)
    one_use (inl (inr (v, h))) (inl (inl m)) = absurd (meta_or_way v m h)
    one_use (inl (inr (v, h))) (inl (inr (w, k))) = ap (λ (way : List ℕ). spot_role n nodes (reach way)) (trees.apart v w n h k)
    one_use (inl used) (inr is) = absurd (right.apart n is used)
    one_use (inr is) (inl used) = absurd (right.apart n is used)
    one_use (inr is) (inr also) = refl

    pub role_once : (a b : Role) → HasRole file meta n a → HasRole file meta n b → a ≡ b
    role_once a b h k = elim (place_of a h) [
      | inl (p, e) ↦ elim (place_of b k) [ inl (q, f) ↦ e ∙ one_use p q ∙ sym f | inr (free, f) ↦ absurd (free.unused p) ]
      | inr (free, e) ↦ elim (place_of b k) [ inl (q, f) ↦ absurd (free.unused q) | inr (also, f) ↦ e ∙ sym f ]
    ]

-- In a sound file each page below the mark has a role: the tour says whether a way leads to it.
use Rattle.std.proofs.lemmas.Grind.{common_steps}
use Rattle.std.proofs.Common.{ℕ, ◌<◌, ◌⊎◌, inl, inr, List, [], ◌∷◌, Option, Result, refl, sym, arith}
use Rattle.bolt_check.proofs.Words.{cases_eq, cases_lt, Has, HasRightAccounts, HasRole, HasSoundTrees, IsInFreelist, IsTour, Meta, Node, node_at}
use Rattle.bolt_check.proofs.Words.{Nodes, Reach, Role, SpanHas, SpanOf, Spot}
use Rattle.bolt_check.proofs.{Judging.span_spot, RoleOnce.Used, RoleOnce.used_role, TourSums.bucket_tour, TourLemmas.Ways}
use Rattle.bolt_check.specs.Ways.{reached}
use Rattle.bolt_check.specs.declared.role_table.Role.TheVariants as role

abbrev Either : Type 0 → Type 0
Either A = A ⊎ (A → ⊥)

module _ (file : List ℕ) (meta : Meta) (n : ℕ) where
  abbrev nodes : Nodes
  nodes = node_at file meta

  abbrev reach : Reach
  reach = reached nodes meta.root

  in_node : (o : Result Node ℕ) (number : ℕ) → Either (SpanOf o number n)
  in_node o number = grind arith

  at_spot : (o : Option Spot) → Either (SpanHas nodes o n)
  at_spot o = grind (arith, in_node)

  pick : (ways : Ways) → ((way : List ℕ) × SpanHas nodes (reach way) n) ⊎ ((way : List ℕ) → Has ways way → SpanHas nodes (reach way) n → ⊥)
  pick [] = inr (λ way i h. i)
  pick (w ∷ ways) =
      elim (at_spot (reach w)) [
        | inl h ↦ inl (w, h)
        | inr none ↦ elim (pick ways) [
          | inl p ↦ inl p
          | inr rest ↦ inr (λ way i h. elim i [ inl e ↦ none (rw (sym e) at h) | inr j ↦ rest way j h ])
        ]
      ]

  in_list : HasRightAccounts file meta → Either (IsInFreelist file meta n)
  in_list right = grind (arith, common_steps, cases_eq)

  in_use : HasRightAccounts file meta → (tour : Ways) → IsTour reach tour → Either (Used file meta n)
  in_use right tour is = elim (cases_lt n 2) [
    | inl low ↦ inl (inl (inl low))
    | inr high ↦ elim (in_list right) [
      | inl list ↦ inl (inr list)
      | inr out ↦ elim (pick tour) [
        | inl way ↦ inl (inl (inr way))
        | inr none ↦ inr (λ used. elim used [
          | inl (inl low) ↦ omega (arith, low, high)
          | inl (inr (way, h)) ↦ let p = span_spot nodes (reach way) n h in none way (is.all way p.0 p.1.0) h
          | inr list ↦ out list
        ])
      ]
    ]
  ]

  has_role : (p : Used file meta n) → HasRole file meta n (used_role file meta n p)
  has_role p = grind arith

  pub role_exists : HasSoundTrees file meta → HasRightAccounts file meta → n < meta.high_water → (r : Role) × HasRole file meta n r
  role_exists trees right below =
      let tour = bucket_tour file meta trees [] meta.root refl in
      elim (in_use right tour.0 tour.1) [
        | inl p ↦ (used_role file meta n p, has_role p)
        | inr out ↦ (
          role.Free,
          record
              { above_metas = elim (cases_lt n 2) [ inl low ↦ absurd (out (inl (inl low))) | inr high ↦ high ]; below = below; unused = out },
        )
      ]

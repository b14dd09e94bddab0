-- The limits of a tree are those that the ends of the plain rows give, for each of its buckets.
use Rattle.std.proofs.Common.{◌≡◌, ◌∙◌, ◌+◌, ◌<◌, ◌≤◌, ◌==◌, ℕ, suc, true, false, List, Option, refl, subst, inl, inr, arith}
use Rattle.bolt_layout.proofs.Words.{AreFromEnds, cases_Bool, end, eq-eqb, is_inline, items_of, leaf_pages, limit_at, limits_from_ends, opened_in}
use Rattle.bolt_layout.proofs.Words.{Plain, row_ends_of, Tree, with_bucket, with_value}
use Rattle.bolt_layout.specs.Openings.{limits_below, limits_for}

-- These limits are those below, for the buckets of a tree.
abbrev AreBelow : (page_size : ℕ) → (limits : ℕ → ℕ → Option ℕ) → (n : ℕ) → Tree → Type 0
AreBelow page_size limits n tree = (bucket level : ℕ) → n ≤ bucket → bucket < n + opened_in Plain page_size tree
    → limits bucket level ≡ limits_below page_size n tree bucket level

behind_inline : (page_size n : ℕ) (key : List ℕ) (sequence : ℕ) (inside after : Tree)
    → is_inline page_size inside (items_of Plain page_size inside) ≡ true → (bucket level : ℕ)
    → limits_below page_size n (with_bucket key sequence inside after) bucket level ≡ limits_below page_size n after bucket level
behind_inline page_size n key sequence inside after inline bucket level = rw inline refl

-- of a bucket with a root page, of what is inside, and of what comes after
own_below : (page_size n : ℕ) (key : List ℕ) (sequence : ℕ) (inside after : Tree)
    → is_inline page_size inside (items_of Plain page_size inside) ≡ false → (level : ℕ)
    → limits_below page_size n (with_bucket key sequence inside after) n level
    ≡ limit_at (limits_from_ends false (row_ends_of page_size (leaf_pages page_size (items_of Plain page_size inside)))) level
own_below page_size n key sequence inside after own level = let e : (n == n) ≡ true = eq-eqb n n refl in rw (own, e) refl

inside_below : (page_size n : ℕ) (key : List ℕ) (sequence : ℕ) (inside after : Tree)
    → is_inline page_size inside (items_of Plain page_size inside) ≡ false
    → (bucket level : ℕ) → suc n ≤ bucket → bucket < suc n + opened_in Plain page_size inside
    → limits_below page_size n (with_bucket key sequence inside after) bucket level ≡ limits_below page_size (suc n) inside bucket level
inside_below page_size n key sequence inside after own bucket level some few = grind arith

after_below : (page_size n : ℕ) (key : List ℕ) (sequence : ℕ) (inside after : Tree)
    → is_inline page_size inside (items_of Plain page_size inside) ≡ false
    → (bucket level : ℕ) → suc n + opened_in Plain page_size inside ≤ bucket
    → limits_below page_size n (with_bucket key sequence inside after) bucket level
    ≡ limits_below page_size (suc n + opened_in Plain page_size inside) after bucket level
after_below page_size n key sequence inside after own bucket level some = grind arith

below_from_ends : (page_size : ℕ) (limits : ℕ → ℕ → Option ℕ) (n : ℕ) (tree : Tree) → AreBelow page_size limits n tree
    → AreFromEnds page_size limits n tree
below_from_ends page_size limits n end are = tt
below_from_ends page_size limits n (with_value key value after) are = below_from_ends page_size limits n after are
below_from_ends page_size limits n (with_bucket key sequence inside after) are =
    elim (cases_Bool (is_inline page_size inside (items_of Plain page_size inside))) [
      | inl t ↦
          (let none : opened_in Plain page_size (with_bucket key sequence inside after) ≡ 0 + opened_in Plain page_size after = rw t refl in
          let behind : AreBelow page_size limits n after =
          λ bucket level some few. are bucket level some (omega arith) ∙ behind_inline page_size n key sequence inside after t bucket level in
          let same : n ≡ n + 0 = omega arith in
          let last : AreFromEnds page_size limits (n + 0) after =
          subst (λ (m : ℕ). AreFromEnds page_size limits m after) same (below_from_ends page_size limits n after behind) in
          rw t (λ own. absurd cc, last))
      | inr f ↦
          (let many : opened_in Plain page_size (with_bucket key sequence inside after)
          ≡ suc (opened_in Plain page_size inside) + opened_in Plain page_size after = rw f refl in
          let level_own : (level : ℕ) → limits n level ≡ limits_below page_size n (with_bucket key sequence inside after) n level =
          λ level. are n level (omega arith) (omega arith) in
          let within : AreBelow page_size limits (suc n) inside =
          λ bucket level some few. are bucket level (omega arith) (omega arith) ∙ inside_below page_size n key sequence inside after f bucket level some few in
          let behind : AreBelow page_size limits (suc n + opened_in Plain page_size inside) after =
          λ bucket level some few. are bucket level (omega arith) (omega arith) ∙ after_below page_size n key sequence inside after f bucket level some in
          let place : suc n + opened_in Plain page_size inside ≡ n + suc (opened_in Plain page_size inside) = omega arith in
          let last : AreFromEnds page_size limits (n + suc (opened_in Plain page_size inside)) after =
          subst (λ (m : ℕ). AreFromEnds page_size limits m after) place
          (below_from_ends page_size limits (suc n + opened_in Plain page_size inside) after behind) in
          let own_are : (level : ℕ)
          → limits n level ≡ limit_at (limits_from_ends false (row_ends_of page_size (leaf_pages page_size (items_of Plain page_size inside)))) level =
          λ level. level_own level ∙ own_below page_size n key sequence inside after f level in
          rw f (λ own. (own_are, below_from_ends page_size limits (suc n) inside within), last))
    ]

pub from_ends_by : (page_size : ℕ) (tree : Tree) (limits : ℕ → ℕ → Option ℕ)
    → ((bucket level : ℕ) → bucket < suc (opened_in Plain page_size tree) → limits bucket level ≡ limits_for page_size tree bucket level)
    → AreFromEnds page_size limits 1 tree
from_ends_by page_size tree limits same = grind (arith, below_from_ends)

pub from_ends_are : (page_size : ℕ) (tree : Tree) → AreFromEnds page_size (limits_for page_size tree) 1 tree
from_ends_are page_size tree = from_ends_by page_size tree (limits_for page_size tree) (λ bucket level few. refl)

-- The root bucket is number 0.
pub root_from_ends : (page_size : ℕ) (tree : Tree) (level : ℕ)
    → limits_for page_size tree 0 level ≡ limit_at (limits_from_ends false (row_ends_of page_size (leaf_pages page_size (items_of Plain page_size tree)))) level
root_from_ends page_size tree level = refl

-- The entries that begin with given bytes: none of them is below these bytes, and they lie side by side.
use Rattle.std.proofs.Common.{◌≡◌, ◌==◌, ◌+◌, ℕ, suc, Bool, true, false, not, inl, inr, List, [], ◌∷◌, cond, drop, refl, ap, subst, arith}
use Rattle.std.proofs.lemmas.Bool.Decides.{nat_tests}
use Rattle.bolt_lemmas.proofs.Exports.{contains_cases, contains_none, filter_none, lt_of}
use Rattle.bolt_report.proofs.Words.{has_key_prefix, Contains, entry_cmp, Key, key_lt, LeafElement, least_from, false_from_ne_true, Rises}
use Rattle.bolt_report.proofs.Words.{starts_with, with_prefix}
use Rattle.bolt_check.specs.Keys.{key_cmp}
use Rattle.bolt_check.proofs.Exports.{lt_trans}

abbrev pub key_begins : Key → Key → Bool
key_begins key prefix = starts_with (λ a b. a == b) key prefix

-- ---- keys

-- one byte more
next_between : (q x y : ℕ) (p a b : Key) → (key_lt a p ≡ false → key_lt a b ≡ true → key_begins b p ≡ true → key_begins a p ≡ true)
    → key_lt (x ∷ a) (q ∷ p) ≡ false → key_lt (x ∷ a) (y ∷ b) ≡ true → key_begins (y ∷ b) (q ∷ p) ≡ true → key_begins (x ∷ a) (q ∷ p) ≡ true
next_between q x y p a b later after less starts = grind (arith, nat_tests)

next_below : (q x : ℕ) (p a : Key) → (key_lt a p ≡ true → key_begins a p ≡ false) → key_lt (x ∷ a) (q ∷ p) ≡ true → key_begins (x ∷ a) (q ∷ p) ≡ false
next_below q x p a later less = grind (arith, nat_tests)

-- what isn't below a prefix, and is below a key that begins with it, begins with it
pub between : (prefix a b : Key) → key_lt a prefix ≡ false → key_lt a b ≡ true → key_begins b prefix ≡ true → key_begins a prefix ≡ true
between [] a b after less starts = refl
between (q ∷ p) [] b after less starts = cc
between (q ∷ p) (x ∷ a) [] after less starts = cc
between (q ∷ p) (x ∷ a) (y ∷ b) after less starts = next_between q x y p a b (between p a b) after less starts

-- what is below a prefix doesn't begin with it
pub below_prefix : (prefix a : Key) → key_lt a prefix ≡ true → key_begins a prefix ≡ false
below_prefix [] [] less = cc
below_prefix [] (x ∷ a) less = cc
below_prefix (q ∷ p) [] less = refl
below_prefix (q ∷ p) (x ∷ a) less = next_below q x p a (below_prefix p a) less

-- ---- entries

module _ (prefix : Key) where
  -- the first that doesn't begin so, and isn't below the prefix, ends them
  pub none_later : (e : LeafElement) (entries : List LeafElement) → Rises entry_cmp (e ∷ entries) → key_lt e.key prefix ≡ false
      → has_key_prefix prefix e ≡ false
      → with_prefix prefix (e ∷ entries) ≡ []
  none_later e entries rises after other =
      filter_none (has_key_prefix prefix) (e ∷ entries) (λ f h. elim (contains_cases e f entries h) [
        | inl s ↦ subst (λ (x : LeafElement). has_key_prefix prefix x ≡ false) s other
        | inr later ↦
            false_from_ne_true (has_key_prefix prefix f) (λ t. let c = between prefix e.key f.key after (lt_of (key_cmp e.key f.key) (rises.0 f later)) t in cc)
      ])

  -- they are among the entries from the least one on that isn't below the prefix,
  pub from_least : (entries : List LeafElement) → with_prefix prefix entries ≡ with_prefix prefix (drop (least_from prefix entries) entries)
  from_least [] = refl
  from_least (e ∷ entries) = by_first (from_least entries) (key_lt e.key prefix) refl
    where
      by_first : with_prefix prefix entries ≡ with_prefix prefix (drop (least_from prefix entries) entries) → (b : Bool) → key_lt e.key prefix ≡ b
          → with_prefix prefix (e ∷ entries) ≡ with_prefix prefix (drop (cond (not (not b)) (1 + least_from prefix entries) 0) (e ∷ entries))
      by_first later true below =
          let next : 1 + least_from prefix entries ≡ suc (least_from prefix entries) = omega arith in
          rw (next, below_prefix prefix e.key below) later
      by_first later false below = refl

  not_below : (e f : LeafElement) → key_lt e.key prefix ≡ false → key_lt e.key f.key ≡ true → key_lt f.key prefix ≡ false
  not_below e f after less = false_from_ne_true (key_lt f.key prefix) (λ t. let c = lt_trans e.key f.key prefix less t in cc)

  -- of which none is below it
  pub after_least : (entries : List LeafElement) → Rises entry_cmp entries → (f : LeafElement) → Contains (drop (least_from prefix entries) entries) f
      → key_lt f.key prefix ≡ false
  after_least [] rises f has = absurd (contains_none f has)
  after_least (e ∷ entries) rises f has = by_first (after_least entries rises.1 f) (key_lt e.key prefix) refl has
    where
      by_first : (Contains (drop (least_from prefix entries) entries) f → key_lt f.key prefix ≡ false) → (b : Bool) → key_lt e.key prefix ≡ b
          → Contains (drop (cond (not (not b)) (1 + least_from prefix entries) 0) (e ∷ entries)) f → key_lt f.key prefix ≡ false
      by_first later true below has =
          let next : 1 + least_from prefix entries ≡ suc (least_from prefix entries) = omega arith in
          later (rw next at has)
      by_first later false below has =
          elim (contains_cases e f entries has) [
            | inl s ↦ subst (λ (x : LeafElement). key_lt x.key prefix ≡ false) s below
            | inr more ↦ not_below e f below (lt_of (key_cmp e.key f.key) (rises.0 f more))
          ]

-- every key begins with no bytes
pub with_none : (entries : List LeafElement) → with_prefix [] entries ≡ entries
with_none [] = refl
with_none (e ∷ entries) = ap (λ (es : List LeafElement). e ∷ es) (with_none entries)

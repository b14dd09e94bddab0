-- In a history no number is missing, whatever a compaction removed up to its transaction.
use Rattle.std.proofs.Common.{◌≡◌, ◌∙◌, ◌<◌, ◌≤◌, ◌+◌, ◌-◌, inl, inr, ℕ, List, [], ◌∷◌, map, max, nat_lt, ◌==◌, Some, refl, ap, arith}
use Rattle.std.proofs.lemmas.Bool.{cases_lt, cond-false, cond-true, eq-eqb, le-ltb, lt-ltb, ne_eqb}
use Rattle.std.specs.Option.{option_to_list}
use Rattle.bolt_lemmas.proofs.Exports.{drops, keeps}
use Rattle.bolt_etcd.specs.{Histories.Transactions.State, Histories.Transactions.after, Wire.Revisions.RevisionView}
use Rattle.bolt_etcd.specs.Check.MissingNumbers.{is_of_later, keys_above, missing_after, missing_before, missing_numbers, revisions_between}
use Rattle.bolt_etcd.specs.Check.MissingNumbers.{transactions_between}
use Rattle.bolt_etcd.specs.{declared.wire.revision_key.RevisionKey.RevisionKey}
use Rattle.bolt_etcd.specs.declared.check.missing.Missing.TheVariants.{Revisions, Transactions}
use Rattle.bolt_etcd.proofs.HistorySteps.{Goes, IsNext}

no_transaction : (before main : ℕ) → main ≤ before + 1 → option_to_list (transactions_between before main) ≡ []
no_transaction before main le =
    ap option_to_list (cond-false (nat_lt (before + 1) main) (Some (Transactions (before + 1) (main - 1))) _ (le-ltb (before + 1) main le))

no_revision : (main from sub : ℕ) → sub ≤ from → option_to_list (revisions_between main from sub) ≡ []
no_revision main from sub le = ap option_to_list (cond-false (nat_lt from sub) (Some (Revisions main from (sub - 1))) _ (le-ltb from sub le))

none_same : (main sub : ℕ) (k : RevisionKey) → k.main ≡ main → k.sub ≡ sub → missing_before main sub k ≡ []
unfolding missing_before
none_same main sub k m s = cond-true (k.main == main) _ _ (eq-eqb k.main main m) ∙ no_revision main sub k.sub (omega (arith, s))

none_later : (main sub : ℕ) (k : RevisionKey) → k.main ≡ main + 1 → k.sub ≡ 0 → missing_before main sub k ≡ []
unfolding missing_before
none_later main sub k m s = grind (arith, cond-false, ne_eqb, no_transaction, no_revision)

none_before : (main sub : ℕ) (k : RevisionKey) → IsNext main sub k → missing_before main sub k ≡ []
none_before main sub k (inl (m, s)) = none_same main sub k m s
none_before main sub k (inr (some, m, s)) = none_later main sub k m s

abbrev keys : List RevisionView → List RevisionKey
keys rs = map (λ (r : RevisionView). r.key) rs

module _ (compacted : ℕ) where
  above : (r : RevisionView) (rs : List RevisionView) → compacted < r.key.main → keys_above compacted (r ∷ rs) ≡ r.key ∷ keys_above compacted rs
  above r rs lt = ap keys (keeps (is_of_later compacted) (r ∷ rs) rs r refl (lt-ltb compacted r.key.main lt))

  below : (r : RevisionView) (rs : List RevisionView) → r.key.main ≤ compacted → keys_above compacted (r ∷ rs) ≡ keys_above compacted rs
  below r rs le = ap keys (drops (is_of_later compacted) (r ∷ rs) rs r refl (le-ltb compacted r.key.main le))

  next_main : (main sub : ℕ) (k : RevisionKey) → IsNext main sub k → main ≤ k.main
  next_main main sub k next = grind arith

  one_none : (main sub : ℕ) (r : RevisionView) (rs : List RevisionView) → compacted < r.key.main → missing_before main sub r.key ≡ []
      → missing_after r.key.main (r.key.sub + 1) (keys_above compacted rs) ≡ [] → missing_after main sub (keys_above compacted (r ∷ rs)) ≡ []
  one_none main sub r rs lt none later = grind arith

  none_after : (state : State) (main sub : ℕ) (rs : List RevisionView) → Goes state main sub rs → compacted < main
      → missing_after main sub (keys_above compacted rs) ≡ []
  none_after state main sub [] go lt = refl
  none_after state main sub (r ∷ rs) (next, is, go) lt =
      let le = next_main main sub r.key next in
      let up : compacted < r.key.main = omega (arith, le) in
      one_none main sub r rs up (none_before main sub r.key next) (none_after (after r state) r.key.main (r.key.sub + 1) rs go up)

  -- what comes next is of a compacted transaction, or the first of the one after it
  abbrev Begins : (main sub : ℕ) → Type 0
  Begins main sub = (0 < main) × (main ≤ max compacted 1 + 1) × (compacted < main → sub ≡ 0)

  begins_next : (main sub : ℕ) (k : RevisionKey) → Begins main sub → IsNext main sub k → Begins k.main k.sub
  begins_next main sub k begins next = grind arith

  begins_up : (k : RevisionKey) → Begins k.main k.sub → compacted < k.main → missing_before (max compacted 1) 0 k ≡ []
  begins_up k (some, le, first) lt = grind (arith, cases_lt, none_later, none_same)

  none_from : (state : State) (main sub : ℕ) (rs : List RevisionView) → Goes state main sub rs → Begins main sub
      → missing_after (max compacted 1) 0 (keys_above compacted rs) ≡ []
  none_from state main sub [] go begins = refl
  none_from state main sub (r ∷ rs) (next, is, go) begins =
      let here = begins_next main sub r.key begins next in
      elim (cases_lt compacted r.key.main) [
        | inl lt ↦
            one_none (max compacted 1) 0 r rs lt (begins_up r.key here lt)
            (none_after (after r state) r.key.main (r.key.sub + 1) rs go lt)
        | inr low ↦
            ap (missing_after (max compacted 1) 0) (below r rs low)
            ∙ none_from (after r state) r.key.main (r.key.sub + 1) rs go (here.0, here.1, λ up. absurd (omega (arith, up, low)))
      ]

  pub none_missing : (state : State) (rs : List RevisionView) → Goes state 2 0 rs → missing_numbers compacted rs ≡ []
  none_missing state rs go = none_from state 2 0 rs go (omega arith, omega arith, λ up. refl)

-- The revisions of a history up to a transaction are those of the transactions up to it.
use Rattle.std.proofs.Common.{◌<◌, true, false, ◌≡◌, ◌∙◌, ◌≤◌, ◌+◌, ◌-◌, ◌++◌, inl, inr, ℕ, zero, suc, List, [], ◌∷◌, not, take, refl, sym, ap, arith}
use Rattle.std.proofs.{lemmas.Bool.cases_lt, lemmas.Bool.le-ltb, lemmas.Bool.lt-ltb, lemmas.List.Elements.Contains-append_cases}
use Rattle.std.proofs.{lemmas.List.Elements.filter-append}
use Rattle.std.specs.List.{Contains}
use Rattle.bolt_lemmas.proofs.Exports.{contains_cases, contains_none, filter_all, filter_none}
use Rattle.bolt_check.specs.Keys.{Key}
use Rattle.bolt_etcd.specs.Histories.Transactions.{State, Transaction, Write, after, after_all, history, history_from, revision_by, state_at, written}
use Rattle.bolt_etcd.specs.{Store.Newest.is_until, Store.Newest.newest, Store.Newest.until, Wire.Revisions.RevisionView}
use Rattle.bolt_etcd.proofs.NameHistories.{held_of, newest_held}

main_written : (state : State) (main sub : ℕ) (ws : List Write) (r : RevisionView) → Contains (written state main sub ws) r → r.key.main ≡ main
main_written state main sub [] r has = absurd (contains_none r has)
main_written state main sub (w ∷ ws) r has = elim (contains_cases _ r _ has) [
  | inl same ↦ ap (λ (x : RevisionView). x.key.main) (sym same)
  | inr more ↦ main_written (after (revision_by state main sub w) state) main (sub + 1) ws r more
]

main_from : (state : State) (main : ℕ) (ts : List Transaction) (r : RevisionView) → Contains (history_from state main ts) r → main ≤ r.key.main
main_from state main [] r has = absurd (contains_none r has)
main_from state main (t ∷ later) r has = elim (Contains-append_cases (written state main 0 t) _ r has) [
  | inl here ↦ (let e = main_written state main 0 t r here in omega (arith, e))
  | inr more ↦ (let le = main_from (after_all (written state main 0 t) state) (main + 1) later r more in omega (arith, le))
]

take_none : (n : ℕ) → take {A = Transaction} n [] ≡ []
take_none zero = refl
take_none (suc n) = refl

pub until_early : (at : ℕ) (r : RevisionView) → r.key.main ≤ at → is_until at r ≡ true
until_early at r le = ap not (le-ltb at r.key.main le)

pub until_late : (at : ℕ) (r : RevisionView) → at < r.key.main → is_until at r ≡ false
until_late at r lt = ap not (lt-ltb at r.key.main lt)

until_from : (at : ℕ) (state : State) (main : ℕ) (ts : List Transaction)
    → until at (history_from state main ts) ≡ history_from state main (take (at + 1 - main) ts)
until_from at state main [] = rw (take_none (at + 1 - main)) refl
until_from at state main (t ∷ later) = elim (cases_lt at main) [
  | inl lt ↦ (
      let zero_left : at + 1 - main ≡ 0 = omega (arith, lt) in
      rw zero_left (filter_none (is_until at) (history_from state main (t ∷ later)) (λ r has.
      let le = main_from state main (t ∷ later) r has in
      until_late at r (omega (arith, le, lt)))))
  | inr le ↦ (
      let one_more : at + 1 - main ≡ suc (at + 1 - (main + 1)) = omega (arith, le) in
      let all = λ (r : RevisionView) (has : Contains (written state main 0 t) r).
      (let e = main_written state main 0 t r has in until_early at r (omega (arith, e, le))) in
      let rest = until_from at (after_all (written state main 0 t) state) (main + 1) later in
      filter-append (is_until at) (written state main 0 t) (history_from (after_all (written state main 0 t) state) (main + 1) later)
      ∙ rw (one_more, filter_all (is_until at) (written state main 0 t) all) (ap (λ (rs : List RevisionView). written state main 0 t ++ rs) rest))
]

until_history : (at : ℕ) (ts : List Transaction) → until at (history ts) ≡ history (take (at - 1) ts)
until_history at ts = grind (arith, until_from)

-- after a transaction a name holds the newest of its revisions up to then
pub held_at : (at : ℕ) (ts : List Transaction) (name : Key) → state_at at ts name ≡ held_of (newest name (until at (history ts)))
held_at at ts name =
    newest_held name (history (take (at - 1) ts)) ∙ ap (λ (rs : List RevisionView). held_of (newest name rs)) (sym (until_history at ts))

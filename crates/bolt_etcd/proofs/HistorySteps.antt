-- A history, revision by revision: each is written upon what the earlier ones left, and is the next of its transaction or the first of the next one.
use Rattle.std.proofs.Common.{◌≡◌, ◌∙◌, ◌<◌, ◌≤◌, ◌+◌, ◌⊎◌, inl, inr, ℕ, false, List, [], ◌∷◌, ◌++◌, refl, sym, ap, subst, arith}
use Rattle.std.proofs.lemmas.Cmp.{nat_cmp_total, tied_itself}
use Rattle.std.specs.{List.Contains, Ordering.nat_cmp, Ordering.ordering_then, declared.cmp.Ordering.Ordering}
use Rattle.std.specs.declared.cmp.Ordering.TheVariants.{Less}
use Rattle.bolt_lemmas.proofs.Exports.{contains_cases, contains_none, number_less, rises_as}
use Rattle.bolt_lemmas.specs.Order.{Rises}
use Rattle.bolt_etcd.specs.Histories.Transactions.{State, Transaction, Write, after, after_all, history, history_from, nothing, revision_by, written}
use Rattle.bolt_etcd.specs.{Wire.RevisionKeys.spelling, Wire.Revisions.RevisionView, Histories.Possible.CanFollow}
use Rattle.bolt_etcd.specs.Store.Orders.{stored_key_cmp}
use Rattle.bolt_etcd.specs.{Histories.Possible.CanWrite, Histories.Possible.CanWriteAll, Histories.Possible.ArePossible, Histories.Reported.number_cmp}
use Rattle.bolt_etcd.specs.declared.wire.revision_key.RevisionKey.{RevisionKey}
use Rattle.bolt_etcd.proofs.KeyNumbers.{less, spellings_cmp}

abbrev pub IsWritten : State → RevisionView → Type 0
IsWritten state r = (w : Write) × CanWrite state w × (r ≡ revision_by state r.key.main r.key.sub w)

-- these are the numbers, or the first of the next transaction
abbrev pub IsNext : (main sub : ℕ) → RevisionKey → Type 0
IsNext main sub k = ((k.main ≡ main) × (k.sub ≡ sub)) ⊎ ((0 < sub) × (k.main ≡ main + 1) × (k.sub ≡ 0))

abbrev pub Goes : State → (main sub : ℕ) → List RevisionView → Type 0
Goes state main sub [] = Unit {0}
Goes state main sub (r ∷ rs) = IsNext main sub r.key × IsWritten state r × Goes (after r state) r.key.main (r.key.sub + 1) rs

more_go : (state : State) (main sub : ℕ) (ws : List Write) (rest : List RevisionView) → CanWriteAll state main sub ws
    → ((n : ℕ) → sub ≤ n → Goes (after_all (written state main sub ws) state) main n rest) → Goes state main sub (written state main sub ws ++ rest)
more_go state main sub [] rest can go = go sub (omega arith)
more_go state main sub (w ∷ ws) rest (can, more) go = (
  inl (refl, refl),
  (w, can, refl),
  more_go (after (revision_by state main sub w) state) main (sub + 1) ws rest more (λ n le. go n (omega (arith, le))),
)

from_go : (state : State) (main sub at : ℕ) (ts : List Transaction) → IsNext main sub (record { main = at; sub = 0; deleted = false })
    → CanFollow state at ts
    → Goes state main sub (history_from state at ts)
from_go state main sub at [] next can = tt
from_go state main sub at ([] ∷ later) next can = absurd (let lt = can.0 in omega (arith, lt))
from_go state main sub at ((w ∷ ws) ∷ later) next (lt, (can, more), rest) = (
  next,
  (w, can, refl),
  more_go (after (revision_by state at 0 w) state) at 1 ws _ more
      (λ n le. from_go (after_all (written state at 0 (w ∷ ws)) state) at n (at + 1) later (inr (omega (arith, le), refl, refl)) rest),
)

pub goes : (ts : List Transaction) → ArePossible ts → Goes nothing 2 0 (history ts)
goes ts possible = from_go nothing 2 0 2 ts (inl (refl, refl)) possible.allowed

-- ---- what holds of each revision that is written

pub each : (Q : RevisionView → Type 0) → ((state : State) (r : RevisionView) → IsWritten state r → Q r)
    → (state : State) (main sub : ℕ) (rs : List RevisionView) → Goes state main sub rs
    → (r : RevisionView) → Contains rs r → Q r
each Q one state main sub [] go r has = absurd (contains_none r has)
each Q one state main sub (s ∷ rs) (next, is, go) r has = elim (contains_cases s r rs has) [
  | inl same ↦ subst Q same (one state s is)
  | inr more ↦ each Q one (after s state) s.key.main (s.key.sub + 1) rs go r more
]

-- ---- the numbers rise

abbrev IsFrom : (main sub : ℕ) → RevisionView → Type 0
IsFrom main sub r = (main < r.key.main) ⊎ ((r.key.main ≡ main) × (sub ≤ r.key.sub))

from_next : (main sub : ℕ) (k : RevisionKey) (r : RevisionView) → IsNext main sub k → IsFrom k.main k.sub r → IsFrom main sub r
from_next main sub k r next from = grind arith

from_step : (k : RevisionKey) (r : RevisionView) → IsFrom k.main (k.sub + 1) r → IsFrom k.main k.sub r
from_step k r from = grind arith

pub from : (state : State) (main sub : ℕ) (rs : List RevisionView) → Goes state main sub rs → (r : RevisionView) → Contains rs r → IsFrom main sub r
from state main sub [] go r has = absurd (contains_none r has)
from state main sub (s ∷ rs) (next, is, go) r has = from_next main sub s.key r next (elim (contains_cases s r rs has) [
  | inl same ↦ subst (IsFrom s.key.main s.key.sub) same (inr (refl, omega arith))
  | inr more ↦ from_step s.key r (from (after s state) s.key.main (s.key.sub + 1) rs go r more)
])

-- by their numbers, whether they are deletions or not
abbrev pub pair_cmp : RevisionView → RevisionView → Ordering
pair_cmp a b = ordering_then (nat_cmp a.key.main b.key.main) (nat_cmp a.key.sub b.key.sub)

pair_less : (a b : RevisionView) → IsFrom a.key.main (a.key.sub + 1) b → pair_cmp a b ≡ Less
pair_less a b (inl lt) = ap (λ (o : Ordering). ordering_then o (nat_cmp a.key.sub b.key.sub)) (less a.key.main b.key.main lt)
pair_less a b (inr (e, le)) = rw (e, tied_itself nat_cmp_total a.key.main) (less a.key.sub b.key.sub (omega (arith, le)))

pairs_rise : (state : State) (main sub : ℕ) (rs : List RevisionView) → Goes state main sub rs → Rises pair_cmp rs
pairs_rise state main sub [] go = tt
pairs_rise state main sub (r ∷ rs) (next, is, go) = (
  λ s has. pair_less r s (from (after r state) r.key.main (r.key.sub + 1) rs go s has),
  pairs_rise (after r state) r.key.main (r.key.sub + 1) rs go,
)

pub numbers_rise : (rs : List RevisionView) → Rises pair_cmp rs → Rises number_cmp rs
numbers_rise rs = grind (arith, rises_as, number_less)

pub history_rises : (ts : List Transaction) → ArePossible ts → Rises pair_cmp (history ts)
history_rises ts possible = pairs_rise nothing 2 0 (history ts) (goes ts possible)

-- ---- and so do the stored keys

is_spelled : (state : State) (r : RevisionView) → IsWritten state r → r.stored_key ≡ spelling r.key
is_spelled state r (w, can, is) = ap (λ (x : RevisionView). x.stored_key) is ∙ ap (λ (x : RevisionView). spelling x.key) (sym is)

stored_key_is : (ts : List Transaction) → ArePossible ts → (r : RevisionView) → Contains (history ts) r → r.stored_key ≡ spelling r.key
stored_key_is ts possible r has = each (λ (s : RevisionView). s.stored_key ≡ spelling s.key) is_spelled nothing 2 0 (history ts) (goes ts possible) r has

pub same_order : (ts : List Transaction) → ArePossible ts → (a b : RevisionView) → Contains (history ts) a → Contains (history ts) b
    → stored_key_cmp a b ≡ number_cmp a b
same_order ts possible a b has also =
    rw (stored_key_is ts possible a has, stored_key_is ts possible b also) (spellings_cmp a.key b.key (possible.fits a has) (possible.fits b also))

pub stored_keys_rise : (ts : List Transaction) → ArePossible ts → Rises stored_key_cmp (history ts)
stored_keys_rise ts possible = grind (arith, rises_as, same_order, numbers_rise, history_rises)

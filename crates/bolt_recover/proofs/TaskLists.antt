-- What there is to do at a site, entry by entry.
use Rattle.std.proofs.Common.{◌≡◌, ◌≤◌, ◌<◌, inl, inr, ℕ, zero, suc, ◌+◌, List, [], ◌∷◌, ◌++◌, Option, Some, None, slice_get, refl, arith}
use Rattle.bolt_recover.proofs.Words.{cases_lt, entry_tasks, Finding, further, gives_at, has_left, has_right, has_split, LeafElement, Meta, Site}
use Rattle.bolt_recover.proofs.Words.{step_site, Task, tasks_after, tasks_from, To_give, To_visit, visits_at, Way, Has}

module _ (file : List ℕ) (meta : Meta) where
  -- this is to be done at entry i of a site
  abbrev pub IsAt : Way → Site → ℕ → Task → Type 0
  IsAt w p i (To_give path e) = (slice_get p.elements i ≡ Some e) × (path ≡ p.path ++ e.key ∷ [])
  IsAt w p i (To_visit v t) = (v ≡ further w i) × (step_site file meta p i ≡ Some t)

  module _ (w : Way) (p : Site) where
    by_entry : (i : ℕ) (o : Option LeafElement) (q : Option Site) (task : Task) → slice_get p.elements i ≡ o → step_site file meta p i ≡ q
        → Has (gives_at file meta p.path o ++ visits_at file meta (further w i) q) task → IsAt w p i task
    by_entry i o q task get next h = grind arith

    pub entry_at : (i : ℕ) (task : Task) → Has (entry_tasks file meta w p i) task → IsAt w p i task
    entry_at i task h = by_entry i (slice_get p.elements i) (step_site file meta p i) task refl refl h

    at_entry : (i : ℕ) (task : Task) → IsAt w p i task → Has (entry_tasks file meta w p i) task
    at_entry i task h = grind (arith, has_right)

    pub from_at : (i k : ℕ) (task : Task) → Has (tasks_from file meta w p i k) task → (j : ℕ) × (i ≤ j) × IsAt w p j task
    from_at i zero task h = absurd h
    from_at i (suc k) task h =
        elim (has_split (entry_tasks file meta w p i) (tasks_from file meta w p (suc i) k) task h) [
          | inl here ↦ (i, omega arith, entry_at i task here)
          | inr later ↦ let (j, le, at) = from_at (suc i) k task later in (j, omega (arith, le), at)
        ]

    pub at_from : (i k j : ℕ) (task : Task) → i ≤ j → j < i + k → IsAt w p j task → Has (tasks_from file meta w p i k) task
    at_from i zero j task le lt at = absurd (omega (arith, le, lt))
    at_from i (suc k) j task le lt at = let later = at_from (suc i) k in grind (arith, cases_lt, has_right, has_left, at_entry, later)

    -- after a visit there is something to be done only if the site is kept
    pub after_at : (found : Option Finding) (task : Task) → Has (tasks_after file meta w p found) task → (found ≡ None) × (j : ℕ) × IsAt w p j task
    after_at found task h = grind (arith, from_at)

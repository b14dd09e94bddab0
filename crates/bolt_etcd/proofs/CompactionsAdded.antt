-- Two compactions are one.
use Rattle.std.proofs.Common.{◌≡◌, ◌∙◌, ◌≤◌, ◌&&◌, ℕ, Bool, List, filter, inl, inr}
use Rattle.std.proofs.Common.{Some, None, sym, arith}
use Rattle.std.proofs.lemmas.Bool.{and_from, and_parts, cases_lt}
use Rattle.std.specs.List.{Contains}
use Rattle.bolt_lemmas.proofs.Exports.{filter_both, filter_same, filters_swap, kept_from, last_in, last_passes}
use Rattle.bolt_check.specs.Keys.{Key}
use Rattle.bolt_etcd.specs.{Histories.Compactions.IsCompaction, Histories.Transactions.Transaction, Histories.Transactions.history}
use Rattle.bolt_etcd.specs.{Histories.Transactions.state_at, Store.Newest.is_named, Store.Newest.is_until, Store.Newest.newest, Store.Newest.until}
use Rattle.bolt_etcd.specs.Wire.Revisions.{RevisionView}
use Rattle.bolt_etcd.proofs.{HistoryUntil.held_at, HistoryUntil.until_early, HistoryUntil.until_late}
use Rattle.bolt_etcd.proofs.{NameHistories.held_parts}

module _ (ts : List Transaction) (early late : ℕ) (le : early ≤ late) where
  abbrev both : RevisionView → Bool
  both r = is_until early r && is_until late r

  either : (r : RevisionView) → both r ≡ is_until early r
  either r = grind (arith, cases_lt, until_late, until_early)

  until_both : until early (history ts) ≡ until early (until late (history ts))
  until_both = sym (filter_both (is_until early) (is_until late) (history ts) ∙ filter_same both (is_until early) (history ts) (λ r has. either r))

  -- what a name holds then was there before, if it was put before
  held_early : (name : Key) (r : RevisionView) → state_at late ts name ≡ Some r → r.key.main ≤ early → state_at early ts name ≡ Some r
  unfolding newest
  held_early name r holds low = grind (arith, held_at, held_parts, until_both, filters_swap, last_passes, until_early)

  held_there : (name : Key) (r : RevisionView) → state_at late ts name ≡ Some r → Contains (history ts) r
  unfolding newest
  held_there name r holds =
      let (last, live) = held_parts _ r (sym (held_at late ts name) ∙ holds) in
      elim (last_in None (filter (is_named name) (until late (history ts))) r last) [
        | inl nowhere ↦ cc
        | inr has ↦ (kept_from (is_until late) (history ts) r (kept_from (is_named name) (until late (history ts)) r has).0).0
      ]

  pub added_up : (first second : RevisionView → Bool) → IsCompaction early ts first → IsCompaction late ts second
      → IsCompaction late ts (λ r. first r && second r)
  added_up first second is also = grind (arith, and_from, cases_lt, held_there, held_early, and_parts)

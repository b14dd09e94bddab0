-- After a compaction the keys that there are at a later transaction are what the names held then.
use Rattle.std.proofs.Common.{◌<◌, ◌≡◌, ◌∙◌, ◌≤◌, ◌++◌, ◌↔◌, ℕ, Bool, List, [], ◌∷◌, filter, inl, inr, Some, None, sym}
use Rattle.std.proofs.Common.{subst, ap, arith}
use Rattle.std.proofs.{lemmas.Bool.cases_lt, lemmas.Bool.cond-false, lemmas.List.append-nil, lemmas.List.Elements.filter-append}
use Rattle.std.specs.List.{Contains, last_or}
use Rattle.bolt_lemmas.proofs.Exports.{contains_none, filter_all, filters_swap, kept as passes, last_of_both}
use Rattle.bolt_check.specs.Keys.{Key}
use Rattle.bolt_etcd.specs.{Histories.Compactions.IsCompaction, Histories.Compactions.kept_revisions, Store.Current.AreCurrent}
use Rattle.bolt_etcd.specs.{Store.Current.IsCurrent, Histories.Transactions.AreOfState}
use Rattle.bolt_etcd.specs.{Histories.Transactions.Transaction, Histories.Transactions.history, Histories.Transactions.state_at}
use Rattle.bolt_etcd.specs.{Store.Newest.is_named, Store.Newest.is_until, Store.Newest.newest, Store.Newest.until, Wire.Revisions.RevisionView}
use Rattle.bolt_etcd.specs.{Wire.Revisions.name_of}
use Rattle.bolt_etcd.specs.Histories.Possible.{ArePossible}
use Rattle.bolt_etcd.proofs.{HistoryUntil.held_at, HistoryUntil.until_early, KeptOfNames.IsCut, KeptOfNames.cut, NameHistories.held_of}
use Rattle.bolt_etcd.proofs.NameHistories.{held_parts}

-- a revision is current exactly if it is what its name holds
current_is_held : (rs : List RevisionView) (r : RevisionView) → IsCurrent rs r ↔ (held_of (newest (name_of r) rs) ≡ Some r)
current_is_held rs r = grind (arith, cond-false, held_parts)

module _ (compacted at : ℕ) (ts : List Transaction) (keeps : RevisionView → Bool) (possible : ArePossible ts) (compaction : IsCompaction compacted ts keeps)
    (le : compacted ≤ at) where
  module _ (name : Key) (removed rest : List RevisionView) (is : IsCut compacted ts keeps possible compaction name removed rest) where
    same_last : (rs : List RevisionView) → filter (is_until at) rest ≡ rs → held_of (last_or None rs) ≡ held_of (last_or None (removed ++ rs))
    same_last [] none =
        let later = λ (r : RevisionView) (has : Contains rest r). elim (cases_lt compacted r.key.main) as (λ x. compacted < r.key.main) [
          | inl lt ↦ lt
          | inr low ↦
              let there = passes (is_until at) rest r has (until_early at r (omega (arith, low, le))) in
              absurd (contains_none r (subst (λ (l : List RevisionView). Contains l r) none there))
        ] in
        sym (ap (λ (l : List RevisionView). held_of (last_or None l)) (append-nil removed) ∙ is.gone later)
    same_last (r ∷ rs) some = ap held_of (sym (last_of_both None removed (r ∷ rs)))

    until_removed : filter (is_until at) removed ≡ removed
    until_removed = filter_all (is_until at) removed (λ r has. let early = is.early r has in until_early at r (omega (arith, early, le)))

    all_at : filter (is_named name) (until at (history ts)) ≡ removed ++ filter (is_until at) rest
    all_at = grind (arith, filters_swap, filter-append, until_removed)

    kept_at : filter (is_named name) (until at (kept_revisions keeps ts)) ≡ filter (is_until at) rest
    kept_at = filters_swap (is_named name) (is_until at) (kept_revisions keeps ts) ∙ ap (filter (is_until at)) is.is_rest

    held_alike : held_of (newest name (until at (kept_revisions keeps ts))) ≡ state_at at ts name
    unfolding newest
    held_alike = grind (arith, kept_at, same_last, held_at, all_at)

  held_kept : (name : Key) → held_of (newest name (until at (kept_revisions keeps ts))) ≡ state_at at ts name
  held_kept name = let (removed, rest, is) = cut compacted ts keeps possible compaction name in held_alike name removed rest is

  current_held : (r : RevisionView) → IsCurrent (until at (kept_revisions keeps ts)) r ↔ (state_at at ts (name_of r) ≡ Some r)
  current_held r =
      let one = current_is_held (until at (kept_revisions keeps ts)) r in (
        λ current. sym (held_kept (name_of r)) ∙ one.0 current,
        λ holds. one.1 (held_kept (name_of r) ∙ holds),
      )

  pub currents_held : (current : List RevisionView) → AreCurrent (until at (kept_revisions keeps ts)) current ↔ AreOfState (state_at at ts) current
  currents_held current = (
    λ are. record {
      rises = are.rises;
      exact = λ r. (λ has. (current_held r).0 ((are.exact r).0 has), λ holds. (are.exact r).1 ((current_held r).1 holds));
    },
    λ are. record {
      rises = are.rises;
      exact = λ r. (λ has. (current_held r).1 ((are.exact r).0 has), λ is. (are.exact r).1 ((current_held r).0 is));
    },
  )

-- What etcd keeps in a compaction is what the names held then, and the older ones of a name go first.
use Rattle.std.proofs.Common.{◌≡◌, ◌∙◌, ◌<◌, ◌≤◌, ℕ, Bool, true, List, filter, inl, inr, not, Option, Some, None, sym, ap}
use Rattle.std.proofs.Common.{subst, arith}
use Rattle.std.proofs.lemmas.Bool.{and_from, cases_lt, lt-ltb, ltb-true, or_cases, or_left, or_right}
use Rattle.std.proofs.lemmas.Cmp.{nat_list_cmp_total, on_total}
use Rattle.std.specs.{Cmp.IsTotalOrder, Cmp.Lexicographic.same_text, List.Contains, List.last_or, declared.cmp.Ordering.TheVariants.Less}
use Rattle.bolt_lemmas.proofs.Exports.{asymmetric, filter_rises, irreflexive, kept as passes, kept_from, last_after, last_in}
use Rattle.bolt_lemmas.specs.Order.{Rises}
use Rattle.bolt_check.specs.Keys.{Key}
use Rattle.bolt_etcd.specs.{Histories.Compactions.IsCompaction, Histories.Compactions.etcd_keeps}
use Rattle.bolt_etcd.specs.Store.Orders.{stored_key_cmp}
use Rattle.bolt_etcd.specs.{Histories.Compactions.is_same_revision}
use Rattle.bolt_etcd.specs.{Histories.Transactions.Transaction, Histories.Transactions.history, Histories.Transactions.state_at}
use Rattle.bolt_etcd.specs.{Store.Newest.is_named, Store.Newest.is_until, Store.Newest.newest, Store.Newest.until, Wire.Revisions.RevisionView}
use Rattle.bolt_etcd.specs.{Wire.Revisions.name_of}
use Rattle.bolt_etcd.specs.Histories.Possible.{ArePossible}
use Rattle.bolt_etcd.proofs.{HistorySteps.stored_keys_rise, HistorySteps.same_order, HistoryUntil.held_at, HistoryUntil.until_early}
use Rattle.bolt_etcd.proofs.MissingExact.{main_le}
use Rattle.bolt_etcd.proofs.{NameHistories.held_parts, StoreLemmas.itself}

stored_keys_total : IsTotalOrder stored_key_cmp
stored_keys_total = on_total (λ (r : RevisionView). r.stored_key) nat_list_cmp_total

module _ (ts : List Transaction) (new : Bool) (compacted : ℕ) (possible : ArePossible ts) where
  abbrev keeps : RevisionView → Bool
  keeps r = etcd_keeps new compacted (history ts) r

  abbrev own : Key → List RevisionView
  own name = filter (is_named name) (until compacted (history ts))

  is_own : (name : Key) (r : RevisionView) → Contains (history ts) r → name_of r ≡ name → r.key.main ≤ compacted → Contains (own name) r
  is_own name r has same le =
      let early = passes (is_until compacted) (history ts) r has (until_early compacted r le) in
      passes (is_named name) (until compacted (history ts)) r early (rw same (itself name))

  own_rise : (name : Key) → Rises stored_key_cmp (own name)
  own_rise name = filter_rises stored_key_cmp (is_named name) _ (filter_rises stored_key_cmp (is_until compacted) (history ts) (stored_keys_rise ts possible))

  -- none of its name is between the newest one and the compaction
  none_after : (a b : RevisionView) (o : Option RevisionView) → last_or None (own (name_of a)) ≡ o → is_same_revision a o ≡ true
      → Contains (own (name_of a)) b → stored_key_cmp a b ≡ Less → ⊥
  none_after a b None e same has less = cc
  none_after a b (Some last) e same has less =
      let stored_key = same_text last.stored_key a.stored_key (sym same) in
      let up : stored_key_cmp last b ≡ Less = rw stored_key less in
      elim (last_after stored_key_cmp None (own (name_of a)) last b (own_rise (name_of a)) e has) [
        | inl is ↦ irreflexive stored_keys_total last (subst (λ (x : RevisionView). stored_key_cmp last x ≡ Less) is up)
        | inr back ↦ asymmetric stored_keys_total last b up back
      ]

  keeps_later : (r : RevisionView) → compacted < r.key.main → keeps r ≡ true
  keeps_later r lt = or_left _ _ (lt-ltb compacted r.key.main lt)

  keeps_held : (name : Key) (r : RevisionView) → state_at compacted ts name ≡ Some r → keeps r ≡ true
  unfolding newest
  keeps_held name r holds =
      let live_of = sym (held_at compacted ts name) ∙ holds in
      let (last, live) = held_parts (last_or None (own name)) r live_of in
      elim (last_in None (own name) r last) [
        | inl nowhere ↦ cc
        | inr has ↦
            let named = same_text (name_of r) name (sym (kept_from (is_named name) _ r has).1) in
            let same = ap (is_same_revision r) (ap (λ (n : Key). last_or None (own n)) named ∙ last) ∙ itself r.stored_key in
            or_right _ _ (and_from _ _ same (or_left _ _ (ap not live)))
      ]

  keeps_newer : (a b : RevisionView) → Contains (history ts) a → Contains (history ts) b → name_of a ≡ name_of b → stored_key_cmp a b ≡ Less
      → keeps a ≡ true → keeps b ≡ true
  unfolding newest
  keeps_newer a b has also same less keep = grind (arith, cases_lt, keeps_later, or_cases, main_le, same_order, ltb-true, is_own, none_after)

  pub etcd_compacts : IsCompaction compacted ts (etcd_keeps new compacted (history ts))
  etcd_compacts = record { later = λ r has lt. keeps_later r lt; live_of = keeps_held; oldest_first = keeps_newer }

-- What a compaction keeps of one name: all from a revision on.
use Rattle.std.proofs.Common.{arith, ◌≡◌, ◌∙◌, ◌<◌, ◌≤◌, ◌++◌, inl, inr, ℕ, Bool, false, List, [], ◌∷◌, filter, Option, Some}
use Rattle.std.proofs.Common.{None, refl, sym, ap, subst}
use Rattle.std.proofs.{lemmas.Bool.cases_Bool, lemmas.Bool.cases_lt, lemmas.Bool.cond-false, lemmas.List.append-nil}
use Rattle.std.proofs.{lemmas.List.Elements.Contains-append_left, lemmas.List.Elements.filter-append}
use Rattle.std.specs.{Cmp.Lexicographic.same_text, List.Contains, List.last_or}
use Rattle.bolt_lemmas.proofs.Exports.{contains_cases, contains_head, contains_none, contains_tail, filter_all, filter_none, filter_rises, filters_swap}
use Rattle.bolt_lemmas.proofs.Exports.{kept_from, last_in}
use Rattle.bolt_lemmas.specs.Order.{Rises}
use Rattle.bolt_check.specs.Keys.{Key}
use Rattle.bolt_etcd.specs.{Histories.Compactions.IsCompaction, Histories.Compactions.kept_revisions}
use Rattle.bolt_etcd.specs.Store.Orders.{stored_key_cmp}
use Rattle.bolt_etcd.specs.{Histories.Transactions.Transaction, Histories.Transactions.history}
use Rattle.bolt_etcd.specs.{Store.Newest.is_named, Store.Newest.is_until, Store.Newest.newest, Store.Newest.until, Wire.Revisions.RevisionView}
use Rattle.bolt_etcd.specs.{Wire.Revisions.name_of, Histories.Possible.ArePossible}
use Rattle.bolt_etcd.proofs.{HistorySteps.stored_keys_rise, HistoryUntil.until_early, HistoryUntil.until_late, HistoryUntil.held_at}
use Rattle.bolt_etcd.proofs.{NameHistories.held_of, NameHistories.held_parts}

module _ (compacted : ℕ) (ts : List Transaction) (keeps : RevisionView → Bool) (possible : ArePossible ts) (compaction : IsCompaction compacted ts keeps)
    (name : Key) where
  abbrev all_named : List RevisionView
  all_named = filter (is_named name) (history ts)

  record IsSplit (rs removed rest : List RevisionView) : Type 0 where
    joined : rs ≡ removed ++ rest
    left : filter keeps rs ≡ rest
    dropped : (r : RevisionView) → Contains removed r → keeps r ≡ false

  split : (rs : List RevisionView) → Rises stored_key_cmp rs → ((r : RevisionView) → Contains rs r → Contains (history ts) r × (name_of r ≡ name))
      → (removed : List RevisionView) × (rest : List RevisionView) × IsSplit rs removed rest
  split [] rise are = ([], [], record { joined = refl; left = refl; dropped = λ r none. absurd (contains_none r none) })
  split (r ∷ rs) rise are = elim (cases_Bool (keeps r)) [
    | inl is ↦ (
      [],
      r ∷ rs,
      record {
        joined = refl;
        left = filter_all keeps (r ∷ rs) (λ s has. elim (contains_cases r s rs has) [
          | inl same ↦ ap keeps (sym same) ∙ is
          | inr later ↦
              let (first, named) = are r (contains_head r rs) in
              let (second, also) = are s has in
              compaction.oldest_first r s first second (named ∙ sym also) (rise.0 s later) is
        ]);
        dropped = λ s none. absurd (contains_none s none);
      },
    )
    | inr is ↦
        let (removed, rest, more) = split rs rise.1 (λ s has. are s (contains_tail r s rs has)) in (
          r ∷ removed,
          rest,
          record {
            joined = ap (λ (l : List RevisionView). r ∷ l) more.joined;
            left = cond-false (keeps r) _ _ is ∙ more.left;
            dropped = λ s has. elim (contains_cases r s removed has) [ inl same ↦ ap keeps (sym same) ∙ is | inr later ↦ more.dropped s later ];
          },
        )
  ]

  -- a first part is removed, up to the compaction at most; if all that is kept is later, what was removed ends in a deletion or is nothing
  pub record IsCut (removed rest : List RevisionView) : Type 0 where
    pub joined : filter (is_named name) (history ts) ≡ removed ++ rest
    pub is_rest : filter (is_named name) (kept_revisions keeps ts) ≡ rest
    pub early : (r : RevisionView) → Contains removed r → r.key.main ≤ compacted
    pub gone : ((r : RevisionView) → Contains rest r → compacted < r.key.main) → held_of (last_or None removed) ≡ None

  own : (r : RevisionView) → Contains all_named r → Contains (history ts) r × (name_of r ≡ name)
  own r has = let (there, passes) = kept_from (is_named name) (history ts) r has in (there, same_text (name_of r) name (sym passes))

  own_rise : Rises stored_key_cmp all_named
  own_rise = filter_rises stored_key_cmp (is_named name) (history ts) (stored_keys_rise ts possible)

  module _ (removed rest : List RevisionView) (is : IsSplit all_named removed rest) where
    is_early : (r : RevisionView) → Contains removed r → r.key.main ≤ compacted
    is_early r has = elim (cases_lt compacted r.key.main) [
      | inl lt ↦
          let there = own r (subst (λ (l : List RevisionView). Contains l r) (sym is.joined) (Contains-append_left removed rest r has)) in
          let keep = compaction.later r there.0 lt in
          let drop = is.dropped r has in
          cc
      | inr le ↦ le
    ]

    until_removed : filter (is_until compacted) removed ≡ removed
    until_removed = filter_all (is_until compacted) removed (λ r has. until_early compacted r (is_early r has))

    until_rest : ((r : RevisionView) → Contains rest r → compacted < r.key.main) → filter (is_until compacted) rest ≡ []
    until_rest later = filter_none (is_until compacted) rest (λ r has. until_late compacted r (later r has))

    newest_removed : ((r : RevisionView) → Contains rest r → compacted < r.key.main)
        → newest name (until compacted (history ts)) ≡ last_or None removed
    unfolding newest
    newest_removed later = grind (arith, filters_swap, filter-append, until_removed, until_rest, append-nil)

    none_left : (o : Option RevisionView) → ((r : RevisionView) → Contains rest r → compacted < r.key.main) → held_of (last_or None removed) ≡ o
        → o ≡ None
    none_left None later e = refl
    none_left (Some r) later e =
        let keep = compaction.live_of name r (held_at compacted ts name ∙ ap held_of (newest_removed later) ∙ e) in
        elim (last_in None removed r ((held_parts (last_or None removed) r e).0)) [
          | inl none ↦ cc
          | inr has ↦ (let gone = is.dropped r has in cc)
        ]

    cut_is : IsCut removed rest
    cut_is = record {
      joined = is.joined;
      is_rest = filters_swap (is_named name) keeps (history ts) ∙ is.left;
      early = is_early;
      gone = λ later. none_left (held_of (last_or None removed)) later refl;
    }

  pub cut : (removed : List RevisionView) × (rest : List RevisionView) × IsCut removed rest
  cut = let (removed, rest, is) = split all_named own_rise own in (removed, rest, cut_is removed rest is)

-- A revision that is taken away from a store is reported as missing by its numbers.
use Rattle.std.proofs.Common.{◌≡◌, ◌<◌, ◌++◌, ℕ, Bool, List, ◌∷◌, inl, inr, sym, subst, arith}
use Rattle.std.proofs.{lemmas.Cmp.nat_cmp_total, lemmas.Cmp.tied_itself, lemmas.List.Elements.Contains-append_cases}
use Rattle.std.proofs.{lemmas.List.Elements.Contains-append_right}
use Rattle.std.specs.{List.Contains, declared.cmp.Ordering.TheVariants.Less}
use Rattle.bolt_lemmas.proofs.Exports.{after_it, before_it, contains_head, filter_rises, kept_from, without_rises}
use Rattle.bolt_lemmas.specs.Order.{Rises}
use Rattle.bolt_etcd.specs.{Histories.Compactions.kept_revisions, Histories.Transactions.Transaction}
use Rattle.bolt_etcd.specs.Store.Orders.{stored_key_cmp}
use Rattle.bolt_etcd.specs.{Histories.Transactions.history, Histories.Transactions.nothing, Check.MissingNumbers.missing_numbers}
use Rattle.bolt_etcd.specs.{Wire.Revisions.RevisionView}
use Rattle.bolt_etcd.specs.{Histories.Possible.ArePossible, Histories.Taken.IsTaken, Histories.Reported.IsReported}
use Rattle.bolt_etcd.specs.{Histories.ReportedRevisions.IsReportedRevision}
use Rattle.bolt_etcd.proofs.HistorySteps.{from, goes, history_rises, numbers_rise, pair_cmp, stored_keys_rise}
use Rattle.bolt_etcd.proofs.{MissingExact.missing_reported, RevisionsExact.revisions_reported}

apart : (a b : RevisionView) → pair_cmp a b ≡ Less → a.key.main ≡ b.key.main → a.key.sub ≡ b.key.sub → ⊥
apart a b less main sub = let tied = rw (main, sub, tied_itself nat_cmp_total b.key.main, tied_itself nat_cmp_total b.key.sub) at less in cc

module _ (compacted : ℕ) (ts : List Transaction) (keeps : RevisionView → Bool) (possible : ArePossible ts) (r : RevisionView) (left : List RevisionView)
    (is : IsTaken compacted (kept_revisions keeps ts) r left) where
  pub all_rise : Rises pair_cmp (is.before ++ r ∷ is.after)
  all_rise = subst (Rises pair_cmp) is.there (filter_rises pair_cmp keeps (history ts) (history_rises ts possible))

  left_rises : Rises pair_cmp left
  left_rises = subst (Rises pair_cmp) (sym is.gone) (without_rises r pair_cmp is.before is.after all_rise)

  -- no other one has its numbers
  not_left : (x : RevisionView) → Contains left x → x.key.main ≡ r.key.main → x.key.sub ≡ r.key.sub → ⊥
  not_left x has main sub = elim (Contains-append_cases is.before is.after x (subst (λ (l : List RevisionView). Contains l x) is.gone has)) [
    | inl first ↦ apart x r (before_it r pair_cmp is.before is.after x all_rise first) main sub
    | inr second ↦ apart r x (after_it r pair_cmp is.before is.after x all_rise second) (sym main) (sym sub)
  ]

  pub there : Contains (history ts) r
  there =
      let here = Contains-append_right is.before (r ∷ is.after) r (contains_head r is.after) in
      (kept_from keeps (history ts) r (subst (λ (l : List RevisionView). Contains l r) (sym is.there) here)).0

  pub reported_by_number : (later : RevisionView) → Contains left later → later.key.main ≡ r.key.main → r.key.sub < later.key.sub
      → IsReportedRevision r.key.main r.key.sub (missing_numbers compacted left)
  reported_by_number later has same lt =
      (revisions_reported r.key.main r.key.sub compacted left (numbers_rise left left_rises)).1
      (record { after = is.above; later = later; there = has; same = same; before = lt; none = not_left })

  pub reported_by_transaction : (later : RevisionView) → Contains left later → r.key.main < later.key.main
      → ((x : RevisionView) → Contains left x → x.key.main ≡ r.key.main → ⊥)
      → IsReported r.key.main (missing_numbers compacted left)
  reported_by_transaction later has lt none =
      let above = is.above in
      (missing_reported compacted r.key.main left (numbers_rise left left_rises)).1
      (record {
        after = elim (from nothing 2 0 (history ts) (goes ts possible) r there) [
          | inl up ↦ omega (arith, above, up)
          | inr (e, le) ↦ omega (arith, above, e)
        ];
        later = later;
        there = has;
        before = lt;
        none = none;
      })

  pub left_by_stored_key : Rises stored_key_cmp left
  left_by_stored_key =
      let all = subst (Rises stored_key_cmp) is.there (filter_rises stored_key_cmp keeps (history ts) (stored_keys_rise ts possible)) in
      subst (Rises stored_key_cmp) (sym is.gone) (without_rises r stored_key_cmp is.before is.after all)

-- The gaps between entries exist, and cover all pages.
use Rattle.std.proofs.Common.{◌≡◌, ℕ, zero, suc, ◌-◌, ◌≤◌, ◌<◌, inl, inr, List, Some, None, Option, slice_get, length, refl, sym, subst, arith}
use Rattle.bolt_lemmas.proofs.Exports.{at_has, contains_from_has, rises_gets}
use Rattle.bolt_tree.proofs.Words.{AreEntriesOf, BucketView, GapsCoverAll, IsGap, IsPagesUpTo, IsSoundBucket, LeafElement, cases_lt, lt_strict}
use Rattle.bolt_tree.proofs.Words.{tour_pages_in, slice_get_past, sum_to}
use Rattle.bolt_tree.proofs.TourLemmas.{IsBelowElement}
use Rattle.bolt_tree.proofs.CountLemmas.{IsAt, all_exact, apart, cut_size, entry_at, exact_count, exact_is, upto_exists, upto_is}
use Rattle.bolt_tree.proofs.{CursorMoves.none_past, RisingEntries.rises_back}

module _ (b : BucketView) (s : IsSoundBucket b) (entries : List LeafElement) (sorted : AreEntriesOf b entries) where
  pub at_place : (i : ℕ) (x : LeafElement) → slice_get entries i ≡ Some x → IsAt b x
  at_place i x g = entry_at b s x ((sorted.exact x).0 (contains_from_has entries x (at_has entries i x g)))

  by_entry : (i : ℕ) (o : Option LeafElement) → slice_get entries i ≡ o → (n : ℕ) × IsPagesUpTo b.file b.meta b.start o n
  by_entry i None g = (length (tour_pages_in b), exact_count (all_exact b s))
  by_entry i (Some x) g = let at = at_place i x g in upto_exists b s at.cut x at.has

  up : (i : ℕ) → (n : ℕ) × IsPagesUpTo b.file b.meta b.start (slice_get entries i) n
  up i = by_entry i (slice_get entries i) refl

  upto : ℕ → ℕ
  upto i = (up i).0

  -- the page of the next entry is not before
  grows_to : (i : ℕ) (o p : Option LeafElement) (m n : ℕ) → slice_get entries i ≡ o → slice_get entries (suc i) ≡ p
      → IsPagesUpTo b.file b.meta b.start o m → IsPagesUpTo b.file b.meta b.start p n → i < length entries → m ≤ n
  grows_to i None p m n g h up1 up2 l = let past = none_past entries i (sym g) in absurd (omega (arith, l, past))
  grows_to i (Some x) None m n g h up1 up2 l =
      let at = at_place i x g in
      omega (arith, upto_is b s at.cut x m at.has up1, exact_is (all_exact b s) up2, cut_size at.cut)
  grows_to i (Some x) (Some y) m n g h up1 up2 l =
      let at = at_place i x g in
      let next = at_place (suc i) y h in
      elim (cases_lt (length next.cut.left) (length at.cut.left)) [
        | inr le ↦ omega (arith, upto_is b s at.cut x m at.has up1, upto_is b s next.cut y n next.has up2, le)
        | inl lt ↦ absurd (lt_strict x.key y.key (rises_gets IsBelowElement entries i (suc i) x y (rises_back entries sorted.rises) (omega arith) g h)
            ((apart b s next.cut at.cut lt).keys y x next.has at.has))
      ]

  grows : (i : ℕ) → i < length entries → upto i ≤ upto (suc i)
  unfolding upto
  grows i l = grows_to i (slice_get entries i) (slice_get entries (suc i)) (up i).0 (up (suc i)).0 refl refl (up i).1 (up (suc i)).1 l

  gap_of : ℕ → ℕ
  gap_of zero = upto 0
  gap_of (suc i) = upto (suc i) - upto i

  gap_is : (i : ℕ) → IsGap b.file b.meta b.start entries i (gap_of i)
  unfolding upto gap_of
  gap_is zero = (up 0).1
  gap_is (suc i) = ((up (suc i)).0, (up i).0, (up (suc i)).1, (up i).1, refl)

  sums : (k : ℕ) → k ≤ length entries → sum_to gap_of (suc k) ≡ upto k
  unfolding gap_of
  sums zero h = omega arith
  sums (suc k) h = let r = sums k (omega arith) in let g = grows k (omega arith) in omega (arith, r, g)

  pub gaps_cover : GapsCoverAll b.file b.meta b.start entries
  unfolding upto
  gaps_cover =
      let past : slice_get entries (length entries) ≡ None = slice_get_past entries (length entries) (omega arith) in
      let all = subst (λ (o : Option LeafElement). IsPagesUpTo b.file b.meta b.start o (upto (length entries))) past (up (length entries)).1 in
      (gap_of, upto (length entries), gap_is, all, sums (length entries) (omega arith))

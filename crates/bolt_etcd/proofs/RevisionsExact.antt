-- The missing numbers report exactly the revisions of a transaction that are missing.
use Rattle.std.proofs.Common.{◌≡◌, ◌∙◌, ◌<◌, ◌≤◌, ◌+◌, ◌-◌, ◌⊎◌, ◌↔◌, inl, inr, ℕ, Bool, true, false, List, [], ◌∷◌, ◌++◌, cond}
use Rattle.std.proofs.Common.{max, nat_lt, ◌==◌, Some, None, refl, sym, arith}
use Rattle.std.proofs.lemmas.Bool.{cases_lt, cases_order, eqb-false, eqb-true, ltb-false, ltb-true}
use Rattle.std.proofs.lemmas.List.Elements.{Contains-append_cases, Contains-append_left, Contains-append_right}
use Rattle.std.specs.{List.Contains, Option.option_to_list, declared.cmp.Ordering.TheVariants.Less}
use Rattle.bolt_lemmas.proofs.Exports.{contains_cases, contains_head, contains_none, contains_tail, filter_rises}
use Rattle.bolt_lemmas.specs.Order.{Rises}
use Rattle.bolt_etcd.specs.{Wire.Revisions.RevisionView, Histories.Reported.number_cmp, Histories.ReportedRevisions.IsMissingRevision}
use Rattle.bolt_etcd.specs.{Histories.ReportedRevisions.IsReportedRevision, Histories.ReportedRevisions.ReportsRevision}
use Rattle.bolt_etcd.specs.Check.MissingNumbers.{is_of_later, missing_after, missing_before, missing_numbers, revisions_between, transactions_between}
use Rattle.bolt_etcd.specs.{declared.check.missing.Missing.Missing, declared.wire.revision_key.RevisionKey.RevisionKey}
use Rattle.bolt_etcd.specs.declared.check.missing.Missing.TheVariants.{Revisions, Transactions}
use Rattle.bolt_etcd.proofs.{MissingExact.above, MissingExact.is_later, MissingExact.keys, MissingExact.later_is}

module _ (t s : ℕ) where
  -- ---- what one gap reports

  reported_cases : (xs ys : List Missing) → IsReportedRevision t s (xs ++ ys) → IsReportedRevision t s xs ⊎ IsReportedRevision t s ys
  reported_cases xs ys (m, has, reports) = elim (Contains-append_cases xs ys m has) [
    | inl first ↦ inl (m, first, reports)
    | inr second ↦ inr (m, second, reports)
  ]

  reported_first : (xs ys : List Missing) → IsReportedRevision t s xs → IsReportedRevision t s (xs ++ ys)
  reported_first xs ys (m, has, reports) = (m, Contains-append_left xs ys m has, reports)

  reported_second : (xs ys : List Missing) → IsReportedRevision t s ys → IsReportedRevision t s (xs ++ ys)
  reported_second xs ys (m, has, reports) = (m, Contains-append_right xs ys m has, reports)

  reported_one : (m : Missing) → IsReportedRevision t s (m ∷ []) → ReportsRevision t s m
  reported_one m (n, has, reports) = grind (arith, contains_cases, contains_none)

  reported_none : IsReportedRevision t s [] → ⊥
  reported_none (n, has, reports) = contains_none n has

  reported_revisions : (main from to : ℕ) (b : Bool) → nat_lt from to ≡ b
      → IsReportedRevision t s (option_to_list (cond b (Some (Revisions main from (to - 1))) None)) ↔ ((main ≡ t) × (from ≤ s) × (s < to))
  reported_revisions main from to true test = (
    λ reported.
        let (same, low, high) = reported_one (Revisions main from (to - 1)) reported in
        let lt = ltb-true from to test in
        (same, low, (omega (arith, high, lt))),
    λ (same, low, high). (Revisions main from (to - 1), contains_head _ [], (same, low, omega (arith, high))),
  )
  reported_revisions main from to false test = grind (arith, reported_none, ltb-false)

  no_transaction : (before main : ℕ) (b : Bool) → IsReportedRevision t s (option_to_list (cond b (Some (Transactions (before + 1) (main - 1))) None)) → ⊥
  no_transaction before main true reported = reported_one (Transactions (before + 1) (main - 1)) reported
  no_transaction before main false reported = reported_none reported

  -- these are numbers that come after those before
  abbrev IsPast : (main sub : ℕ) → Type 0
  IsPast main sub = (main < t) ⊎ ((main ≡ t) × (sub ≤ s))

  abbrev IsIn : RevisionKey → Type 0
  IsIn k = (k.main ≡ t) × (s < k.sub)

  reported_before : (main sub : ℕ) (k : RevisionKey) (b : Bool) → (k.main == main) ≡ b → main ≤ k.main
      → IsReportedRevision t s (cond b (option_to_list (revisions_between main sub k.sub))
      (option_to_list (transactions_between main k.main) ++ option_to_list (revisions_between k.main 0 k.sub)))
      ↔ (IsIn k × IsPast main sub)
  reported_before main sub k true test le =
      let same = eqb-true k.main main test in
      let one = reported_revisions main sub k.sub (nat_lt sub k.sub) refl in (
        λ reported. let (is, low, high) = one.0 reported in ((same ∙ is, high), inr (is, low)),
        λ ((is, high), past). one.1 (sym same ∙ is, elim past [ inl lt ↦ absurd (omega (arith, lt, same, is)) | inr (e, low) ↦ low ], high),
      )
  reported_before main sub k false test le =
      let other = eqb-false k.main main test in
      let one = reported_revisions k.main 0 k.sub (nat_lt 0 k.sub) refl in (
        λ reported. elim (reported_cases (option_to_list (transactions_between main k.main)) _ reported) [
          | inl first ↦ absurd (no_transaction main k.main (nat_lt (main + 1) k.main) first)
          | inr second ↦ (let (is, low, high) = one.0 second in ((is, high), inl (omega (arith, other, le, is))))
        ],
        λ ((is, high), past). reported_second (option_to_list (transactions_between main k.main)) _ (one.1 (is, omega arith, high)),
      )

  -- ---- revisions in the order of their numbers

  abbrev IsAfter : (main sub : ℕ) → RevisionView → Type 0
  IsAfter main sub r = (main < r.key.main) ⊎ ((r.key.main ≡ main) × (sub ≤ r.key.sub + 1))

  -- a later one of the transaction is there, and this one isn't
  abbrev IsGap : List RevisionView → Type 0
  IsGap rs = (later : RevisionView) × Contains rs later × IsIn later.key × ((r : RevisionView) → Contains rs r → r.key.main ≡ t → r.key.sub ≡ s → ⊥)

  numbers_le : (a b : RevisionView) → number_cmp a b ≡ Less → IsAfter a.key.main (a.key.sub + 1) b
  numbers_le a b less = grind arith

  le_main : (main sub : ℕ) (r : RevisionView) → IsAfter main sub r → main ≤ r.key.main
  le_main main sub r after = grind arith

  past_before : (main sub : ℕ) (r : RevisionView) → IsAfter main sub r → IsPast r.key.main (r.key.sub + 1) → IsPast main sub
  past_before main sub r after past = grind arith

  gap_here : (r : RevisionView) (rs : List RevisionView) → Rises number_cmp (r ∷ rs) → IsIn r.key → IsGap (r ∷ rs)
  gap_here r rs rises is =
      (r, contains_head r rs, is, λ x has at same. grind (arith, contains_cases r x rs has, λ (more : Contains rs x). numbers_le r x (rises.0 x more)))

  gap_later : (r : RevisionView) (rs : List RevisionView) → IsPast r.key.main (r.key.sub + 1) → IsGap rs → IsGap (r ∷ rs)
  gap_later r rs past (later, there, is, none) = (later, contains_tail r later rs there, is, λ x has at same. grind (arith, contains_cases r x rs has, none x))

  gap_rest : (r : RevisionView) (rs : List RevisionView) → IsGap (r ∷ rs) → (IsIn r.key → ⊥) → IsGap rs
  gap_rest r rs (later, there, is, none) not_in = (later, grind (arith, contains_cases r later rs there), is, λ x has. none x (contains_tail r x rs has))

  gap_cases : (r : RevisionView) (rs : List RevisionView) → Rises number_cmp (r ∷ rs) → IsGap (r ∷ rs)
      → IsIn r.key ⊎ (IsGap rs × IsPast r.key.main (r.key.sub + 1))
  gap_cases r rs rises gap = elim (cases_order r.key.main t) [
    | inl same ↦ elim (cases_order s r.key.sub) [
      | inl e ↦ absurd (gap.3 r (contains_head r rs) same (sym e))
      | inr (inl lt) ↦ inl (same, lt)
      | inr (inr gt) ↦ inr (gap_rest r rs gap (λ (e, lt). omega (arith, lt, gt)), inr (same, omega (arith, gt)))
    ]
    | inr (inl lt) ↦ inr (gap_rest r rs gap (λ (e, up). omega (arith, e, lt)), inl lt)
    | inr (inr gt) ↦
        let (later, there, is, none) = gap_rest r rs gap (λ (e, up). omega (arith, e, gt)) in
        absurd (grind (arith, numbers_le r later (rises.0 later there)))
  ]

  reported_exactly : (main sub : ℕ) (rs : List RevisionView) → Rises number_cmp rs → ((r : RevisionView) → Contains rs r → IsAfter main sub r)
      → IsReportedRevision t s (missing_after main sub (keys rs)) ↔ (IsGap rs × IsPast main sub)
  unfolding missing_before
  reported_exactly main sub [] rises follow = (λ reported. absurd (reported_none reported), λ (gap, past). absurd (contains_none gap.0 gap.1))
  reported_exactly main sub (r ∷ rs) rises follow =
      let first = follow r (contains_head r rs) in
      let here = reported_before main sub r.key (r.key.main == main) refl (le_main main sub r first) in
      let rest = reported_exactly r.key.main (r.key.sub + 1) rs rises.1 (λ x has. numbers_le r x (rises.0 x has)) in (
        λ reported. elim (reported_cases (missing_before main sub r.key) _ reported) [
          | inl one ↦ (let (is, past) = here.0 one in (gap_here r rs rises is, past))
          | inr more ↦ (let (gap, past) = rest.0 more in (gap_later r rs past gap, past_before main sub r first past))
        ],
        λ (gap, past). elim (gap_cases r rs rises gap) [
          | inl is ↦ reported_first (missing_before main sub r.key) _ (here.1 (is, past))
          | inr more ↦ reported_second (missing_before main sub r.key) _ (rest.1 more)
        ],
      )

  -- ---- of all revisions those of later transactions

  module _ (compacted : ℕ) (rs : List RevisionView) (rises : Rises number_cmp rs) where
    begins : (r : RevisionView) → Contains (above compacted rs) r → IsAfter (max compacted 1) 0 r
    begins r has =
        let lt = (is_later compacted rs r has).1 in
        elim (cases_lt (max compacted 1) r.key.main) [ inl up ↦ inl up | inr le ↦ inr (omega (arith, lt, le), omega arith) ]

    past : compacted < t → IsPast (max compacted 1) 0
    past lt = elim (cases_lt (max compacted 1) t) [ inl up ↦ inl up | inr le ↦ inr (omega (arith, lt, le), omega arith) ]

    pub revisions_reported : IsReportedRevision t s (missing_numbers compacted rs) ↔ IsMissingRevision compacted t s rs
    revisions_reported =
        let core = reported_exactly (max compacted 1) 0 (above compacted rs) (filter_rises number_cmp (is_of_later compacted) rs rises) begins in (
          λ reported.
              let (later, here, (same, before), none) = (core.0 reported).0 in
              let (there, lt) = is_later compacted rs later here in
              record {
                after = (omega (arith, lt, same));
                later = later;
                there = there;
                same = same;
                before = before;
                none = λ r has at is. none r (later_is compacted rs r has (omega (arith, lt, same, at))) at is;
              },
          λ m. core.1 (
            (
              m.later,
              later_is compacted rs m.later m.there (let lt = m.after in let e = m.same in omega (arith, lt, e)),
              (m.same, m.before),
              λ r has. m.none r (is_later compacted rs r has).0,
            ),
            past m.after,
          ),
        )

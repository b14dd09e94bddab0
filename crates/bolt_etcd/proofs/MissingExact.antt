-- The missing numbers report exactly the transactions that are missing.
use Rattle.std.proofs.Common.{◌≡◌, ◌<◌, ◌≤◌, ◌+◌, ◌-◌, ◌⊎◌, ◌↔◌, inl, inr, ℕ, Bool, true, false, List, [], ◌∷◌, ◌++◌, cond, filter, map, max, nat_lt}
use Rattle.std.proofs.Common.{◌==◌, Some, None, refl, sym, arith}
use Rattle.std.proofs.lemmas.Bool.{cases_order, eqb-true, lt-ltb, ltb-false, ltb-true}
use Rattle.std.specs.{List.Contains, Option.option_to_list, declared.cmp.Ordering.TheVariants.Less}
use Rattle.bolt_lemmas.proofs.Exports.{contains_cases, contains_head, contains_none, contains_tail, filter_rises, kept, kept_from}
use Rattle.bolt_lemmas.specs.Order.{Rises}
use Rattle.bolt_etcd.specs.{Wire.Revisions.RevisionView, Wire.RevisionKeys.numbers_cmp, Histories.Reported.HasNoneOf, Histories.Reported.IsMissing}
use Rattle.bolt_etcd.specs.{Histories.Reported.IsReported, Histories.Reported.number_cmp}
use Rattle.bolt_etcd.specs.Check.MissingNumbers.{is_of_later, missing_after, missing_before, missing_numbers, revisions_between, transactions_between}
use Rattle.bolt_etcd.specs.{declared.check.missing.Missing.Missing, declared.wire.revision_key.RevisionKey.RevisionKey}
use Rattle.bolt_etcd.specs.declared.check.missing.Missing.TheVariants.{Revisions, Transactions}

-- ---- what one gap reports

reported_first : (t : ℕ) (xs ys : List Missing) → IsReported t xs → IsReported t (xs ++ ys)
reported_first t [] ys reported = absurd reported
reported_first t (x ∷ xs) ys (inl here) = inl here
reported_first t (x ∷ xs) ys (inr later) = inr (reported_first t xs ys later)

reported_second : (t : ℕ) (xs ys : List Missing) → IsReported t ys → IsReported t (xs ++ ys)
reported_second t [] ys reported = reported
reported_second t (x ∷ xs) ys reported = inr (reported_second t xs ys reported)

reported_cases : (t : ℕ) (xs ys : List Missing) → IsReported t (xs ++ ys) → IsReported t xs ⊎ IsReported t ys
reported_cases t [] ys reported = inr reported
reported_cases t (x ∷ xs) ys (inl here) = inl (inl here)
reported_cases t (x ∷ xs) ys (inr later) = elim (reported_cases t xs ys later) [ inl first ↦ inl (inr first) | inr second ↦ inr second ]

no_revision : (t main from last : ℕ) (b : Bool) → IsReported t (option_to_list (cond b (Some (Revisions main from last)) None)) → ⊥
no_revision t main from last b reported = grind arith

reported_transaction : (t before main : ℕ) (b : Bool) → nat_lt (before + 1) main ≡ b
    → IsReported t (option_to_list (cond b (Some (Transactions (before + 1) (main - 1))) None)) ↔ ((before < t) × (t < main))
reported_transaction t before main b test = (λ reported. grind (arith, ltb-true, ltb-false), λ h. grind (arith, ltb-true, ltb-false))

reported_before : (t main sub : ℕ) (k : RevisionKey) (b : Bool) → (k.main == main) ≡ b → main ≤ k.main
    → IsReported t (cond b (option_to_list (revisions_between main sub k.sub))
    (option_to_list (transactions_between main k.main) ++ option_to_list (revisions_between k.main 0 k.sub)))
    ↔ ((main < t) × (t < k.main))
reported_before t main sub k true test le = grind (arith, no_revision, eqb-true)
reported_before t main sub k false test le = grind (arith, reported_transaction, reported_cases, no_revision, reported_first)

-- ---- revisions in the order of their numbers

pub main_le : (a b : RevisionKey) → numbers_cmp a b ≡ Less → a.main ≤ b.main
main_le a b less = grind arith

abbrev pub keys : List RevisionView → List RevisionKey
keys rs = map (λ (r : RevisionView). r.key) rs

-- a later transaction is there, and this one isn't
abbrev IsGap : ℕ → List RevisionView → Type 0
IsGap t rs = (later : RevisionView) × Contains rs later × (t < later.key.main) × HasNoneOf t rs

gap_here : (t : ℕ) (r : RevisionView) (rs : List RevisionView) → Rises number_cmp (r ∷ rs) → t < r.key.main → IsGap t (r ∷ rs)
gap_here t r rs rises lt =
    (r, contains_head r rs, lt, λ x has same. grind (arith, contains_cases r x rs has, λ (more : Contains rs x). main_le r.key x.key (rises.0 x more)))

gap_later : (t : ℕ) (r : RevisionView) (rs : List RevisionView) → r.key.main < t → IsGap t rs → IsGap t (r ∷ rs)
gap_later t r rs lt (later, there, before, none) =
    (later, contains_tail r later rs there, before, λ x has same. grind (arith, contains_cases r x rs has, none x))

gap_rest : (t : ℕ) (r : RevisionView) (rs : List RevisionView) → r.key.main < t → IsGap t (r ∷ rs) → IsGap t rs
gap_rest t r rs lt (later, there, before, none) =
    (later, grind (arith, contains_cases r later rs there), before, λ x has. none x (contains_tail r x rs has))

reported_exactly : (t main sub : ℕ) (rs : List RevisionView) → Rises number_cmp rs → ((r : RevisionView) → Contains rs r → main ≤ r.key.main)
    → IsReported t (missing_after main sub (keys rs)) ↔ ((main < t) × IsGap t rs)
unfolding missing_before
reported_exactly t main sub [] rises from = (λ none. absurd none, λ (after, gap). absurd (contains_none gap.0 gap.1))
reported_exactly t main sub (r ∷ rs) rises from =
    let le = from r (contains_head r rs) in
    let here = reported_before t main sub r.key (r.key.main == main) refl le in
    let rest = reported_exactly t r.key.main (r.key.sub + 1) rs rises.1 (λ x has. main_le r.key x.key (rises.0 x has)) in (
      λ reported. elim (reported_cases t (missing_before main sub r.key) (missing_after r.key.main (r.key.sub + 1) (keys rs)) reported) [
        | inl first ↦ (let (after, before) = here.0 first in (after, gap_here t r rs rises before))
        | inr second ↦ (let (lt, gap) = rest.0 second in (omega (arith, le, lt), gap_later t r rs lt gap))
      ],
      λ (after, gap). elim (cases_order t r.key.main) [
        | inl e ↦ absurd (gap.3 r (contains_head r rs) (sym e))
        | inr (inl lt) ↦ reported_first t (missing_before main sub r.key) (missing_after r.key.main (r.key.sub + 1) (keys rs)) (here.1 (after, lt))
        | inr (inr gt) ↦
            reported_second t (missing_before main sub r.key) (missing_after r.key.main (r.key.sub + 1) (keys rs)) (rest.1 (gt, gap_rest t r rs gt gap))
      ],
    )

-- ---- of all revisions those of later transactions

module _ (compacted : ℕ) (rs : List RevisionView) where
  abbrev pub above : List RevisionView
  above = filter (is_of_later compacted) rs

  pub is_later : (r : RevisionView) → Contains above r → Contains rs r × (compacted < r.key.main)
  is_later r has = let (there, passes) = kept_from (is_of_later compacted) rs r has in (there, ltb-true compacted r.key.main passes)

  pub later_is : (r : RevisionView) → Contains rs r → compacted < r.key.main → Contains above r
  later_is r has lt = kept (is_of_later compacted) rs r has (lt-ltb compacted r.key.main lt)

pub missing_reported : (compacted t : ℕ) (rs : List RevisionView) → Rises number_cmp rs
    → IsReported t (missing_numbers compacted rs) ↔ IsMissing compacted t rs
missing_reported compacted t rs rises =
    let core =
    reported_exactly t (max compacted 1) 0 (above compacted rs) (filter_rises number_cmp (is_of_later compacted) rs rises)
    (λ r has. let lt = (is_later compacted rs r has).1 in omega (arith, lt)) in (
      λ reported.
          let (after, (later, there, before, none)) = core.0 reported in
          record {
            after = after;
            later = later;
            there = (is_later compacted rs later there).0;
            before = before;
            none = λ r has same. none r (later_is compacted rs r has (omega (arith, after, same))) same;
          },
      λ m.
          let there = later_is compacted rs m.later m.there (let after = m.after in let before = m.before in omega (arith, after, before)) in
          core.1 (m.after, (m.later, there, m.before, λ r has. m.none r (is_later compacted rs r has).0)),
    )

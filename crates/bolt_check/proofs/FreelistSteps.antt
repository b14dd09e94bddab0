-- The findings on what the freelist lists and lacks, page by page.
use Rattle.std.proofs.{lemmas.List.get_or_past, lemmas.Bool.and_from, lemmas.Bool.and_parts, lemmas.Bool.cases_Bool, lemmas.Bool.eqb-true}
use Rattle.std.proofs.Common.{rules, ◌≡◌, ◌∙◌, ℕ, suc, ◌+◌, ◌<◌, ◌≤◌, max, inl, inr, List, [], ◌∷◌, ◌++◌, length, get_or, refl, sym, ap, subst, arith}
use Rattle.std.proofs.Common.{append-nil, add-one, nat_lt, ◌==◌}
use Rattle.bolt_check.proofs.Words.{AreAllFindings, AreFindingsBelow, both_ways, cases_lt, cond-false, cond-true, eq-eqb, false≢true, Finding}
use Rattle.bolt_check.proofs.Words.{finding, FREE_RANGE, FREED_TWICE, HasFindingsTo, is_in_use, is_used, IsAccountFinding, IsBeyondTo, IsInRange}
use Rattle.bolt_check.proofs.Words.{IsUnlistedPage, IsPastTo, IsUnlistedInterval, IsSettled, listed_times, Freelist, lt-ltb, ltb-true, page_findings}
use Rattle.bolt_check.proofs.Words.{PageUse, interval_findings, times_in, times_of, Unused, use_at}
use Rattle.bolt_check.proofs.{CountLemmas.place_of, CountLemmas.times_none, CountLemmas.times_once, CountLemmas.times_some, CountLemmas.times_twice}
use Rattle.bolt_check.proofs.{TableLemmas.past_metas, TableLemmas.first_unlisted}
use Rattle.bolt_check.proofs.PageLemmas.{twice, range, not_lost_listed, on_own_page, reports_page, reports_range, reports_twice, reports_well}
use Rattle.bolt_check.proofs.AccountFindingLemmas.{Reports, reported_append, reports_none, reports_interval}
use Rattle.bolt_check.specs.Private.Freelists.{is_repeated, repeat_findings}

module _ (freelist : Freelist) (settled : IsSettled freelist) where
  unused_past : (n : ℕ) → length freelist.table.now ≤ n → is_in_use freelist n → ⊥
  unused_past n h claimed = grind (arith, past_metas)

  pub times_table : (n : ℕ) → n < length freelist.table.now → listed_times freelist n ≡ times_of (use_at freelist.table.now n)
  unfolding listed_times
  times_table n h =
      let none = times_none freelist.past.now n (λ k l e. let above = settled.past k 0 l in omega (arith, above, e)) in omega (arith, none)

  pub times_past : (n : ℕ) → length freelist.table.now ≤ n → listed_times freelist n ≡ times_in freelist.past.now n
  unfolding listed_times
  times_past n h = grind (arith, get_or_past, first_unlisted)

  -- page n of the table, which is lost
  lost_here : (n : ℕ) → n < length freelist.table.now → use_at freelist.table.now n ≡ Unused
      → IsUnlistedPage freelist.high_water (is_in_use freelist) (listed_times freelist) n
  lost_here n h e = grind (arith, cases_lt, false≢true, times_table)

  -- or not
  kept_here : (n : ℕ) (page_use : PageUse) → n < length freelist.table.now → use_at freelist.table.now n ≡ page_use → (page_use ≡ Unused → ⊥)
      → IsUnlistedPage freelist.high_water (is_in_use freelist) (listed_times freelist) n → ⊥
  kept_here n page_use h e ne gone = grind (arith, times_table)

  pub table_lost : (n from : ℕ) (findings : List Finding) → n < length freelist.table.now → use_at freelist.table.now n ≡ Unused
      → HasFindingsTo freelist from n findings → HasFindingsTo freelist from (suc n) findings
  table_lost n from findings h e reported = search (rules, cases_lt, lost_here)

  interval_after : (n : ℕ) → (IsUnlistedPage freelist.high_water (is_in_use freelist) (listed_times freelist) n → ⊥)
      → IsUnlistedInterval freelist.high_water (is_in_use freelist) (listed_times freelist) (suc n) (suc n)
  interval_after n kept = grind arith

  pub table_reported : (n from : ℕ) (findings : List Finding) (page_use : PageUse) → n < length freelist.table.now → from ≤ n
      → use_at freelist.table.now n ≡ page_use → (page_use ≡ Unused → ⊥)
      → HasFindingsTo freelist from n findings → HasFindingsTo freelist (suc n) (suc n) ((findings ++ interval_findings from n) ++ page_findings n page_use)
  table_reported n from findings page_use h order e ne reported =
      let kept = kept_here n page_use h e ne in
      let before = reported_append reported.reported order (reports_interval order reported.interval kept) in
      let here =
      reports_page freelist.high_water (is_in_use freelist) (listed_times freelist) n page_use (let end = settled.below in omega (arith, end)) (settled.metas n)
      (times_table n h ∙ ap times_of e) (λ claimed. sym (ap is_used e) ∙ claimed) (λ used. ap is_used e ∙ used) ne in
      record {
        reported = reported_append before (omega arith) here;
        interval = interval_after n kept;
      }

  pub past_start : (from : ℕ) (findings : List Finding) → HasFindingsTo freelist from (length freelist.table.now) findings
      → IsPastTo freelist from 0 findings
  past_start from findings reported = record {
    reported = reported.reported;
    begins = reported.interval.begins;
    done = λ k h. absurd (omega arith);
    left = λ n low high none. elim (cases_lt n (length freelist.table.now)) [
      | inl inside ↦ reported.interval.lost n low inside
      | inr past ↦ record {
        free = record { above_metas = let wide = settled.wide in omega (arith, wide); below = high; unused = unused_past n past };
        unlisted = times_past n past ∙ times_none freelist.past.now n (λ k. none k (omega arith));
      }
    ];
  }

  -- the id at place i, which is below the mark and unreported
  module _ (from i : ℕ) (findings : List Finding) (h : i < length freelist.past.now) (order : from ≤ get_or freelist.past.now i 0)
      (below : get_or freelist.past.now i 0 < freelist.high_water) (reported : IsPastTo freelist from i findings) where
    id_past : length freelist.table.now ≤ get_or freelist.past.now i 0
    id_past = settled.past i 0 h

    id_in_range : IsInRange freelist.high_water (get_or freelist.past.now i 0)
    id_in_range = (let two = settled.wide in let past = id_past in omega (arith, two, past), below)

    id_first : (k : ℕ) → k < i → get_or freelist.past.now k 0 < get_or freelist.past.now i 0
    id_first k before = let up = settled.sorted k i 0 (omega arith) h in let done = reported.done k before (omega (arith, up)) in omega (arith, done)

    id_kept : IsUnlistedPage freelist.high_water (is_in_use freelist) (listed_times freelist) (get_or freelist.past.now i 0) → ⊥
    id_kept = grind (arith, not_lost_listed, times_past, id_past, times_some)

    interval_before : IsUnlistedInterval freelist.high_water (is_in_use freelist) (listed_times freelist) from (get_or freelist.past.now i 0)
    interval_before = search rules

    -- whatever is reported of the id itself, all up to it is reported
    past_next : (ys : List Finding)
        → Reports freelist.high_water (is_in_use freelist) (listed_times freelist) (get_or freelist.past.now i 0) (suc (get_or freelist.past.now i 0)) ys
        → IsPastTo freelist (suc (get_or freelist.past.now i 0)) (suc i) ((findings ++ interval_findings from (get_or freelist.past.now i 0)) ++ ys)
    past_next ys here = record {
      reported = reported_append (reported_append reported.reported order (reports_interval order interval_before id_kept)) (omega arith) here;
      begins = (interval_after (get_or freelist.past.now i 0) id_kept).begins;
      done = λ k l under. (let up = settled.sorted k i 0 (omega arith) h in omega (arith, up));
      left = λ n low high none. reported.left n (omega arith) high (λ k after l e. elim (cases_lt i k) [
        | inl later ↦ none k later l e
        | inr here ↦ let same : k ≡ i = omega arith in let at = ap (λ j. get_or freelist.past.now j 0) same in omega (arith, at, e)
      ]);
    }

    past_once : (suc i < length freelist.past.now → get_or freelist.past.now (suc i) 0 ≡ get_or freelist.past.now i 0 → ⊥)
        → IsPastTo freelist (suc (get_or freelist.past.now i 0)) (suc i) ((findings ++ interval_findings from (get_or freelist.past.now i 0)) ++ [])
    past_once other =
        let e = times_past (get_or freelist.past.now i 0) id_past in
        let one = times_once freelist.past.now i settled.sorted h id_first other in
        past_next [] (reports_well freelist.high_water (is_in_use freelist) (listed_times freelist) (get_or freelist.past.now i 0) (omega (arith, e, one))
        (λ claimed. absurd (unused_past (get_or freelist.past.now i 0) id_past claimed)) id_kept id_in_range)

    pub past_reported : IsPastTo freelist (suc (get_or freelist.past.now i 0)) (suc i)
        ((findings ++ interval_findings from (get_or freelist.past.now i 0)) ++ repeat_findings freelist.past.now i)
    past_reported = elim (cases_Bool (is_repeated freelist.past.now i)) [
      | inl is ↦ (let both = and_parts (nat_lt (i + 1) (length freelist.past.now)) (get_or freelist.past.now (i + 1) 0 == get_or freelist.past.now i 0) is in
          let more = ltb-true (i + 1) (length freelist.past.now) both.0 in
          let same = ap (λ j. get_or freelist.past.now j 0) (sym (add-one i)) ∙ eqb-true (get_or freelist.past.now (i + 1) 0)
          (get_or freelist.past.now i 0) both.1 in
          let e = times_past (get_or freelist.past.now i 0) id_past in let two = times_twice freelist.past.now i (omega (arith, more)) same in
          rw (cond-true (is_repeated freelist.past.now i) (finding FREED_TWICE (get_or freelist.past.now i 0) ∷ []) [] is)
          (past_next (finding FREED_TWICE (get_or freelist.past.now i 0) ∷ [])
          (reports_twice freelist.high_water (is_in_use freelist) (listed_times freelist) (get_or freelist.past.now i 0) (omega (arith, e, two))
          (unused_past (get_or freelist.past.now i 0) id_past) id_in_range)))
      | inr not ↦ rw (cond-false (is_repeated freelist.past.now i) (finding FREED_TWICE (get_or freelist.past.now i 0) ∷ []) [] not)
          (past_once (λ more same. both_ways (is_repeated freelist.past.now i) not
          (and_from (nat_lt (i + 1) (length freelist.past.now)) (get_or freelist.past.now (i + 1) 0 == get_or freelist.past.now i 0)
          (lt-ltb (i + 1) (length freelist.past.now) (omega (arith, more)))
          (eq-eqb (get_or freelist.past.now (i + 1) 0) (get_or freelist.past.now i 0) (ap (λ j. get_or freelist.past.now j 0) (add-one i) ∙ same)))))
    ]

  pub past_end : (from i : ℕ) (findings : List Finding) → length freelist.past.now ≤ i → IsPastTo freelist from i findings
      → HasFindingsTo freelist from freelist.high_water findings
  past_end from i findings h reported = search rules

  -- the interval of lost pages up to the mark
  pub mark_reported : (from : ℕ) (findings : List Finding) → from ≤ freelist.high_water → HasFindingsTo freelist from freelist.high_water findings
      → AreFindingsBelow freelist.high_water (is_in_use freelist) (listed_times freelist) freelist.high_water
      (findings ++ interval_findings from freelist.high_water)
  mark_reported from findings order reported =
      reported_append reported.reported order (reports_interval order reported.interval (λ gone. (let under = gone.free.below in omega (arith, under))))

  pub beyond_start : (findings : List Finding)
      → AreFindingsBelow freelist.high_water (is_in_use freelist) (listed_times freelist) freelist.high_water findings
      → IsBeyondTo freelist 0 0 findings
  beyond_start findings reported = grind arith

  -- a finding from the mark on is on a listed page, which has a place among the ids
  beyond_place : (x : Finding) → IsAccountFinding freelist.high_water (is_in_use freelist) (listed_times freelist) x → freelist.high_water ≤ x.page
      → (k : ℕ) × ((k < length freelist.past.now) × (get_or freelist.past.now k 0 ≡ x.page))
  beyond_place x is h = grind (arith, on_own_page, twice, range, place_of, times_past)

  -- no finding is on a page between
  gap_none : (last i : ℕ) → i < length freelist.past.now → ((k : ℕ) → k < i → get_or freelist.past.now k 0 < max freelist.high_water (suc last))
      → (x : Finding) → IsAccountFinding freelist.high_water (is_in_use freelist) (listed_times freelist) x → max freelist.high_water (suc last) ≤ x.page
      → x.page < get_or freelist.past.now i 0 → ⊥
  gap_none last i h done x is low high = grind (arith, beyond_place)

  pub beyond_reported : (last i : ℕ) (findings : List Finding) → i < length freelist.past.now → freelist.high_water ≤ get_or freelist.past.now i 0
      → last < get_or freelist.past.now i 0
      → IsBeyondTo freelist last i findings
      → IsBeyondTo freelist (get_or freelist.past.now i 0) (suc i) (findings ++ finding FREE_RANGE (get_or freelist.past.now i 0) ∷ [])
  beyond_reported last i findings h above later reported =
      let end = settled.below in
      let e = times_past (get_or freelist.past.now i 0) (omega (arith, end)) in
      let some = times_some freelist.past.now (get_or freelist.past.now i 0) i h refl in
      let gap =
      reports_none freelist.high_water (is_in_use freelist) (listed_times freelist) (max freelist.high_water (suc last)) (get_or freelist.past.now i 0)
      (λ n low high gone. (let under = gone.free.below in omega (arith, under))) (gap_none last i h reported.done) in
      let before =
      subst (AreFindingsBelow freelist.high_water (is_in_use freelist) (listed_times freelist) (get_or freelist.past.now i 0)) (append-nil findings)
      (reported_append reported.reported (omega arith) gap) in
      let here =
      reports_range freelist.high_water (is_in_use freelist) (listed_times freelist) (get_or freelist.past.now i 0) (omega (arith, e, some)) (inr above)
      (λ r. (let under = r.1 in omega (arith, under, above))) in
      let after = reported_append before (omega arith) here in
      let next : suc (get_or freelist.past.now i 0) ≡ max freelist.high_water (suc (get_or freelist.past.now i 0)) = omega (arith, above) in
      record {
        reported =
            subst (λ (next : ℕ).
            AreFindingsBelow freelist.high_water (is_in_use freelist) (listed_times freelist) next
            (findings ++ finding FREE_RANGE (get_or freelist.past.now i 0) ∷ [])) next after;
        done = λ k l. (let up = settled.sorted k i 0 (omega arith) h in omega (arith, up));
      }

  pub beyond_end : (last i : ℕ) (findings : List Finding) → length freelist.past.now ≤ i → IsBeyondTo freelist last i findings
      → AreAllFindings freelist.high_water (is_in_use freelist) (listed_times freelist) findings
  beyond_end last i findings h reported = grind (arith, beyond_place)

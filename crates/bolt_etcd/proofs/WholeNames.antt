-- Of what a compaction keeps of one name nothing is missing.
use Rattle.std.proofs.Common.{◌≡◌, ◌∙◌, ◌<◌, ◌++◌, ◌&&◌, ◌==◌, ◌≢◌, ℕ, Bool, true, false, List, [], ◌∷◌, filter, inl, inr, not, Option}
use Rattle.std.proofs.Common.{Some, None, refl, sym, ap, subst, arith}
use Rattle.std.proofs.lemmas.Bool.{and_left, and_right, cond-false, cond-true, eqb-false, ltb-true, or_from}
use Rattle.std.specs.{Cmp.Lexicographic.same_text, List.Contains, List.last_or, Str.bytes_eq}
use Rattle.bolt_lemmas.proofs.Exports.{contains_cases, contains_head, contains_tail, filter_rises, kept_from, last_in, last_of_both, last_some}
use Rattle.bolt_lemmas.specs.Order.{Rises}
use Rattle.bolt_check.specs.Keys.{Key}
use Rattle.bolt_etcd.specs.{Histories.Compactions.IsCompaction, Histories.Compactions.kept_revisions, Check.Follows.follows}
use Rattle.bolt_etcd.specs.{Histories.Transactions.Delete, Histories.Transactions.Put, Histories.Transactions.State}
use Rattle.bolt_etcd.specs.{Histories.Transactions.Transaction, Histories.Transactions.after_all, Histories.Transactions.history}
use Rattle.bolt_etcd.specs.{Histories.Transactions.nothing, Check.MissingNumbers.is_of_later}
use Rattle.bolt_etcd.specs.{Check.NameFaults.before_of, Check.NameFaults.is_newest, Check.NameFaults.lacks_lease, Check.NameFaults.lacks_one_before}
use Rattle.bolt_etcd.specs.{Check.NameFaults.name_faults, Store.Newest.is_named, Store.Newest.newest}
use Rattle.bolt_etcd.specs.{Wire.Revisions.RevisionView, Wire.Revisions.name_of, Histories.Possible.ArePossible, Histories.Reported.number_cmp}
use Rattle.bolt_etcd.proofs.{HistorySteps.IsWritten, HistorySteps.each, HistorySteps.goes, HistorySteps.history_rises, HistorySteps.numbers_rise}
use Rattle.bolt_etcd.proofs.{KeptOfNames.IsCut, KeptOfNames.cut}
use Rattle.bolt_etcd.proofs.MissingExact.{main_le}
use Rattle.bolt_etcd.proofs.NameHistories.{AllFollow, all_follow, follows_held, follows_is, held_of, newest_held}

-- ---- each later one follows the one before

abbrev pub LaterFollow : ℕ → Option RevisionView → List RevisionView → Type 0
LaterFollow compacted o [] = Unit {0}
LaterFollow compacted o (r ∷ rs) = (compacted < r.key.main → follows o r ≡ true) × LaterFollow compacted (Some r) rs

later_follow : (compacted : ℕ) (o : Option RevisionView) (rs : List RevisionView) → AllFollow o rs → LaterFollow compacted o rs
later_follow compacted o [] all = tt
later_follow compacted o (r ∷ rs) (here, more) = (λ lt. here, later_follow compacted (Some r) rs more)

follow_last : (o : Option RevisionView) (xs ys : List RevisionView) → AllFollow o (xs ++ ys) → AllFollow (last_or o xs) ys
follow_last o [] ys all = all
follow_last o (x ∷ xs) ys (here, more) = follow_last (Some x) xs ys more

-- upon nothing or a deletion it is written alike
upon_none : (o : Option RevisionView) (r : RevisionView) → held_of o ≡ None → follows o r ≡ follows None r
upon_none o r none = follows_is o r ∙ ap (λ (h : Option RevisionView). follows_held h r) none ∙ sym (follows_is None r)

all_later : (compacted : ℕ) (r : RevisionView) (rs : List RevisionView) → Rises number_cmp (r ∷ rs) → compacted < r.key.main → (s : RevisionView)
    → Contains (r ∷ rs) s → compacted < s.key.main
all_later compacted r rs rise lt s has = elim (contains_cases r s rs has) [
  | inl same ↦ subst (λ (x : RevisionView). compacted < x.key.main) same lt
  | inr more ↦ (let le = main_le r.key s.key (rise.0 s more) in omega (arith, le, lt))
]

-- ---- the one before it, among revisions of one name

abbrev pub IsOwn : Key → Option RevisionView → Type 0
IsOwn name None = Unit {0}
IsOwn name (Some before) = is_named name before ≡ true

pub own_before : (name : Key) (o : Option RevisionView) (r : RevisionView) → IsOwn name o → is_named name r ≡ true → before_of o r ≡ o
own_before name None r is own = refl
own_before name (Some before) r is own =
    cond-true (is_named (name_of r) before) (Some before) None (ap (bytes_eq (name_of before)) (same_text (name_of r) name (sym own)) ∙ is)

-- ---- a deletion has no lease

abbrev HasNoLeaseIfDeleted : RevisionView → Type 0
HasNoLeaseIfDeleted r = r.key.deleted ≡ true → r.content.lease ≡ 0

no_lease : (state : State) (r : RevisionView) → IsWritten state r → HasNoLeaseIfDeleted r
no_lease state r (Put name value lease, can, is) deleted = let put = ap (λ (x : RevisionView). x.key.deleted) is in cc
no_lease state r (Delete name, can, is) deleted = ap (λ (x : RevisionView). x.content.lease) is

module _ (compacted : ℕ) (ts : List Transaction) (keeps : RevisionView → Bool) (possible : ArePossible ts) (compaction : IsCompaction compacted ts keeps)
    (name : Key) where
  abbrev own_kept : List RevisionView
  own_kept = filter (is_named name) (kept_revisions keeps ts)

  own_rise : Rises number_cmp own_kept
  own_rise = grind (arith, filter_rises, numbers_rise, history_rises)

  all_own : AllFollow None (filter (is_named name) (history ts))
  all_own = all_follow name nothing 2 0 (history ts) None (goes ts possible) refl

  rest_follow : (removed rest : List RevisionView) → IsCut compacted ts keeps possible compaction name removed rest → Rises number_cmp rest
      → AllFollow None (removed ++ rest) → LaterFollow compacted None rest
  rest_follow removed [] is rise all = tt
  rest_follow removed (r ∷ rs) is rise all =
      let (here, more) = follow_last None removed (r ∷ rs) all in (
        λ lt. sym (upon_none (last_or None removed) r (is.gone (all_later compacted r rs rise lt))) ∙ here,
        later_follow compacted (Some r) rs more,
      )

  pub kept_follow : LaterFollow compacted None own_kept
  kept_follow =
      let (removed, rest, is) = cut compacted ts keeps possible compaction name in
      subst (LaterFollow compacted None) (sym is.is_rest)
      (rest_follow removed rest is (subst (Rises number_cmp) is.is_rest own_rise) (subst (AllFollow None) is.joined all_own))

  -- ---- the lease of the last one is there

  abbrev Grants : (ℕ → Bool) → Type 0
  Grants granted = (r : RevisionView) → after_all (history ts) nothing name ≡ Some r → r.content.lease ≢ 0 → granted r.content.lease ≡ true

  newest_kept : (r : RevisionView) → last_or None own_kept ≡ Some r → newest name (history ts) ≡ Some r
  unfolding newest
  newest_kept r e =
      let (removed, rest, is) = cut compacted ts keeps possible compaction name in
      ap (last_or None) is.joined ∙ last_of_both None removed rest ∙ last_some (last_or None removed) rest r (ap (last_or None) (sym is.is_rest) ∙ e)

  lease_there : (granted : ℕ → Bool) → Grants granted → (r : RevisionView) → last_or None own_kept ≡ Some r → (zero none : Bool)
      → (r.content.lease == 0) ≡ zero → r.key.deleted ≡ none
      → lacks_lease granted r ≡ false
  lease_there granted grants r e true none test deleted = and_left _ _ (ap not test)
  lease_there granted grants r e false true test deleted = elim (last_in None own_kept r e) [
    | inl nowhere ↦ cc
    | inr has ↦
        let there = (kept_from keeps (history ts) r (kept_from (is_named name) (kept_revisions keeps ts) r has).0).0 in
        absurd (eqb-false r.content.lease 0 test (each HasNoLeaseIfDeleted no_lease nothing 2 0 (history ts) (goes ts possible) r there deleted))
  ]
  lease_there granted grants r e false false test deleted = grind (arith, newest_held, newest_kept, cond-false, and_right, eqb-false)

  -- ---- so it has no fault

  module _ (granted : ℕ → Bool) where
    none_before : (o : Option RevisionView) (r : RevisionView) (b : Bool) → is_of_later compacted r ≡ b → before_of o r ≡ o
        → (compacted < r.key.main → follows o r ≡ true)
        → lacks_one_before (Some compacted) o r ≡ false
    none_before o r true above is here =
        and_right _ _ (ap not (ap (λ (x : Option RevisionView). follows x r) is ∙ here (ltb-true compacted r.key.main above)))
    none_before o r false above is here = and_left _ _ above

    none_of_lease : (r : RevisionView) (rs : List RevisionView) → ((s : RevisionView) → Contains (r ∷ rs) s → is_named name s ≡ true)
        → ((s : RevisionView) → last_or (Some r) rs ≡ Some s → lacks_lease granted s ≡ false)
        → (is_newest r rs && lacks_lease granted r) ≡ false
    none_of_lease r [] own lease = lease r refl
    none_of_lease r (x ∷ rs) own lease =
        let same = same_text (name_of r) name (sym (own r (contains_head r (x ∷ rs)))) in
        and_left _ _ (ap not (ap (bytes_eq (name_of x)) same ∙ own x (contains_tail r x (x ∷ rs) (contains_head x rs))))

    no_fault : (o : Option RevisionView) (rs : List RevisionView) → IsOwn name o → ((s : RevisionView) → Contains rs s → is_named name s ≡ true)
        → LaterFollow compacted o rs
        → ((s : RevisionView) → last_or o rs ≡ Some s → lacks_lease granted s ≡ false) → name_faults (Some compacted) granted o rs ≡ []
    no_fault o [] is own follow lease = refl
    no_fault o (r ∷ rs) is own follow lease =
        let own_r = own r (contains_head r rs) in
        cond-false _ _ _
        (or_from _ _ (none_before o r (is_of_later compacted r) refl (own_before name o r is own_r) follow.0) (none_of_lease r rs own lease))
        ∙ no_fault (Some r) rs own_r (λ s has. own s (contains_tail r s rs has)) follow.1 lease

    pub no_faults : Grants granted → name_faults (Some compacted) granted None own_kept ≡ []
    no_faults grants =
        no_fault None own_kept tt (λ r has. (kept_from (is_named name) (kept_revisions keeps ts) r has).1) kept_follow
        (λ r e. lease_there granted grants r e (r.content.lease == 0) r.key.deleted refl refl)

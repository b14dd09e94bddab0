-- A revision that is taken away is missed by the next one of its name.
use Rattle.std.proofs.Common.{◌≡◌, ◌∙◌, ◌<◌, ◌+◌, ◌++◌, ℕ, Bool, true, false, List, [], ◌∷◌, cond, filter, inl, inr, not, Option, Some}
use Rattle.std.proofs.Common.{None, refl, sym, ap, subst, arith}
use Rattle.std.proofs.lemmas.Bool.{and_from, cond-false, cond-true, eqb-true, false_from_ne_true, lt-ltb, or_left}
use Rattle.std.proofs.{lemmas.List.Elements.Contains-append_left, lemmas.List.Elements.filter-append}
use Rattle.std.specs.List.{Contains, last_or}
use Rattle.bolt_lemmas.proofs.Exports.{IsFound, after_it, contains_head, contains_tail, found_there, kept_from, last_in}
use Rattle.bolt_etcd.specs.{Histories.Compactions.IsCompaction, Histories.Compactions.kept_revisions, Check.Follows.follows}
use Rattle.bolt_etcd.specs.Histories.Transactions.{Delete, Put, State, Transaction, history, nothing, version_after}
use Rattle.bolt_etcd.specs.{Check.NameFaults.AreByName, Check.NameFaults.NameFaultView, Check.NameFaults.fault_of, Check.NameFaults.name_faults}
use Rattle.bolt_etcd.specs.{Store.Newest.is_named, Store.Newest.newest, Store.Newest.value_if}
use Rattle.bolt_etcd.specs.{Wire.Revisions.RevisionView, Wire.Revisions.name_of, Histories.Possible.ArePossible, Histories.Taken.IsShownBy}
use Rattle.bolt_etcd.specs.{Histories.Taken.IsTaken, Histories.Taken.ReportsOneBefore, Histories.Reported.number_cmp}
use Rattle.bolt_etcd.proofs.{HistorySteps.IsWritten, HistorySteps.each, HistorySteps.goes, HistorySteps.numbers_rise, StoreLemmas.itself}
use Rattle.bolt_etcd.proofs.{WholeNames.IsOwn, WholeNames.LaterFollow, WholeNames.kept_follow, WholeNames.own_before, FaultsOfNames.faults_named}
use Rattle.bolt_etcd.proofs.MissingExact.{main_le}
use Rattle.bolt_etcd.proofs.{NameHistories.follows_is, NameHistories.held_of, NameHistories.held_parts, TakenAway.all_rise}
use Rattle.bolt_etcd.proofs.{TakenAway.left_by_stored_key}

next_version : (o : Option RevisionView) → 0 < version_after o
next_version None = omega arith
next_version (Some before) = omega arith

-- ---- what follows two revisions in turn, but not the first of them alone

abbrev HasVersion : RevisionView → Type 0
HasVersion r = r.key.deleted ≡ false → 0 < r.content.version

has_version : (state : State) (r : RevisionView) → IsWritten state r → HasVersion r
has_version state r (Put name value lease, can, is) put = subst (λ (x : RevisionView). 0 < x.content.version) (sym is) (next_version (state name))
has_version state r (Delete name, can, is) put = let deleted = ap (λ (x : RevisionView). x.key.deleted) is in cc

is_gone : (o : Option RevisionView) → value_if o ≡ None → held_of o ≡ None
is_gone None none = refl
is_gone (Some r) none = grind arith

creates_then : (o : Option RevisionView) (r : RevisionView) → held_of o ≡ None → follows o r ≡ true
    → (r.key.deleted ≡ false) × (r.content.version ≡ 1)
creates_then o r none follow = grind (arith, follows_is, eqb-true)

next_then : (o : Option RevisionView) (before r : RevisionView) → held_of o ≡ Some before → r.key.deleted ≡ false → follows o r ≡ true
    → r.content.version ≡ before.content.version + 1
next_then o before r holds live follow = grind (arith, follows_is, eqb-true)

live_held : (r : RevisionView) → r.key.deleted ≡ false → held_of (Some r) ≡ Some r
live_held r live = cond-false r.key.deleted None (Some r) live

upon_gone : (o : Option RevisionView) (r next : RevisionView) → held_of o ≡ None → follows o r ≡ true → follows (Some r) next ≡ true
    → follows o next ≡ true
    → ⊥
upon_gone o r next gone first second both =
    let (live, one) = creates_then o r gone first in
    let (there, also) = creates_then o next gone both in
    let two = next_then (Some r) r next (live_held r live) there second in
    omega (arith, one, also, two)

upon_put : (o : Option RevisionView) (before r next : RevisionView) (a : Bool) → held_of o ≡ Some before → 0 < before.content.version
    → r.key.deleted ≡ a → next.key.deleted ≡ false → follows o r ≡ true → follows (Some r) next ≡ true → follows o next ≡ true → ⊥
upon_put o before r next true holds some is live first second both = grind (arith, creates_then, cond-true, next_then)
upon_put o before r next false holds some is live first second both =
    let one = next_then o before r holds is first in
    let two = next_then (Some r) r next (live_held r is) live second in
    let up = next_then o before next holds live both in
    omega (arith, one, two, up)

follows_both : (o : Option RevisionView) (r next : RevisionView) (h : Option RevisionView) → held_of o ≡ h
    → ((b : RevisionView) → h ≡ Some b → 0 < b.content.version)
    → (next.key.deleted ≡ true → held_of o ≡ None) → follows o r ≡ true → follows (Some r) next ≡ true → follows o next ≡ true → ⊥
follows_both o r next None holds some gone first second both = upon_gone o r next holds first second both
follows_both o r next (Some before) holds some gone first second both =
    let live = false_from_ne_true next.key.deleted (λ deleted. let none = gone deleted in cc) in
    upon_put o before r next r.key.deleted holds (some before refl) refl live first second both

-- ---- the revision after one that is taken away

follow_at : (compacted : ℕ) (o : Option RevisionView) (xs ys : List RevisionView) → LaterFollow compacted o (xs ++ ys)
    → LaterFollow compacted (last_or o xs) ys
follow_at compacted o [] ys all = all
follow_at compacted o (x ∷ xs) ys all = follow_at compacted (Some x) xs ys all.1

one_more : (b : Bool) (g f : NameFaultView) (fs : List NameFaultView) → Contains fs f → Contains (cond b (g ∷ fs) fs) f
one_more true g f fs has = contains_tail g f fs has
one_more false g f fs has = has

fault_in : (c : Option ℕ) (granted : ℕ → Bool) (o : Option RevisionView) (xs : List RevisionView) (x : RevisionView) (ys : List RevisionView)
    → (fault_of c granted (last_or o xs) x ys).one_before ≡ true
    → Contains (name_faults c granted o (xs ++ x ∷ ys)) (fault_of c granted (last_or o xs) x ys)
fault_in c granted o [] x ys is = grind (arith, cond-true, or_left, contains_head)
fault_in c granted o (z ∷ xs) x ys is = grind (arith, one_more, fault_in c granted (Some z) xs x ys is)

module _ (compacted : ℕ) (ts : List Transaction) (keeps : RevisionView → Bool) (possible : ArePossible ts) (compaction : IsCompaction compacted ts keeps)
    (r next : RevisionView) (left : List RevisionView) (is : IsTaken compacted (kept_revisions keeps ts) r left)
    (shown : IsShownBy next r is.before is.after) where
  its_next : IsFound (is_named (name_of r)) is.after next
  its_next = found_there (is_named (name_of r)) is.after next shown.next_of_name

  abbrev earlier : List RevisionView
  earlier = filter (is_named (name_of r)) is.before

  abbrev later : List RevisionView
  later = its_next.0

  own_kept : filter (is_named (name_of r)) (kept_revisions keeps ts) ≡ earlier ++ r ∷ next ∷ later
  own_kept = grind (arith, filter-append, cond-true, itself)

  own_left : filter (is_named (name_of r)) left ≡ earlier ++ next ∷ later
  own_left = grind (arith, filter-append)

  above : compacted < next.key.main
  above =
      let all = numbers_rise (is.before ++ r ∷ is.after) (all_rise compacted ts keeps possible r left is) in
      let less = after_it r number_cmp is.before is.after next all its_next.2 in
      let low = is.above in
      let le = main_le r.key next.key less in
      omega (arith, low, le)

  in_history : (b : RevisionView) → last_or None earlier ≡ Some b → Contains (history ts) b × (is_named (name_of r) b ≡ true)
  in_history b e = elim (last_in None earlier b e) [
    | inl nowhere ↦ cc
    | inr has ↦
        let (there, named) = kept_from (is_named (name_of r)) is.before b has in
        let whole = Contains-append_left is.before (r ∷ is.after) b there in
        ((kept_from keeps (history ts) b (subst (λ (l : List RevisionView). Contains l b) (sym is.there) whole)).0, named)
  ]

  has_one : (b : RevisionView) → held_of (last_or None earlier) ≡ Some b → 0 < b.content.version
  has_one b e =
      let (last, live) = held_parts (last_or None earlier) b e in
      each HasVersion has_version nothing 2 0 (history ts) (goes ts possible) b (in_history b last).0 live

  not_follows : follows (last_or None earlier) next ≡ false
  unfolding newest
  not_follows =
      let own = subst (LaterFollow compacted None) own_kept (kept_follow compacted ts keeps possible compaction (name_of r)) in
      let all = follow_at compacted None earlier (r ∷ next ∷ later) own in
      false_from_ne_true _
      (follows_both (last_or None earlier) r next (held_of (last_or None earlier)) refl has_one
      (λ deleted. is_gone (last_or None earlier) (shown.not_after_put deleted)) (all.0 is.above) (all.1.0 above))

  own_last : (o : Option RevisionView) → last_or None earlier ≡ o → IsOwn (name_of r) o
  own_last None e = tt
  own_last (Some b) e = (in_history b e).1

  module _ (granted : ℕ → Bool) where
    abbrev fault : NameFaultView
    fault = fault_of (Some compacted) granted (last_or None earlier) next later

    is_missing : fault.one_before ≡ true
    is_missing =
        let own = own_before (name_of r) (last_or None earlier) next (own_last (last_or None earlier) refl) its_next.3 in
        and_from _ _ (lt-ltb compacted next.key.main above) (ap not (ap (λ (o : Option RevisionView). follows o next) own ∙ not_follows))

    pub fault_found : (by_name : List RevisionView) → AreByName left by_name → ReportsOneBefore next (name_faults (Some compacted) granted None by_name)
    fault_found by_name sorted =
        let here = fault_in (Some compacted) granted None earlier next later is_missing in
        let all =
        faults_named (Some compacted) granted left by_name (name_of r) (left_by_stored_key compacted ts keeps possible r left is) sorted
        ∙ ap (name_faults (Some compacted) granted None) own_left in
        (fault, (kept_from _ _ fault (subst (λ (l : List NameFaultView). Contains l fault) (sym all) here)).0, refl, is_missing)

-- What is missing of one name is what its revisions alone say, wherever they stand among those of other names.
use Rattle.std.proofs.Common.{inl, inr, ◌≡◌, ◌∙◌, ◌&&◌, ◌||◌, ℕ, Bool, true, false, List, [], ◌∷◌, cond, filter, not, Option, Some, None, refl, sym}
use Rattle.std.proofs.Common.{ap, arith}
use Rattle.std.proofs.{lemmas.Bool.cases_Bool, lemmas.Bool.cond-false, lemmas.Bool.cond-true, lemmas.Bool.cond_both, lemmas.Bool.false_from_ne_true}
use Rattle.std.proofs.{lemmas.Cmp.nat_list_cmp_total, lemmas.Cmp.tied_itself}
use Rattle.std.proofs.lemmas.List.Sorted.{Contains-permutation, IsPermutation-sym}
use Rattle.std.specs.{Cmp.IsTotalOrder, Cmp.Lexicographic.same_text, List.Contains, List.Sorted.IsPermutation, Ordering.is_eq}
use Rattle.std.specs.{Ordering.ordering_reverse, Ordering.ordering_then, Str.bytes_eq}
use Rattle.std.specs.{declared.cmp.Ordering.Ordering, declared.cmp.Ordering.TheVariants.Equal, declared.cmp.Ordering.TheVariants.Less}
use Rattle.bolt_lemmas.proofs.Exports.{contains_head, filter_none, filter_rises, kept, kept_from, rises_as, rises_once}
use Rattle.bolt_lemmas.specs.Order.{IsBelow, Rises}
use Rattle.bolt_check.specs.Keys.{Key, key_cmp}
use Rattle.bolt_etcd.specs.{Check.Follows.follows, Check.MissingNumbers.is_of_later}
use Rattle.bolt_etcd.specs.Store.Orders.{AreBySum, stored_key_cmp, sums_cmp}
use Rattle.bolt_etcd.specs.{Store.Newest.is_named, Wire.Revisions.RevisionView, Wire.Revisions.name_of}
use Rattle.bolt_etcd.specs.Check.NameFaults.{AreByName, NameFaultView, fault_of, is_newest, lacks_one_before, name_faults}
use Rattle.bolt_etcd.proofs.{NameOrders.sums_tie, NameOrders.sums_total, NewestOfNames.text_ties, SortedOnce.by_name_rises, SortedOnce.named_rises}
use Rattle.bolt_etcd.proofs.{SortedOnce.named_total, StoreLemmas.itself}

-- ---- revisions of one name stand together

both_ways : (o p q : Ordering) → ordering_then o p ≡ Less → ordering_then (ordering_reverse o) q ≡ Less → is_eq o ≡ true
both_ways o p q first second = grind arith

module _ (cmp : Key → Key → Ordering) (total : IsTotalOrder cmp) (ties : (a b : Key) → bytes_eq a b ≡ is_eq (cmp a b)) where
  abbrev by : RevisionView → RevisionView → Ordering
  by a b = cmp (name_of a) (name_of b)

  abbrev ordered : RevisionView → RevisionView → Ordering
  ordered a b = ordering_then (by a b) (stored_key_cmp a b)

  between : (a b c : RevisionView) → ordered a b ≡ Less → ordered b c ≡ Less → name_of c ≡ name_of a → name_of b ≡ name_of a
  between a b c first second same =
      let back : by b c ≡ ordering_reverse (by a b) = ap (cmp (name_of b)) same ∙ total.antisymm (name_of b) (name_of a) in
      let alike = ties (name_of a) (name_of b) ∙ both_ways (by a b) _ _ first (rw back at second) in
      sym (same_text (name_of a) (name_of b) (sym alike))

  module _ (name : Key) where
    abbrev named : List RevisionView → List RevisionView
    named rs = filter (is_named name) rs

    own : (r : RevisionView) → is_named name r ≡ true → name_of r ≡ name
    own r is = same_text (name_of r) name (sym is)

    none_later : (a b : RevisionView) (rs : List RevisionView) → is_named name a ≡ true → is_named name b ≡ false → ordered a b ≡ Less
        → IsBelow ordered b rs → named rs ≡ []
    none_later a b rs is other less below = grind (arith, filter_none, false_from_ne_true, between, itself)

    -- ---- the faults of a name

    abbrev is_of_name : NameFaultView → Bool
    is_of_name f = is_named name f.revision

    abbrev BeforeAll : Option RevisionView → List RevisionView → Type 0
    BeforeAll None rs = Unit {0}
    BeforeAll (Some before) rs = IsBelow ordered before rs

    newest_same : (r : RevisionView) (rs : List RevisionView) → is_named name r ≡ true → IsBelow ordered r rs → Rises ordered rs
        → is_newest r (named rs) ≡ is_newest r rs
    newest_same r [] is below rises = refl
    newest_same r (x ∷ rs) is below rises = grind (arith, cond_both, none_later, contains_head)

    module _ (compacted : Option ℕ) (granted : ℕ → Bool) where
      abbrev faults : Option RevisionView → List RevisionView → List NameFaultView
      faults before rs = name_faults compacted granted before rs

      -- a fault, if anything is missing, and then others
      abbrev listed : Bool → NameFaultView → List NameFaultView → List NameFaultView
      listed b f later = cond b (f ∷ later) later

      fault_same : (before : Option RevisionView) (r : RevisionView) (rs : List RevisionView) → is_named name r ≡ true → IsBelow ordered r rs
          → Rises ordered rs → fault_of compacted granted before r rs ≡ fault_of compacted granted before r (named rs)
      fault_same before r rs is below rises = grind (arith, newest_same)

      -- one of another name before them is as none
      lacks_same : (c : Option ℕ) (a r : RevisionView) → is_named (name_of r) a ≡ false → lacks_one_before c (Some a) r ≡ lacks_one_before c None r
      lacks_same None a r other = refl
      lacks_same (Some at) a r other = ap (λ (x : Option RevisionView). is_of_later at r && not (follows x r)) (cond-false _ (Some a) None other)

      not_own : (a : RevisionView) (rs : List RevisionView) → is_named name a ≡ false → ((r : RevisionView) → Contains rs r → is_named name r ≡ true)
          → faults (Some a) rs ≡ faults None rs
      not_own a [] other are = refl
      not_own a (r ∷ rs) other are = grind (arith, contains_head, lacks_same)

      filter_own : (b : Bool) (f : NameFaultView) (later : List NameFaultView) → is_of_name f ≡ true
          → filter is_of_name (listed b f later) ≡ listed b f (filter is_of_name later)
      filter_own true f later is = cond-true (is_of_name f) _ _ is
      filter_own false f later is = refl

      filter_other : (b : Bool) (f : NameFaultView) (later : List NameFaultView) → is_of_name f ≡ false
          → filter is_of_name (listed b f later) ≡ filter is_of_name later
      filter_other true f later other = cond-false (is_of_name f) _ _ other
      filter_other false f later other = refl

      are_own : (rs : List RevisionView) (r : RevisionView) → Contains (named rs) r → is_named name r ≡ true
      are_own rs r has = (kept_from (is_named name) rs r has).1

      -- after a revision of another name there are none of this name, or none was before it
      skip : (before : Option RevisionView) (r : RevisionView) (rs : List RevisionView) → is_named name r ≡ false → BeforeAll before (r ∷ rs)
          → IsBelow ordered r rs → faults (Some r) (named rs) ≡ faults before (named rs)
      skip None r rs other all below = not_own r (named rs) other (are_own rs)
      skip (Some before) r rs other all below = elim (cases_Bool (is_named name before)) [
        | inl is ↦ rw (none_later before r rs is other (all r (contains_head r rs)) below) refl
        | inr is ↦ not_own r (named rs) other (are_own rs) ∙ sym (not_own before (named rs) is (are_own rs))
      ]

      of_name : (before : Option RevisionView) (rs : List RevisionView) → BeforeAll before rs → Rises ordered rs
          → filter is_of_name (faults before rs) ≡ faults before (named rs)
      of_name before [] all rises = refl
      of_name before (r ∷ rs) all rises =
          let f = fault_of compacted granted before r rs in
          let later = of_name (Some r) rs rises.0 rises.1 in
          cond_both (is_named name r) _ _ (λ l. filter is_of_name (faults before (r ∷ rs)) ≡ faults before l)
          (λ is.
          filter_own (f.one_before || f.lease) f (faults (Some r) rs) is
          ∙ ap (listed (f.one_before || f.lease) f) later
          ∙ ap (λ (x : NameFaultView). listed (x.one_before || x.lease) x (faults (Some r) (named rs))) (fault_same before r rs is rises.0 rises.1))
          (λ other. filter_other (f.one_before || f.lease) f (faults (Some r) rs) other ∙ later ∙ skip before r rs other all rises.0)

    -- ---- in the order of their names they are in the order of their keys

    named_moved : (rs sorted : List RevisionView) → IsPermutation rs sorted → (r : RevisionView) → Contains (named rs) r → Contains (named sorted) r
    named_moved rs sorted same r has =
        let (there, passes) = kept_from (is_named name) rs r has in
        kept (is_named name) sorted r (Contains-permutation rs sorted r same there) passes

    by_stored_key : (rs : List RevisionView) → ((r : RevisionView) → Contains rs r → is_named name r ≡ true) → Rises stored_key_cmp rs
        → Rises ordered rs
    by_stored_key rs are = rises_as stored_key_cmp ordered rs (λ a b has also less.
        let tied : by a b ≡ Equal = rw (own a (are a has), own b (are b also)) (tied_itself total name) in
        rw (tied, less) refl)

    same_named : (rs sorted : List RevisionView) → Rises stored_key_cmp rs → IsPermutation rs sorted → Rises ordered sorted → named sorted ≡ named rs
    same_named rs sorted rises same up =
        rises_once (named_total total) (named sorted) (named rs)
        (filter_rises ordered (is_named name) sorted up)
        (by_stored_key (named rs) (λ r has. (kept_from (is_named name) rs r has).1) (filter_rises stored_key_cmp (is_named name) rs rises))
        (named_moved sorted rs (IsPermutation-sym rs sorted same)) (named_moved rs sorted same)

    -- the faults of a name, of revisions among which those of a name stand together
    pub faults_of : (compacted : Option ℕ) (granted : ℕ → Bool) (rs sorted : List RevisionView) → Rises stored_key_cmp rs → IsPermutation rs sorted
        → Rises ordered sorted
        → filter is_of_name (name_faults compacted granted None sorted) ≡ name_faults compacted granted None (named rs)
    faults_of compacted granted rs sorted rises same up = grind (arith, of_name, same_named)

-- those of each name are all
pub none_of_any : (fs : List NameFaultView) → ((name : Key) → filter (λ (f : NameFaultView). is_named name f.revision) fs ≡ []) → fs ≡ []
none_of_any [] none = refl
none_of_any (f ∷ fs) none =
    let rest = filter (λ (g : NameFaultView). is_named (name_of f.revision) g.revision) fs in
    let first = cond-true (is_named (name_of f.revision) f.revision) (f ∷ rest) rest (itself (name_of f.revision)) in
    let one : f ∷ rest ≡ [] = sym first ∙ none (name_of f.revision) in
    cc

-- the faults of a name, of revisions that are sorted by name
pub faults_named : (compacted : Option ℕ) (granted : ℕ → Bool) (rs sorted : List RevisionView) (name : Key) → Rises stored_key_cmp rs
    → AreByName rs sorted
    → filter (λ (f : NameFaultView). is_named name f.revision) (name_faults compacted granted None sorted)
    ≡ name_faults compacted granted None (filter (is_named name) rs)
faults_named compacted granted rs sorted name rises is =
    faults_of key_cmp nat_list_cmp_total text_ties name compacted granted rs sorted rises is.same (by_name_rises rs sorted rises is)

-- if none is found in the order of the sums of names, then none is by name
pub none_by_name : (compacted : Option ℕ) (granted : ℕ → Bool) (rs by_sum by_name : List RevisionView) → Rises stored_key_cmp rs → AreBySum rs by_sum
    → AreByName rs by_name → name_faults compacted granted None by_sum ≡ [] → name_faults compacted granted None by_name ≡ []
none_by_name compacted granted rs by_sum by_name rises sums names none =
    none_of_any (name_faults compacted granted None by_name) (λ name.
    faults_named compacted granted rs by_name name rises names
    ∙ sym (faults_of sums_cmp sums_total sums_tie name compacted granted rs by_sum rises sums.same
    (named_rises sums_total rs by_sum rises sums.same sums.rises))
    ∙ ap (filter (λ (f : NameFaultView). is_named name f.revision)) none)

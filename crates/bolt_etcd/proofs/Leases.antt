-- Which leases a bucket has: a look-up of a lease says whether it has it.
use Rattle.std.proofs.Common.{arith, ◌≡◌, ◌&&◌, ◌==◌, ℕ, Bool, List, not, Option, Some, None, sym, ap}
use Rattle.std.proofs.{Math.Logic.∥∥₁_elim, Props.props, lemmas.Bool.and_from, lemmas.Bool.and_parts, lemmas.Bool.false_from_ne_true}
use Rattle.std.proofs.{lemmas.Bool.not-true}
use Rattle.std.proofs.lemmas.List.Folds.{Any-from_list_any, list_any-from_Any}
use Rattle.std.specs.{Cmp.Lexicographic.same_text, Int.to_be_bytes, Int.w64, Option.is_some, Option.option_map, Str.bytes_eq}
use Rattle.bolt_check.specs.declared.checked.Checked.{Checked}
use Rattle.bolt_format.specs.Elements.{LeafElement}
use Rattle.bolt_tree.specs.{BucketViews.entries_of, Entries.AreEntries, Entries.Start, Lookups.IsValueAt, declared.bucket.Bucket.Bucket}
use Rattle.bolt_etcd.specs.{Check.ForNames.ForGranted, Check.NameFaults.has_lease, Check.NameFaults.is_lease}
use Rattle.bolt_etcd.proofs.StoreLemmas.{itself}

-- ---- a look-up

module _ (checked : Checked) (start : Start) (entries : List LeafElement) (lease : ℕ) (are : AreEntries (entries_of checked) start entries) where
  abbrev pub key : List ℕ
  key = to_be_bytes w64 lease

  looked_up : (o : Option (List ℕ)) → IsValueAt (entries_of checked) start key o → has_lease entries lease ≡ is_some o
  looked_up (Some value) found = ∥∥₁_elim found (hlevel props) (λ (e, there, under, flat, is).
      let (k, within, at) = (are.exact e).1 there in
      list_any-from_Any (is_lease lease) entries (k, e, within, at, and_from _ _ (rw under (itself key)) (ap not flat)))
  looked_up None none = false_from_ne_true _ (λ is.
      let (k, e, within, at, passes) = Any-from_list_any (is_lease lease) entries is in
      let (named, flat) = and_parts (bytes_eq e.key key) (not e.is_bucket) passes in
      let bucket = none e ((are.exact e).0 (k, within, at)) (same_text e.key key (sym named)) in
      let value = not-true _ flat in
      cc)

  -- a revision with this lease lacks it if the look-up finds nothing
  pub lacks : {X : Type 0} (f : X → List ℕ) (o : Option X) (none : Bool) (asked : List ℕ) → (lease ≡ 0 → ⊥) → asked ≡ key
      → IsValueAt (entries_of checked) start asked (option_map f o)
      → is_some o ≡ not none → none ≡ (not (lease == 0) && not (has_lease entries lease))
  lacks f o none asked more is found reported =
      grind (arith, looked_up (option_map f o) (rw is at found))

-- ---- for whatever leases there are

pub granted_with : (leases : Option Bucket) (P Q R : (ℕ → Bool) → Type 0) → ForGranted leases P → ForGranted leases Q
    → ((granted : ℕ → Bool) → P granted → Q granted → R granted) → ForGranted leases R
granted_with None P Q R p q both = both _ p q
granted_with (Some leases) P Q R p q both = λ entries are. both _ (p entries are) (q entries are)

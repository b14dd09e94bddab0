-- What look-ups in the root bucket say of a store.
use Rattle.std.proofs.Common.{arith, ◌≡◌, ◌∙◌, ◌++◌, Bool, true, false, ℕ, List, flat_map, not, Option, Some, None}
use Rattle.std.proofs.Common.{refl, sym, ap, subst}
use Rattle.std.proofs.{Math.Logic.∥∥₁_elim, Props.props, lemmas.Bool.and_from, lemmas.Bool.and_parts, lemmas.Bool.not-true}
use Rattle.std.proofs.{lemmas.Slice.Eq.bytes_eq-Decides}
use Rattle.std.specs.{Cmp.Lexicographic.same_text, List.concat, List.find, Option.option_map, Str.bytes_eq}
use Rattle.std.specs.Prelude.{IfSome}
use Rattle.bolt_lemmas.proofs.Exports.{Finds, concat_three, finds}
use Rattle.bolt_lemmas.specs.Order.{Rises}
use Rattle.bolt_check.specs.{Keys.Key, declared.checked.Checked.Checked}
use Rattle.bolt_format.specs.Elements.{LeafElement}
use Rattle.bolt_tree.proofs.Exports.{own_entries, entry_once}
use Rattle.bolt_tree.specs.{BucketViews.entries_of, Buckets.bucket_checked, Buckets.bucket_start, Entries.AreEntries, Entries.Start, Entries.start_of}
use Rattle.bolt_tree.specs.{Lookups.IsBucketAt, Lookups.IsValueAt}
use Rattle.bolt_tree.specs.{declared.bucket.Bucket.Bucket, EntriesLeft.ForBucket}
use Rattle.bolt_etcd.specs.{Store.Compacted.IsCompacted, Store.Compacted.compacted_in, Store.Compacted.is_value_under}
use Rattle.bolt_etcd.specs.Store.Orders.{stored_key_cmp}
use Rattle.bolt_etcd.specs.{Store.Compacted.value_under, Check.CheckLines.name_fault_lines}
use Rattle.bolt_etcd.specs.{Check.ForNames.ForGranted, Private.FaultsLeft.faults_leases, Private.FaultsLeft.faults_left, Check.NameFaults.AreByName}
use Rattle.bolt_etcd.specs.{Check.NameFaults.NameFaultView, Check.NameFaults.name_faults, Wire.Revisions.RevisionView}
use Rattle.bolt_etcd.specs.{Store.StoreBuckets.HasEntriesUnder, Store.StoreBuckets.IsStore, Store.StoreBuckets.StoreView}
use Rattle.bolt_etcd.specs.{Store.StoreBuckets.revisions_in, Store.Stores.revisions}
use Rattle.bolt_etcd.specs.Check.StoreFaults.{missing_bucket_lines, entry_lines, granted_in, key_lines, name_lines}
use Rattle.bolt_etcd.specs.Check.StoreFaults.{store_compacted, store_granted, store_lines}
use Rattle.bolt_etcd.specs.declared.check.name_faults.NameFaults.{NameFaults}
use Rattle.bolt_etcd.specs.Store.BucketNames.{bucket_names, key_bucket, lease_bucket}
use Rattle.bolt_etcd.proofs.{Currents.revisions_rise, SortedOnce.by_name_once}

pub itself : (xs : List ℕ) → bytes_eq xs xs ≡ true
itself xs = (bytes_eq-Decides xs xs).1 refl

-- ---- a value among entries

module _ (Entry : Start → LeafElement → Type 0) (start : Start) (entries : List LeafElement) (key : Key) (are : AreEntries Entry start entries) where
  is_under : (e : LeafElement) → is_value_under key e ≡ true → (e.key ≡ key) × (e.is_bucket ≡ false)
  is_under e passes = let (named, flat) = and_parts (bytes_eq e.key key) (not e.is_bucket) passes in (same_text e.key key (sym named), not-true _ flat)

  value_by : (f : Option LeafElement) → Finds (is_value_under key) entries f → (o : Option (List ℕ)) → IsValueAt Entry start key o
      → option_map (λ (e : LeafElement). e.value) f ≡ o
  value_by None found None at = refl
  value_by (Some e) (has, passes) (Some value) at =
      let (named, flat) = is_under e passes in
      ap Some (∥∥₁_elim at (hlevel props)
      (λ (g, there, under, flat', holds).
      ap (λ (x : LeafElement). x.value) (entry_once Entry start entries are e g ((are.exact e).0 has) there (named ∙ sym under)) ∙ holds))
  value_by (Some e) (has, passes) None at =
      let (named, flat) = is_under e passes in
      let bucket = at e ((are.exact e).0 has) named in
      absurd (cc)
  value_by None found (Some value) at = absurd (∥∥₁_elim at (hlevel props) (λ (g, there, under, flat, holds).
      let fails = found g ((are.exact g).1 there) in
      let passes : is_value_under key g ≡ true = and_from _ _ (rw under (itself key)) (ap not flat) in
      cc))

  pub value_at : (o : Option (List ℕ)) → IsValueAt Entry start key o → value_under key entries ≡ o
  value_at o at = value_by (find (is_value_under key) entries) (finds (is_value_under key) entries) o at

-- ---- a bucket under a name

module _ (root : Bucket) where
  abbrev pub Here : LeafElement → Type 0
  Here e = entries_of (bucket_checked root) (bucket_start root) e

  once : (a b : LeafElement) → Here a → Here b → a.key ≡ b.key → a ≡ b
  unfolding bucket_checked bucket_start
  once a b is there same = ∥∥₁_elim (own_entries (bucket_checked root) (bucket_start root) root.begins) (hlevel props)
      (λ (entries, are). entry_once (entries_of (bucket_checked root)) (bucket_start root) entries are a b is there same)

  -- a look-up finds the bucket with these entries, or there is none
  abbrev pub Fits : Option Bucket → Option (List LeafElement) → Type 0
  Fits None None = Unit {0}
  Fits None (Some entries) = ⊥
  Fits (Some inner) None = ⊥
  Fits (Some inner) (Some entries) = AreEntries (entries_of (bucket_checked root)) (bucket_start inner) entries

  pub fits : (name : Key) (o : Option Bucket) (b : Option (List LeafElement))
      → IsBucketAt (entries_of (bucket_checked root)) (bucket_start root) name o
      → HasEntriesUnder (entries_of (bucket_checked root)) (bucket_start root) name b → Fits o b
  fits name None None found has = tt
  fits name None (Some entries) found (e, there, key, bucket, are) = let flat = found e there key in cc
  fits name (Some inner) None found has = ∥∥₁_elim found (hlevel props) (λ (f, is, at, bucket, begins, numbered). let flat = has f is at in cc)
  fits name (Some inner) (Some entries) found (e, there, key, bucket, are) =
      let start : bucket_start inner ≡ start_of e.value = ∥∥₁_elim found (hlevel props) (λ (f, is, at, kind, begins, numbered).
      begins ∙ ap (λ (x : LeafElement). start_of x.value) (once f e is there (at ∙ sym key))) in
      subst (λ (s : Start). AreEntries (entries_of (bucket_checked root)) s entries) (sym start) are

  pub fits_none : (b : Option (List LeafElement)) → Fits None b → b ≡ None
  fits_none b has = grind arith

  pub fits_some : (inner : Bucket) (b : Option (List LeafElement)) → Fits (Some inner) b
      → (entries : List LeafElement) × (b ≡ Some entries) × AreEntries (entries_of (bucket_checked root)) (bucket_start inner) entries
  fits_some inner None has = absurd has
  fits_some inner (Some entries) has = (entries, refl, has)

  -- up to which transaction the store was compacted
  pub compaction : (meta : Bucket) (n : ℕ) (b : Option (List LeafElement)) → bucket_checked meta ≡ bucket_checked root → Fits (Some meta) b
      → IsCompacted (entries_of (bucket_checked meta)) (bucket_start meta) n → Some n ≡ option_map compacted_in b
  compaction meta n None checked has is = absurd has
  compaction meta n (Some entries) checked are (value, at, is) = grind (arith, value_at)

  -- which leases there are
  pub granted : (leases : Option Bucket) (b : Option (List LeafElement)) (P : (ℕ → Bool) → Type 0)
      → IfSome leases (λ inner. bucket_checked inner ≡ bucket_checked root)
      → Fits leases b → ForGranted leases P → P (granted_in b)
  granted None None P checked has all = all
  granted None (Some entries) P checked has all = absurd has
  granted (Some inner) None P checked has all = absurd has
  granted (Some inner) (Some entries) P checked are all = all entries (rw checked are)

-- ---- name by name

pub granted_map : (leases : Option Bucket) (P R : (ℕ → Bool) → Type 0) → ((granted : ℕ → Bool) → P granted → R granted) → ForGranted leases P
    → ForGranted leases R
granted_map None P R each all = each _ all
granted_map (Some leases) P R each all = λ entries are. each _ (all entries are)

pub same_names : (compacted : Option ℕ) (granted : ℕ → Bool) (left : List NameFaultView) (all by_name : List RevisionView)
    → left ≡ name_faults compacted granted None all → all ≡ by_name
    → flat_map name_fault_lines left ≡ name_lines compacted granted by_name
same_names compacted granted left all by_name is same = ap (flat_map name_fault_lines) (is ∙ ap (name_faults compacted granted None) same)

pub for_names : (rs : List RevisionView) (compacted : Option ℕ) (leases : Option Bucket) (pass : NameFaults) (all : List RevisionView)
    (Q : List (List ℕ) → Type 0)
    → Rises stored_key_cmp rs
    → faults_leases pass ≡ leases → ((granted : ℕ → Bool) → faults_left pass granted ≡ name_faults compacted granted None all) → AreByName rs all
    → ForGranted (faults_leases pass) (λ granted. Q (flat_map name_fault_lines (faults_left pass granted)))
    → ForGranted leases (λ granted. (by_name : List RevisionView) → AreByName rs by_name → Q (name_lines compacted granted by_name))
for_names rs compacted leases pass all Q rises from left sorted each =
    granted_map leases (λ granted. Q (flat_map name_fault_lines (faults_left pass granted)))
    (λ granted. (by_name : List RevisionView) → AreByName rs by_name → Q (name_lines compacted granted by_name))
    (λ granted one by_name is.
    subst Q (same_names compacted granted (faults_left pass granted) all by_name (left granted) (by_name_once rs all by_name rises sorted is)) one)
    (subst (λ (o : Option Bucket). ForGranted o (λ granted. Q (flat_map name_fault_lines (faults_left pass granted)))) from each)

-- of the revisions that were found in a bucket
pub found_names : (keys : Bucket) (rs : List RevisionView) (leases : Option Bucket) (compacted : Option ℕ) (Q : List (List ℕ) → Type 0)
    → ForBucket keys (λ entries. rs ≡ revisions entries)
    → (Rises stored_key_cmp rs → ForGranted leases (λ granted. (by_name : List RevisionView) → AreByName rs by_name → Q (name_lines compacted granted by_name)))
    → ForBucket keys (λ entries.
    ForGranted leases (λ granted. (by_name : List RevisionView) → AreByName (revisions entries) by_name → Q (name_lines compacted granted by_name)))
found_names keys rs leases compacted Q found all = grind (arith, revisions_rise)

-- ---- the lines of a store that has the bucket `key`

module _ (root keys : Bucket) (compacted : Option ℕ) (store : StoreView) (is : IsStore (entries_of (bucket_checked root)) (bucket_start root) store)
    (there : IsBucketAt (entries_of (bucket_checked root)) (bucket_start root) key_bucket (Some keys)) (file : bucket_checked keys ≡ bucket_checked root)
    (same : compacted ≡ store_compacted store) where
  pub key_entries : (entries : List LeafElement) × (store.bucket key_bucket ≡ Some entries)
      × AreEntries (entries_of (bucket_checked keys)) (bucket_start keys) entries
  key_entries =
      let (entries, at, are) =
      fits_some root keys (store.bucket key_bucket) (fits root key_bucket (Some keys) (store.bucket key_bucket) there (is.buckets key_bucket)) in
      (entries, at, subst (λ (c : Checked). AreEntries (entries_of c) (bucket_start keys) entries) (sym file) are)

  abbrev pub of_entries : List (List ℕ)
  of_entries = entry_lines (store_compacted store) key_entries.0

  abbrev pub of_names : List (List ℕ)
  of_names = name_lines (store_compacted store) (store_granted store) store.by_name

  pub lines_are : store_lines store ≡ missing_bucket_lines store bucket_names ++ (of_entries ++ of_names)
  lines_are = ap (λ (b : Option (List LeafElement)). missing_bucket_lines store bucket_names ++ key_lines store b) key_entries.1

  pub lines_text : concat (missing_bucket_lines store bucket_names) ++ (concat of_entries ++ concat of_names) ≡ concat (store_lines store)
  lines_text = concat_three (missing_bucket_lines store bucket_names) of_entries of_names ∙ ap concat (sym lines_are)

  pub entries_hold : (P : List (List ℕ) → Type 0) → ForBucket keys (λ entries. P (entry_lines compacted entries)) → P of_entries
  entries_hold P all = subst (λ (c : Option ℕ). P (entry_lines c key_entries.0)) same (all key_entries.0 key_entries.2)

  pub names_hold : (leases : Option Bucket) (Q : List (List ℕ) → Type 0)
      → IsBucketAt (entries_of (bucket_checked root)) (bucket_start root) lease_bucket leases
      → IfSome leases (λ inner. bucket_checked inner ≡ bucket_checked root)
      → ForBucket keys (λ entries.
      ForGranted leases (λ granted. (by_name : List RevisionView) → AreByName (revisions entries) by_name → Q (name_lines compacted granted by_name)))
      → Q of_names
  names_hold leases Q at checked all =
      subst (λ (c : Option ℕ). Q (name_lines c (store_granted store) store.by_name)) same
      (granted root leases (store.bucket lease_bucket)
      (λ given. (by_name : List RevisionView) → AreByName (revisions key_entries.0) by_name → Q (name_lines compacted given by_name)) checked
      (fits root lease_bucket leases (store.bucket lease_bucket) at (is.buckets lease_bucket)) (all key_entries.0 key_entries.2)
      store.by_name (subst (λ (b : Option (List LeafElement)). AreByName (revisions_in b) store.by_name) key_entries.1 is.sorted))

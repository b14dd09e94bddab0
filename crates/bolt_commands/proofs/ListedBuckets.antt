-- A listing has the bucket at a path where the path leads to one.
use Rattle.std.proofs.Common.{arith, ◌≡◌, ◌∙◌, ◌&&◌, ℕ, Bool, true, false, List, [], ◌∷◌, IsTrue, inl, inr, refl, sym, ap}
use Rattle.std.proofs.lemmas.Bool.Decides.{nat_tests}
use Rattle.bolt_lemmas.proofs.Exports.{contains_cases, contains_head, contains_none, contains_tail}
use Rattle.bolt_commands.proofs.Vocabulary.{Contains, Holds, IsEntry, IsListing, Item, Key, LeadsTo, LeafElement, Member, Meta, Names, Path}
use Rattle.bolt_commands.proofs.Vocabulary.{Root_page, Start, Value, and_parts, bytes_eq, bytes_eq-Decides, cases_Bool, has_bucket, head_sequence}
use Rattle.bolt_commands.proofs.Vocabulary.{is_bucket, is_bucket_at, item_of, list_any, or_cases, or_left, or_right, pointwise, slice_eq-Decides}
use Rattle.bolt_commands.proofs.Vocabulary.{start_of}
use Rattle.bolt_tree.specs.Entries.{Bucket}
use Rattle.bolt_load.proofs.Exports.{path_itself}

-- ---- lists

any_of : (p : Member → Bool) (ms : List Member) (m : Member) → Contains ms m → p m ≡ true → list_any p ms ≡ true
any_of p [] m has holds = absurd (contains_none m has)
any_of p (x ∷ ms) m has holds = elim (contains_cases x m ms has) [
  | inl same ↦ or_left (p x) (list_any p ms) (ap p same ∙ holds)
  | inr later ↦ or_right (p x) (list_any p ms) (any_of p ms m later holds)
]

some_of : (p : Member → Bool) (ms : List Member) → list_any p ms ≡ true → (m : Member) × Contains ms m × (p m ≡ true)
some_of p [] any = absurd (cc)
some_of p (x ∷ ms) any = elim (or_cases (p x) (list_any p ms) any) [
  | inl here ↦ (x, contains_head x ms, here)
  | inr later ↦ let (m, has, holds) = some_of p ms later in (m, contains_tail x m ms has, holds)
]

-- ---- entries

is_bucket_of : (e : LeafElement) (sequence : ℕ) → item_of e ≡ Bucket sequence → IsTrue e.is_bucket
is_bucket_of e sequence is = grind (arith, cases_Bool)

module _ (Entry : Start → LeafElement → Type 0) where
  held_of : (key : Key) (path : Path) (from bucket : Start) → Names Entry from (key ∷ path) bucket
      → (sequence : ℕ) × Holds Entry from (key ∷ path) (Bucket sequence)
  held_of key [] from bucket (e, is, k, b, there) = (head_sequence e.value, (e, is, k, rw b refl))
  held_of key (next ∷ path) from bucket (e, is, k, b, later) = grind (arith, held_of next path (start_of e.value) bucket later)

  named_of : (key : Key) (path : Path) (from : Start) (sequence : ℕ) → Holds Entry from (key ∷ path) (Bucket sequence)
      → (bucket : Start) × Names Entry from (key ∷ path) bucket
  named_of key [] from sequence (e, is, k, item) = (start_of e.value, (e, is, k, is_bucket_of e sequence item, refl))
  named_of key (next ∷ path) from sequence (e, is, k, b, held) = grind (arith, named_of next path (start_of e.value) sequence held)

-- ---- members

bucket_in : (item : Item) → is_bucket item ≡ true → (sequence : ℕ) × (item ≡ Bucket sequence)
bucket_in (Value value) t = absurd (cc)
bucket_in (Bucket sequence) t = (sequence, refl)

module _ (file : List ℕ) (meta : Meta) (listing : List Member) (is : IsListing file meta listing) where
  -- but for the root bucket, by its members
  by_members : (key : Key) (path : Path) → has_bucket (key ∷ path) listing ≡ list_any (is_bucket_at (key ∷ path)) listing
  by_members key path = grind (arith, nat_tests, list_any)

  pub has_named : (path : Path) (bucket : Start) → LeadsTo file meta path bucket → has_bucket path listing ≡ true
  has_named [] bucket leads = refl
  has_named (key ∷ path) bucket leads =
      let (sequence, held) = held_of (IsEntry file meta) key path (Root_page meta.root) bucket leads in
      by_members key path ∙ any_of (is_bucket_at (key ∷ path)) listing (key ∷ path, Bucket sequence) ((is.exact (key ∷ path) (Bucket sequence)).1 held)
      (ap (λ (b : Bool). b && true) (path_itself (key ∷ path)))

  pub named_has : (path : Path) → has_bucket path listing ≡ true → (bucket : Start) × LeadsTo file meta path bucket
  named_has [] has = (Root_page meta.root, refl)
  named_has (key ∷ path) has =
      let (m, contained, at) = some_of (is_bucket_at (key ∷ path)) listing (sym (by_members key path) ∙ has) in
      let parts = and_parts (pointwise bytes_eq m.0 (key ∷ path)) (is_bucket m.1) at in
      let same : m.0 ≡ key ∷ path = (slice_eq-Decides bytes_eq-Decides m.0 (key ∷ path) (pointwise bytes_eq m.0 (key ∷ path)) refl).0 parts.0 in
      let (sequence, item) = bucket_in m.1 parts.1 in
      let held = (is.exact m.0 m.1).0 contained in
      named_of (IsEntry file meta) key path (Root_page meta.root) sequence (rw (same, item) at held)

  -- where it leads to none, the listing has none
  pub none_named : (path : Path) → ((bucket : Start) → LeadsTo file meta path bucket → ⊥) → has_bucket path listing ≡ false
  none_named path nowhere = elim (cases_Bool (has_bucket path listing)) [
    | inl has ↦ let (bucket, leads) = named_has path has in absurd (nowhere bucket leads)
    | inr none ↦ none
  ]

-- A path leads to one bucket or to none, and holds one item or none; which of the two is computed from the entries of the buckets.
-- Over any relation that says which elements a bucket has.
use Rattle.std.proofs.Common.{arith, ◌≡◌, ◌∙◌, ◌⊎◌, inl, inr, true, false, IsTrue, List, [], ◌∷◌, ◌++◌, refl, sym, ap, subst, rules}
use Rattle.bolt_lemmas.proofs.Exports.{contains_cases, contains_head, contains_none, contains_tail}
use Rattle.bolt_tree.proofs.Words.{Contains, HasEntries, Holds, Item, Key, LeafElement, Names, Path, Start, bytes_eq-Decides, cases_Bool, item_of}
use Rattle.bolt_tree.proofs.Words.{props, start_of, ∥∥₁_elim}
use Rattle.bolt_tree.proofs.Named.{entries_below}
use Rattle.bolt_tree.proofs.{Named.entry_once}
use Rattle.std.specs.Str.{bytes_eq}

-- the element of a list with this key, or none has it
abbrev HasKey : List LeafElement → Key → Type 0
HasKey entries key = (e : LeafElement) × Contains entries e × (e.key ≡ key)

key_apart : (x e : LeafElement) (xs : List LeafElement) (key : Key) → bytes_eq x.key key ≡ false → (x ≡ e) ⊎ Contains xs e → e.key ≡ key
    → Contains xs e
key_apart x e xs key apart h is = grind (arith, bytes_eq-Decides)

key_or_none : (entries : List LeafElement) (key : Key) → HasKey entries key ⊎ ((e : LeafElement) → Contains entries e → e.key ≡ key → ⊥)
key_or_none [] key = inr (λ e h is. contains_none e h)
key_or_none (x ∷ xs) key = elim (cases_Bool (bytes_eq x.key key)) [
  | inl same ↦ inl (x, contains_head x xs, (bytes_eq-Decides x.key key).0 same)
  | inr apart ↦ elim (key_or_none xs key) [
    | inl (e, h, is) ↦ inl (e, contains_tail x e xs h, is)
    | inr none ↦ inr (λ e h is. none e (key_apart x e xs key apart (contains_cases x e xs h) is) is)
  ]
]

no_bucket : (e : LeafElement) → e.is_bucket ≡ false → IsTrue e.is_bucket → ⊥
no_bucket e is_value is = let bad : false ≡ true = sym is_value ∙ is in absurd (search (rules, bad))

module _ (Entry : Start → LeafElement → Type 0) where
  -- the entry of a bucket with this key, or none has it
  pub entry_or_none : (bucket : Start) → HasEntries Entry bucket → (key : Key)
      → ((e : LeafElement) × Entry bucket e × (e.key ≡ key)) ⊎ ((e : LeafElement) → Entry bucket e → e.key ≡ key → ⊥)
  entry_or_none bucket all key =
      let (entries, are) = all [] bucket refl in
      elim (key_or_none entries key) [ inl (e, h, is) ↦ inl (e, (are.exact e).0 h, is) | inr none ↦ inr (λ e h is. none e ((are.exact e).1 h) is) ]

  same_entry : (bucket : Start) → HasEntries Entry bucket → (a b : LeafElement) (key : Key) → Entry bucket a → Entry bucket b → a.key ≡ key
      → b.key ≡ key → a ≡ b
  same_entry bucket all a b key h g is same = let (entries, are) = all [] bucket refl in entry_once Entry bucket entries are a b h g (is ∙ sym same)

  -- ---- buckets

  pub named_once : (from : Start) (path : Path) (a b : Start) → HasEntries Entry from → Names Entry from path a → Names Entry from path b → a ≡ b
  named_once from [] a b all p q = sym p ∙ q
  named_once from (key ∷ path) a b all (e, is, k, bk, p) (f, fis, fk, fb, q) =
      let same = same_entry from all f e key fis is fk k in
      named_once (start_of e.value) path a b (entries_below Entry from e all is bk) p
      (subst (λ (g : LeafElement). Names Entry (start_of g.value) path b) same q)

  no_further : (from : Start) (key : Key) (path : Path) (e : LeafElement) → HasEntries Entry from → Entry from e → e.key ≡ key
      → (IsTrue e.is_bucket → (bucket : Start) → Names Entry (start_of e.value) path bucket → ⊥) → (bucket : Start) → Names Entry from (key ∷ path) bucket → ⊥
  no_further from key path e all is k none bucket (f, fis, fk, fb, q) =
      let same = same_entry from all f e key fis is fk k in
      none (subst (λ (g : LeafElement). IsTrue g.is_bucket) same fb) bucket (subst (λ (g : LeafElement). Names Entry (start_of g.value) path bucket) same q)

  -- the bucket that a path leads to, or it leads to none
  pub named_or_none : (from : Start) (path : Path) → HasEntries Entry from
      → ((bucket : Start) × Names Entry from path bucket) ⊎ ((bucket : Start) → Names Entry from path bucket → ⊥)
  named_or_none from [] all = inl (from, refl)
  named_or_none from (key ∷ path) all = elim (entry_or_none from all key) [
    | inr none ↦ inr (λ bucket (f, fis, fk, fb, q). none f fis fk)
    | inl (e, is, k) ↦ elim (cases_Bool e.is_bucket) [
      | inr is_value ↦ inr (no_further from key path e all is k (λ b bucket q. no_bucket e is_value b))
      | inl is_bucket ↦ elim (named_or_none (start_of e.value) path (entries_below Entry from e all is is_bucket)) [
        | inl (bucket, names) ↦ inl (bucket, (e, is, k, is_bucket, names))
        | inr none ↦ inr (no_further from key path e all is k (λ b. none))
      ]
    ]
  ]

  -- where no entry with a key is a bucket, no path goes on with it
  pub names_no_further : (from : Start) (path : Path) (bucket : Start) (key : Key) (rest : Path) → HasEntries Entry from
      → Names Entry from path bucket
      → ((e : LeafElement) → Entry bucket e → e.key ≡ key → e.is_bucket ≡ false) → (there : Start) → Names Entry from (path ++ key ∷ rest) there → ⊥
  names_no_further from [] bucket key rest all same none there (e, is, k, b, q) = no_bucket e (none e (subst (λ (s : Start). Entry s e) same is) k) b
  names_no_further from (x ∷ path) bucket key rest all (e, is, k, b, names) none there (f, fis, fk, fb, q) =
      let same = same_entry from all f e x fis is fk k in
      names_no_further (start_of e.value) path bucket key rest (entries_below Entry from e all is b) names none there
      (subst (λ (g : LeafElement). Names Entry (start_of g.value) (path ++ key ∷ rest) there) same q)

  -- ---- items

  pub held_once : (from : Start) (path : Path) (a b : Item) → HasEntries Entry from → Holds Entry from path a → Holds Entry from path b → a ≡ b
  held_once from [] a b all p q = absurd p
  held_once from (key ∷ []) a b all (e, is, k, p) (f, fis, fk, q) = sym p ∙ ap item_of (same_entry from all e f key is fis k fk) ∙ q
  held_once from (key ∷ next ∷ path) a b all (e, is, k, bk, p) (f, fis, fk, fb, q) =
      let same = same_entry from all f e key fis is fk k in
      held_once (start_of e.value) (next ∷ path) a b (entries_below Entry from e all is bk) p
      (subst (λ (g : LeafElement). Holds Entry (start_of g.value) (next ∷ path) b) same q)

  held_no_further : (from : Start) (key next : Key) (path : Path) (e : LeafElement) → HasEntries Entry from → Entry from e → e.key ≡ key
      → (IsTrue e.is_bucket → (item : Item) → Holds Entry (start_of e.value) (next ∷ path) item → ⊥) → (item : Item)
      → Holds Entry from (key ∷ next ∷ path) item → ⊥
  held_no_further from key next path e all is k none item (f, fis, fk, fb, q) =
      let same = same_entry from all f e key fis is fk k in
      none (subst (λ (g : LeafElement). IsTrue g.is_bucket) same fb) item
      (subst (λ (g : LeafElement). Holds Entry (start_of g.value) (next ∷ path) item) same q)

  -- the item that a path holds, or it holds none
  pub held_or_none : (from : Start) (path : Path) → HasEntries Entry from
      → ((item : Item) × Holds Entry from path item) ⊎ ((item : Item) → Holds Entry from path item → ⊥)
  held_or_none from [] all = inr (λ item h. h)
  held_or_none from (key ∷ []) all = elim (entry_or_none from all key) [
    | inl (e, is, k) ↦ inl (item_of e, (e, is, k, refl))
    | inr none ↦ inr (λ item (f, fis, fk, q). none f fis fk)
  ]
  held_or_none from (key ∷ next ∷ path) all = elim (entry_or_none from all key) [
    | inr none ↦ inr (λ item (f, fis, fk, fb, q). none f fis fk)
    | inl (e, is, k) ↦ elim (cases_Bool e.is_bucket) [
      | inr is_value ↦ inr (held_no_further from key next path e all is k (λ b item q. no_bucket e is_value b))
      | inl is_bucket ↦ elim (held_or_none (start_of e.value) (next ∷ path) (entries_below Entry from e all is is_bucket)) [
        | inl (item, h) ↦ inl (item, (e, is, k, is_bucket, h))
        | inr none ↦ inr (held_no_further from key next path e all is k (λ b. none))
      ]
    ]
  ]

-- what is only known to be is one of these all the same
pub start_known : (a b : Start) → ∥ a ≡ b ∥₁ → a ≡ b
start_known a b known = ∥∥₁_elim known (hlevel props) (λ same. same)

pub item_known : (a b : Item) → ∥ a ≡ b ∥₁ → a ≡ b
item_known a b known = ∥∥₁_elim known (hlevel props) (λ same. same)

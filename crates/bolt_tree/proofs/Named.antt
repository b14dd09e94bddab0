-- What a bucket that a path names holds, and what the path holds below it.
-- Entries of one key are one, so both say the same.
use Rattle.std.proofs.Common.{arith, ◌≡◌, ◌∙◌, ◌⊎◌, inl, inr, IsTrue, List, [], ◌∷◌, ◌++◌, refl, sym, ap, subst, append_assoc}
use Rattle.bolt_lemmas.proofs.Exports.{contains_cases, contains_none}
use Rattle.bolt_tree.proofs.Words.{AreEntries, Contains, Equal, HasEntries, Holds, IsBelow, Item, Key, LeafElement, Less, Names, Path, Rises, Start}
use Rattle.bolt_tree.proofs.Words.{entry_cmp, item_of, key_cmp, start_of}
use Rattle.bolt_tree.proofs.PathOrder.{key_same}

no_less : (a b : Key) → key_cmp a b ≡ Less → a ≡ b → ⊥
no_less a b e same = let f : key_cmp a b ≡ Equal = rw same (key_same b) in cc

-- entries of one key are one
pair_once : (a b : LeafElement) (x : LeafElement) (xs : List LeafElement) → IsBelow entry_cmp x xs → (x ≡ a) ⊎ Contains xs a → (x ≡ b) ⊎ Contains xs b
    → a.key ≡ b.key
    → (Contains xs a → Contains xs b → a ≡ b) → a ≡ b
pair_once a b x xs below (inl e) (inl f) k more = sym e ∙ f
pair_once a b x xs below (inl e) (inr g) k more = absurd (no_less x.key b.key (below b g) (ap (λ (y : LeafElement). y.key) e ∙ k))
pair_once a b x xs below (inr h) (inl f) k more = absurd (no_less x.key a.key (below a h) (ap (λ (y : LeafElement). y.key) f ∙ sym k))
pair_once a b x xs below (inr h) (inr g) k more = more h g

key_once : (a b : LeafElement) (xs : List LeafElement) → Rises entry_cmp xs → Contains xs a → Contains xs b → a.key ≡ b.key → a ≡ b
key_once a b [] r h g k = absurd (contains_none a h)
key_once a b (x ∷ xs) r h g k = pair_once a b x xs r.0 (contains_cases x a xs h) (contains_cases x b xs g) k (λ h2 g2. key_once a b xs r.1 h2 g2 k)

module _ (Entry : Start → LeafElement → Type 0) where
  pub entry_once : (bucket : Start) (entries : List LeafElement) → AreEntries Entry bucket entries → (a b : LeafElement) → Entry bucket a
      → Entry bucket b → a.key ≡ b.key → a ≡ b
  entry_once bucket entries are a b h g k = key_once a b entries are.rises ((are.exact a).1 h) ((are.exact b).1 g) k

  -- the buckets below an entry have their entries too
  pub entries_below : (from : Start) (e : LeafElement) → HasEntries Entry from → Entry from e → IsTrue e.is_bucket
      → HasEntries Entry (start_of e.value)
  entries_below from e all is b = λ path bucket names. all (e.key ∷ path) bucket (e, is, refl, b, names)

  pub names_push : (from : Start) (path : Path) (bucket : Start) (e : LeafElement) → Names Entry from path bucket → Entry bucket e
      → IsTrue e.is_bucket
      → Names Entry from (path ++ e.key ∷ []) (start_of e.value)
  names_push from [] bucket e same is b = (e, subst (λ (s : Start). Entry s e) (sym same) is, refl, b, refl)
  names_push from (key ∷ path) bucket e (f, fis, fkey, fb, names) is b = (f, fis, fkey, fb, names_push (start_of f.value) path bucket e names is b)

  -- what is held through an entry
  pub first_of_held : (from : Start) (k : Key) (r : Path) (item : Item) → Holds Entry from (k ∷ r) item
      → (e : LeafElement) × Entry from e × (e.key ≡ k)
  first_of_held from k r item h = grind arith

  step_up : (from : Start) (e : LeafElement) (k x : Key) (r : Path) (item : Item) → Entry from e → e.key ≡ k → IsTrue e.is_bucket
      → (p : Path) → Holds Entry (start_of e.value) (p ++ x ∷ r) item → Holds Entry from (k ∷ (p ++ x ∷ r)) item
  step_up from e k x r item is key b p h = grind arith

  pub held_up : (from : Start) (path : Path) (bucket : Start) (x : Key) (r : Path) (item : Item) → Names Entry from path bucket
      → Holds Entry bucket (x ∷ r) item
      → Holds Entry from (path ++ x ∷ r) item
  held_up from [] bucket x r item same h = subst (λ (s : Start). Holds Entry s (x ∷ r) item) (sym same) h
  held_up from (k ∷ path) bucket x r item (e, is, key, b, names) h =
      step_up from e k x r item is key b path (held_up (start_of e.value) path bucket x r item names h)

  step_down : (from : Start) (entries : List LeafElement) (e : LeafElement) (k x : Key) (r : Path) (item : Item) → AreEntries Entry from entries
      → Entry from e → e.key ≡ k
      → (p : Path) → Holds Entry from (k ∷ (p ++ x ∷ r)) item → IsTrue e.is_bucket × Holds Entry (start_of e.value) (p ++ x ∷ r) item
  step_down from entries e k x r item are is key [] (f, fis, fkey, b, more) =
      let same = entry_once from entries are f e fis is (fkey ∙ sym key) in
      subst (λ (g : LeafElement). IsTrue g.is_bucket × Holds Entry (start_of g.value) (x ∷ r) item) same (b, more)
  step_down from entries e k x r item are is key (y ∷ p) (f, fis, fkey, b, more) =
      let same = entry_once from entries are f e fis is (fkey ∙ sym key) in
      subst (λ (g : LeafElement). IsTrue g.is_bucket × Holds Entry (start_of g.value) (y ∷ (p ++ x ∷ r)) item) same (b, more)

  pub held_down : (from : Start) (path : Path) (bucket : Start) (x : Key) (r : Path) (item : Item) → HasEntries Entry from
      → Names Entry from path bucket
      → Holds Entry from (path ++ x ∷ r) item → Holds Entry bucket (x ∷ r) item
  held_down from [] bucket x r item all same h = subst (λ (s : Start). Holds Entry s (x ∷ r) item) same h
  held_down from (k ∷ path) bucket x r item all (e, is, key, b, names) h =
      let own = all [] from refl in
      held_down (start_of e.value) path bucket x r item (entries_below from e all is b) names
      (step_down from own.0 e k x r item own.1 is key path h).1

  -- an entry of a bucket that a path names is held by the path and its key
  pub held_here : (from : Start) (path : Path) (bucket : Start) (e : LeafElement) → Names Entry from path bucket → Entry bucket e
      → Holds Entry from (path ++ e.key ∷ []) (item_of e)
  held_here from path bucket e names is = held_up from path bucket e.key [] (item_of e) names (e, is, refl, refl)

  -- and what is held through that key, further down, is held below that very entry, which is then a bucket
  pub held_below : (from : Start) (path : Path) (bucket : Start) (e : LeafElement) (x : Key) (r : Path) (item : Item) → HasEntries Entry from
      → Names Entry from path bucket
      → Entry bucket e → Holds Entry from ((path ++ e.key ∷ []) ++ x ∷ r) item → IsTrue e.is_bucket × Holds Entry (start_of e.value) (x ∷ r) item
  held_below from path bucket e x r item all names is h =
      let own = all path bucket names in
      let front : (path ++ e.key ∷ []) ++ x ∷ r ≡ path ++ (e.key ∷ x ∷ r) = append_assoc path (e.key ∷ []) (x ∷ r) in
      let there = held_down from path bucket e.key (x ∷ r) item all names (subst (λ (q : Path). Holds Entry from q item) front h) in
      step_down bucket own.0 e e.key x r item own.1 is refl [] there

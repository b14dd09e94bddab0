-- What a tree lists is the listing of what it shows: each path that is held, with its item, once, in path order.
use Rattle.std.proofs.Common.{arith, ◌≡◌, ◌∙◌, ◌⊎◌, inl, inr, true, false, IsTrue, List, [], ◌∷◌, ◌++◌, refl, sym, ap, subst, append_assoc}
use Rattle.bolt_lemmas.proofs.Exports.{contains_cases, contains_head, contains_none, contains_tail, joined_rises}
use Rattle.bolt_tree.proofs.Words.{AreEntries, Contains, Contains-append_cases, Contains-append_left, Contains-append_right, Holds, IsBelow, IsTreeOf}
use Rattle.bolt_tree.proofs.Words.{Item, Key, LeafElement, Less, Lists, Member, Path, Rises, Shows, Start, Tree, Value, entry_cmp}
use Rattle.bolt_tree.proofs.Words.{head_sequence, item_of, key_cmp, listing_below, listing_of, member_cmp, path_cmp, start_of, with_bucket}
use Rattle.bolt_tree.proofs.Words.{with_value}
use Rattle.bolt_tree.proofs.PathOrder.{before_longer}
use Rattle.bolt_tree.proofs.{PathOrder.same_front}
use Rattle.bolt_tree.specs.Entries.{Bucket}

plain : (e : LeafElement) → e.is_bucket ≡ false → item_of e ≡ Value e.value
plain e h = rw h refl

bucketed : (e : LeafElement) → e.is_bucket ≡ true → item_of e ≡ Bucket (head_sequence e.value)
bucketed e h = rw h refl

module _ (Entry : Start → LeafElement → Type 0) where
  -- a path holds an item by one of these entries
  abbrev pub HoldsBy : List LeafElement → Path → Item → Type 0
  HoldsBy entries [] item = ⊥
  HoldsBy entries (key ∷ []) item = (e : LeafElement) × Contains entries e × (e.key ≡ key) × (item_of e ≡ item)
  HoldsBy entries (key ∷ next ∷ path) item =
      (e : LeafElement) × Contains entries e × (e.key ≡ key) × IsTrue e.is_bucket × Holds Entry (start_of e.value) (next ∷ path) item

  held_by : (bucket : Start) (entries : List LeafElement) → AreEntries Entry bucket entries → (path : Path) (item : Item)
      → Holds Entry bucket path item → HoldsBy entries path item
  held_by bucket entries are path item h = grind arith

  held_of : (bucket : Start) (entries : List LeafElement) → AreEntries Entry bucket entries → (path : Path) (item : Item) → HoldsBy entries path item
      → Holds Entry bucket path item
  held_of bucket entries are path item h = grind arith

  more_entries : (x : LeafElement) (entries : List LeafElement) (path : Path) (item : Item) → HoldsBy entries path item
      → HoldsBy (x ∷ entries) path item
  more_entries x entries path item h = grind (arith, contains_tail)

  -- an entry's own item, or what its bucket holds, or that of a later entry
  data Way (x : LeafElement) (entries : List LeafElement) (path : Path) (item : Item) : Type 0 where
    own : path ≡ x.key ∷ [] → item_of x ≡ item → Way x entries path item
    inner : (rest : Path) → path ≡ x.key ∷ rest → IsTrue x.is_bucket → Holds Entry (start_of x.value) rest item → Way x entries path item
    later : HoldsBy entries path item → Way x entries path item

  way_own : (x e : LeafElement) (entries : List LeafElement) (key : Key) (item : Item) → (x ≡ e) ⊎ Contains entries e → e.key ≡ key → item_of e ≡ item
      → Way x entries (key ∷ []) item
  way_own x e entries key item h same of = grind arith

  way_inner : (x e : LeafElement) (entries : List LeafElement) (key next : Key) (path : Path) (item : Item) → (x ≡ e) ⊎ Contains entries e
      → e.key ≡ key → IsTrue e.is_bucket
      → Holds Entry (start_of e.value) (next ∷ path) item → Way x entries (key ∷ next ∷ path) item
  way_inner x e entries key next path item (inl s) same b more =
      inner (next ∷ path) (ap (λ (k : Key). k ∷ next ∷ path) (sym (ap (λ (y : LeafElement). y.key) s ∙ same)))
      (subst (λ (y : LeafElement). IsTrue y.is_bucket) (sym s) b) (subst (λ (y : LeafElement). Holds Entry (start_of y.value) (next ∷ path) item) (sym s) more)
  way_inner x e entries key next path item (inr h) same b more = later (e, h, same, b, more)

  way : (x : LeafElement) (entries : List LeafElement) (path : Path) (item : Item) → HoldsBy (x ∷ entries) path item → Way x entries path item
  way x entries [] item h = absurd h
  way x entries (key ∷ []) item (e, is, same, of) = way_own x e entries key item (contains_cases x e entries is) same of
  way x entries (key ∷ next ∷ path) item (e, is, same, b, more) = way_inner x e entries key next path item (contains_cases x e entries is) same b more

  -- through the bucket of an entry
  into : (x : LeafElement) (entries : List LeafElement) (path : Path) (item : Item) → IsTrue x.is_bucket → Holds Entry (start_of x.value) path item
      → HoldsBy (x ∷ entries) (x.key ∷ path) item
  into x entries path item b h = grind arith

  -- what a tree lists below a path is what its entries hold
  pub listed : (tree : Tree) (entries : List LeafElement) → Shows Entry tree entries → (front : Path) (member : Member)
      → Contains (listing_below front tree) member
      → (path : Path) × (member.0 ≡ front ++ path) × HoldsBy entries path member.1
  listed (with_value key value after) (e ∷ entries) (b, k, v, more) front member h =
      elim (contains_cases (front ++ key ∷ [], Value value) member (listing_below front after) h) [
        | inl same ↦ (
          key ∷ [],
          sym (ap (λ (m : Member). m.0) same),
          (e, contains_head e entries, k, plain e b ∙ (ap Value v ∙ ap (λ (m : Member). m.1) same)),
        )
        | inr further ↦ let (path, at, held) = listed after entries more front member further in (path, at, more_entries e entries path member.1 held)
      ]
  listed (with_bucket key sequence inside after) (e ∷ entries) (b, k, q, (own_entries, are, shows), more) front member h =
      elim (contains_cases (front ++ key ∷ [], Bucket sequence) member (listing_below (front ++ key ∷ []) inside ++ listing_below front after) h) [
        | inl same ↦ (
          key ∷ [],
          sym (ap (λ (m : Member). m.0) same),
          (e, contains_head e entries, k, bucketed e b ∙ (ap Bucket q ∙ ap (λ (m : Member). m.1) same)),
        )
        | inr further ↦ elim (Contains-append_cases (listing_below (front ++ key ∷ []) inside) (listing_below front after) member further) [
          | inl within ↦
              let (path, at, held) = listed inside own_entries shows (front ++ key ∷ []) member within in
              let deep = into e entries path member.1 b (held_of (start_of e.value) own_entries are path member.1 held) in
              (key ∷ path, at ∙ append_assoc front (key ∷ []) path, subst (λ (j : Key). HoldsBy (e ∷ entries) (j ∷ path) member.1) k deep)
          | inr behind ↦ let (path, at, held) = listed after entries more front member behind in (path, at, more_entries e entries path member.1 held)
        ]
      ]
  listed tree entries s front member h = grind (arith, contains_none)

  at_member : (members : List Member) (a b : Path) (i j : Item) → a ≡ b → i ≡ j → Contains members (a, i) → Contains members (b, j)
  at_member members a b i j p q h = subst (λ (i : Item). Contains members (b, i)) q (subst (λ (p : Path). Contains members (p, i)) p h)

  -- and the other way round
  pub lists_all : (tree : Tree) (entries : List LeafElement) → Shows Entry tree entries → (front path : Path) (item : Item)
      → HoldsBy entries path item
      → Contains (listing_below front tree) (front ++ path, item)
  lists_all (with_value key value after) (e ∷ entries) (b, k, v, more) front path item h =
      let all : List Member = (front ++ key ∷ [], Value value) ∷ listing_below front after in
      elim (way e entries path item h) [
        | own at of ↦
            let same : front ++ key ∷ [] ≡ front ++ path = ap (λ (p : Path). front ++ p) (ap (λ (j : Key). j ∷ []) (sym k) ∙ sym at) in
            at_member all (front ++ key ∷ []) (front ++ path) (Value value) item same (ap Value (sym v) ∙ (sym (plain e b) ∙ of))
            (contains_head (front ++ key ∷ [], Value value) (listing_below front after))
        | inner rest at bucket held ↦ absurd (let t : e.is_bucket ≡ true = bucket in cc)
        | later held ↦
            contains_tail (front ++ key ∷ [], Value value) (front ++ path, item) (listing_below front after) (lists_all after entries more front path item held)
      ]
  lists_all (with_bucket key sequence inside after) (e ∷ entries) (b, k, q, (own_entries, are, shows), more) front path item h =
      let deep : List Member = listing_below (front ++ key ∷ []) inside in
      let behind : List Member = listing_below front after in
      let all : List Member = (front ++ key ∷ [], Bucket sequence) ∷ (deep ++ behind) in
      elim (way e entries path item h) [
        | own at of ↦
            let same : front ++ key ∷ [] ≡ front ++ path = ap (λ (p : Path). front ++ p) (ap (λ (j : Key). j ∷ []) (sym k) ∙ sym at) in
            at_member all (front ++ key ∷ []) (front ++ path) (Bucket sequence) item same (ap Bucket (sym q) ∙ (sym (bucketed e b) ∙ of))
            (contains_head (front ++ key ∷ [], Bucket sequence) (deep ++ behind))
        | inner rest at bucket held ↦
            let there = lists_all inside own_entries shows (front ++ key ∷ []) rest item (held_by (start_of e.value) own_entries are rest item held) in
            let same : (front ++ key ∷ []) ++ rest ≡ front ++ path =
            append_assoc front (key ∷ []) rest ∙ ap (λ (p : Path). front ++ p) (ap (λ (j : Key). j ∷ rest) (sym k) ∙ sym at) in
            contains_tail (front ++ key ∷ [], Bucket sequence) (front ++ path, item) (deep ++ behind)
            (Contains-append_left deep behind (front ++ path, item) (at_member deep ((front ++ key ∷ []) ++ rest) (front ++ path) item item same refl there))
        | later held ↦
            contains_tail (front ++ key ∷ [], Bucket sequence) (front ++ path, item) (deep ++ behind)
            (Contains-append_right deep behind (front ++ path, item) (lists_all after entries more front path item held))
      ]
  lists_all tree entries s front path item h = grind (arith, contains_none)

  -- each member begins with the key of an entry
  first_key : (entries : List LeafElement) (path : Path) (item : Item) → HoldsBy entries path item
      → (e : LeafElement) × (rest : Path) × Contains entries e × (path ≡ e.key ∷ rest)
  first_key entries path item h = grind arith

  behind_key : (front s t : Path) (j k : Key) → key_cmp j k ≡ Less → path_cmp (front ++ j ∷ s) (front ++ k ∷ t) ≡ Less
  behind_key front s t j k e = rw same_front (rw e refl)

  -- what stands below an entry comes before what the later entries hold
  before_after : (x : LeafElement) (entries : List LeafElement) (after : Tree) → Shows Entry after entries → IsBelow entry_cmp x entries
      → (front s : Path) (member : Member)
      → Contains (listing_below front after) member → path_cmp (front ++ x.key ∷ s) member.0 ≡ Less
  before_after x entries after shows below front s member h =
      let (path, at, held) = listed after entries shows front member h in
      grind (arith, behind_key)

  pub listing_rises : (tree : Tree) (entries : List LeafElement) → Shows Entry tree entries → Rises entry_cmp entries → (front : Path)
      → Rises member_cmp (listing_below front tree)
  listing_rises (with_value key value after) (e ∷ entries) (b, k, v, more) r front = grind (arith, before_after, listing_rises after entries more r.1 front)
  listing_rises (with_bucket key sequence inside after) (e ∷ entries) (b, k, q, (own_entries, are, shows), more) r front =
      let deep : List Member = listing_below (front ++ key ∷ []) inside in
      let behind : List Member = listing_below front after in
      let to_behind : (s : Path) (m : Member) → Contains behind m → path_cmp (front ++ key ∷ s) m.0 ≡ Less = λ s m h.
      subst (λ (j : Key). path_cmp (front ++ j ∷ s) m.0 ≡ Less) k (before_after e entries after more r.0 front s m h) in
      let to_deep : (m : Member) → Contains deep m → path_cmp (front ++ key ∷ []) m.0 ≡ Less = λ m h.
      let (path, at, held) = listed inside own_entries shows (front ++ key ∷ []) m h in
      let (f, rest, is, first) = first_key own_entries path m.1 held in
      let whole : m.0 ≡ (front ++ key ∷ []) ++ f.key ∷ rest = at ∙ ap (λ (p : Path). (front ++ key ∷ []) ++ p) first in
      subst (λ (p : Path). path_cmp (front ++ key ∷ []) p ≡ Less) (sym whole) (before_longer (front ++ key ∷ []) f.key rest) in
      let deep_behind : (a c : Member) → Contains deep a → Contains behind c → path_cmp a.0 c.0 ≡ Less = λ a c h g.
      let (path, at, held) = listed inside own_entries shows (front ++ key ∷ []) a h in
      let whole : a.0 ≡ front ++ key ∷ path = at ∙ append_assoc front (key ∷ []) path in
      subst (λ (p : Path). path_cmp p c.0 ≡ Less) (sym whole) (to_behind path c g) in (
        λ m h. elim (Contains-append_cases deep behind m h) [ inl a ↦ to_deep m a | inr c ↦ to_behind [] m c ],
        joined_rises member_cmp deep behind (listing_rises inside own_entries shows are.rises (front ++ key ∷ []))
            (listing_rises after entries more r.1 front) deep_behind,
      )
  listing_rises tree entries s r front = grind arith

  -- the listing of a bucket's tree
  pub tree_lists : (bucket : Start) (tree : Tree) → IsTreeOf Entry bucket tree → Lists Entry bucket (listing_of tree)
  tree_lists bucket tree (entries, are, shows) = record {
    rises = listing_rises tree entries shows are.rises [];
    exact = λ path item. (
      λ h. let (own_path, at, held) = listed tree entries shows [] (path, item) h in
          held_of bucket entries are path item (subst (λ (p : Path). HoldsBy entries p item) (sym at) held),
      λ h. lists_all tree entries shows [] path item (held_by bucket entries are path item h),
    );
  }

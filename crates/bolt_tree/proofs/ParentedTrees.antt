-- A rising listing whose members have parents is what a tree lists: each member lies in the bucket that the one before it is or lies in, or
-- in one further out.
use Rattle.std.proofs.Common.{arith, ◌≡◌, ◌∙◌, ◌⊎◌, inl, inr, ℕ, List, [], ◌∷◌, ◌++◌, refl, sym, ap, subst, append_assoc}
use Rattle.bolt_lemmas.proofs.Exports.{asymmetric, contains_cases, contains_head, contains_tail, irreflexive}
use Rattle.bolt_tree.proofs.Words.{Contains, Item, Key, Less, Member, Path, Rises, Tree, Value, first_tree, later_trees, listing_below, listing_of}
use Rattle.bolt_tree.proofs.Words.{member_cmp, path_cmp, put_first, tree_of, trees_by_depth, with_bucket, with_value}
use Rattle.bolt_tree.proofs.{PathOrder.before_longer, PathOrder.beyond_less, PathOrder.beyond_or_longer, PathOrder.path_total}
use Rattle.bolt_tree.specs.{Entries.Bucket, Merges.HasBucket, Merges.HaveParents}

-- ---- what trees by depth list

-- the path without its last key
abbrev above : Path → Path
above [] = []
above (key ∷ []) = []
above (part ∷ key ∷ path) = part ∷ above (key ∷ path)

-- the buckets of a path: those in which a later member may lie
abbrev open_after : Path → Item → Path
open_after path (Value value) = above path
open_after path (Bucket sequence) = path

abbrev Begins : Path → Path → Type 0
Begins [] path = Unit {0}
Begins (k ∷ front) [] = ⊥
Begins (k ∷ front) (j ∷ path) = (k ≡ j) × Begins front path

-- what the trees list of the buckets on the open path, from the innermost out
abbrev spread : Path → Path → List Tree → List Member
spread base opened [] = []
spread base [] (tree ∷ trees) = listing_below base tree
spread base (key ∷ opened) (tree ∷ trees) = spread (base ++ key ∷ []) opened trees ++ listing_below base tree

spread_root : (base : Path) (trees : List Tree) → spread base [] trees ≡ listing_below base (first_tree trees)
spread_root base [] = refl
spread_root base (tree ∷ trees) = refl

spread_open : (base : Path) (key : Key) (opened : Path) (trees : List Tree)
    → spread base (key ∷ opened) trees ≡ spread (base ++ key ∷ []) opened (later_trees trees) ++ listing_below base (first_tree trees)
spread_open base key opened [] = refl
spread_open base key opened (tree ∷ trees) = refl

spread_one : (base opened : Path) (tree : Tree) → spread base opened (tree ∷ []) ≡ listing_below base tree
spread_one base [] tree = refl
spread_one base (key ∷ opened) tree = refl

deeper : (base : Path) (p : Key) (opened : Path) (part next : Key) (path : Path) (item : Item) (trees : List Tree) (o : Path) → part ≡ p
    → spread (base ++ p ∷ []) opened (put_first (next ∷ path) item (later_trees trees))
    ≡ ((base ++ p ∷ []) ++ next ∷ path, item) ∷ spread (base ++ p ∷ []) o (later_trees trees)
    → spread base (p ∷ opened) (first_tree trees ∷ put_first (next ∷ path) item (later_trees trees))
    ≡ (base ++ part ∷ next ∷ path, item) ∷ spread base (part ∷ o) trees
deeper base p opened part next path item trees o same deep = grind (arith, append_assoc, spread_open)

-- a member that is put to the front comes first
spread_first : (base opened path : Path) (item : Item) (trees : List Tree) → (key : Key) (rest : Path) → path ≡ key ∷ rest
    → Begins (above path) opened
    → spread base opened (put_first path item trees) ≡ (base ++ path, item) ∷ spread base (open_after path item) trees
spread_first base opened [] item trees key rest some begins = absurd (cc)
spread_first base opened (part ∷ []) (Value value) trees key rest some begins =
    spread_one base opened (with_value part value (first_tree trees))
    ∙ ap (λ (ms : List Member). (base ++ part ∷ [], Value value) ∷ ms) (sym (spread_root base trees))
spread_first base opened (part ∷ []) (Bucket sequence) trees key rest some begins = grind (arith, spread_one, with_bucket, spread_root, spread_open)
spread_first base [] (part ∷ next ∷ path) item trees key rest some begins = absurd begins
spread_first base (p ∷ opened) (part ∷ next ∷ path) (Value value) trees key rest some begins =
    deeper base p opened part next path (Value value) trees (above (next ∷ path)) begins.0
    (spread_first (base ++ p ∷ []) opened (next ∷ path) (Value value) (later_trees trees) next path refl begins.1)
spread_first base (p ∷ opened) (part ∷ next ∷ path) (Bucket sequence) trees key rest some begins =
    deeper base p opened part next path (Bucket sequence) trees (next ∷ path) begins.0
    (spread_first (base ++ p ∷ []) opened (next ∷ path) (Bucket sequence) (later_trees trees) next path refl begins.1)

-- ---- members that each lie in the bucket that the one before is or lies in, or further out

abbrev Chained : Path → List Member → Type 0
Chained opened [] = Unit {0}
Chained opened (m ∷ ms) = ((key : Key) × (rest : Path) × (m.0 ≡ key ∷ rest)) × Begins (above m.0) opened × Chained (open_after m.0 m.1) ms

spread_all : (opened : Path) (ms : List Member) → Chained opened ms → spread [] opened (trees_by_depth ms) ≡ ms
spread_all opened [] chained = refl
spread_all opened (m ∷ ms) ((key, rest, some), begins, more) =
    spread_first [] opened m.0 m.1 (trees_by_depth ms) key rest some begins ∙ ap (λ (xs : List Member). m ∷ xs) (spread_all (open_after m.0 m.1) ms more)

-- ---- their places say so, since they rise

above_push : (front : Path) (key : Key) → above (front ++ key ∷ []) ≡ front
above_push [] key = refl
above_push (part ∷ []) key = refl
above_push (part ∷ next ∷ path) key = ap (λ (p : Path). part ∷ p) (above_push (next ∷ path) key)

push_some : (front : Path) (key : Key) → (first : Key) × (rest : Path) × (front ++ key ∷ [] ≡ first ∷ rest)
push_some [] key = (key, [], refl)
push_some (part ∷ front) key = (part, front ++ key ∷ [], refl)

begins_itself : (p : Path) → Begins p p
begins_itself [] = tt
begins_itself (x ∷ p) = (refl, begins_itself p)

begins_open : (p : Path) (k : Key) (r : Path) (item : Item) → Begins p (open_after (p ++ k ∷ r) item)
begins_open [] k r item = tt
begins_open (x ∷ p) k r (Bucket sequence) = (refl, begins_open p k r (Bucket sequence))
begins_open (x ∷ []) k r (Value value) = (refl, tt)
begins_open (x ∷ y ∷ p) k r (Value value) = (refl, begins_open (y ∷ p) k r (Value value))

-- a bucket of the members from here on, or one at or before the last member
abbrev IsKnown : Member → List Member → Path → Type 0
IsKnown last ms front = HasBucket ms front ⊎ ((path_cmp front last.0 ≡ Less) ⊎ ((sequence : ℕ) × (last ≡ (front, Bucket sequence))))

module _ (last m : Member) (ms : List Member) (less : member_cmp last m ≡ Less) (front : Path) where
  next_known : IsKnown last (m ∷ ms) front → IsKnown m ms front
  next_known (inl (inl root)) = inl (inl root)
  next_known (inl (inr (sequence, has))) =
      elim (contains_cases m (front, Bucket sequence) ms has) [ inl same ↦ inr (inr (sequence, same)) | inr later ↦ inl (inr (sequence, later)) ]
  next_known (inr (inl earlier)) = inr (inl (path_total.trans front last.0 m.0 earlier less))
  next_known (inr (inr (sequence, is))) = inr (inl (subst (λ (l : Member). path_cmp l.0 m.0 ≡ Less) is less))

  module _ (rises : Rises member_cmp (m ∷ ms)) (key : Key) (path : m.0 ≡ front ++ key ∷ []) where
    before : path_cmp front m.0 ≡ Less
    before = subst (λ (p : Path). path_cmp front p ≡ Less) (sym path) (before_longer front key [])

    begins : IsKnown last (m ∷ ms) front → Begins front (open_after last.0 last.1)
    begins (inl (inl root)) = subst (λ (p : Path). Begins p (open_after last.0 last.1)) (sym root) tt
    begins (inl (inr (sequence, has))) = absurd (elim (contains_cases m (front, Bucket sequence) ms has) [
      | inl same ↦ irreflexive path_total front (subst (λ (x : Member). path_cmp front x.0 ≡ Less) same before)
      | inr later ↦ asymmetric path_total m.0 front (rises.0 (front, Bucket sequence) later) before
    ])
    begins (inr (inl earlier)) = elim (beyond_or_longer front last.0 earlier) [
      | inl beyond ↦
          absurd (asymmetric path_total last.0 m.0 less
          (subst (λ (p : Path). path_cmp p last.0 ≡ Less) (sym path) (beyond_less front (key ∷ []) last.0 beyond)))
      | inr (k, r, longer) ↦ subst (λ (p : Path). Begins front (open_after p last.1)) (sym longer) (begins_open front k r last.1)
    ]
    begins (inr (inr (sequence, is))) = subst (λ (l : Member). Begins front (open_after l.0 l.1)) (sym is) (begins_itself front)

    pub goes_on : IsKnown last (m ∷ ms) front → Begins (above m.0) (open_after last.0 last.1)
    goes_on known = subst (λ (p : Path). Begins p (open_after last.0 last.1)) (sym (ap above path ∙ above_push front key)) (begins known)

abbrev AreKnown : Member → List Member → Type 0
AreKnown last ms = (m : Member) → Contains ms m → (front : Path) × (key : Key) × (m.0 ≡ front ++ key ∷ []) × IsKnown last ms front

chained : (last : Member) (ms : List Member) → Rises member_cmp (last ∷ ms) → AreKnown last ms → Chained (open_after last.0 last.1) ms
chained last [] rises known = tt
chained last (m ∷ ms) rises known =
    let less = rises.0 m (contains_head m ms) in
    let (front, key, path, here) = known m (contains_head m ms) in
    let (first, rest, some) = push_some front key in (
      (first, rest, path ∙ some),
      goes_on last m ms less front rises.1 key path here,
      chained m ms rises.1 (λ n has. let (f, k, p, is) = known n (contains_tail m n ms has) in (f, k, p, next_known last m ms less f is)),
    )

pub parented_tree : (listing : List Member) → Rises member_cmp listing → HaveParents listing listing → listing_of (tree_of listing) ≡ listing
parented_tree listing rises places =
    let root : Member = ([], Bucket 0) in
    let first : (m : Member) → Contains listing m → member_cmp root m ≡ Less =
    λ m has. let (front, key, path, is) = places m has in
    let (k, r, some) = push_some front key in
    subst (λ (p : Path). path_cmp [] p ≡ Less) (sym (path ∙ some)) refl in
    sym (spread_root [] (trees_by_depth listing))
    ∙ spread_all [] listing (chained root listing (first, rises) (λ m has. let (front, key, path, is) = places m has in (front, key, path, inl is)))

-- A bucket is entered, in what is known of open buckets: only that it is so.
use Rattle.std.proofs.Common.{rules, ◌≡◌, ◌∙◌, IsTrue, false, List, [], ◌∷◌, ◌++◌, Option, Some, None, refl, sym, subst}
use Rattle.bolt_tree.proofs.Words.{AreEntries, AreOpen, Bucket, Checked, CursorView, HasEntries, HasStart, IsInside, LeafElement, Lists, Member}
use Rattle.bolt_tree.proofs.Words.{Moves, Names, Path, Start, beyond, bucket_checked, bucket_start, bytes_of, drop_all, entries_of, item_of, meta_of}
use Rattle.bolt_tree.proofs.Words.{props, rest_after, rest_from, root_start, start_of, ∥∥₁_elim, ∥∥₁_map, ∥∥₁_prop}
use Rattle.bolt_tree.proofs.{BucketWays.root_starts, BucketWays.starts_named, CursorMoves.ComesTo, CursorMoves.FirstMove, CursorMoves.by_first}
use Rattle.bolt_tree.proofs.{EntryOrder.contains_at}
use Rattle.bolt_tree.proofs.{Giving.give_first, Giving.give_itself, Giving.give_none, Giving.give_past_value, Named.names_push, OpenSteps.open_push}
use Rattle.bolt_tree.specs.Private.OpenBuckets.{StandsOn}

-- a fresh cursor of the bucket that the path names
pub record Fresh_at (checked : Checked) (cursors : List CursorView) (keys : Path) (fresh : CursorView) : Type 0 where
  pub all : HasEntries (entries_of checked) (root_start checked)
  pub are : AreOpen checked [] cursors keys
  pub file : fresh.checked ≡ checked
  pub names : Names (entries_of checked) (root_start checked) keys fresh.start

pub made : (checked : Checked) (cursors : List CursorView) (keys : Path) (bucket : Bucket) (fresh : CursorView)
    → ∥ HasEntries (entries_of checked) (root_start checked) × AreOpen checked [] cursors keys ∥₁
    → ∥ (bucket_checked bucket ≡ checked) × Names (entries_of checked) (root_start checked) keys (bucket_start bucket) ∥₁
    → fresh.checked ≡ bucket_checked bucket → fresh.start ≡ bucket_start bucket → ∥ Fresh_at checked cursors keys fresh ∥₁
made checked cursors keys bucket fresh buckets named file start =
    ∥∥₁_elim buckets ∥∥₁_prop (λ t. ∥∥₁_map named (λ n. record {
      all = t.0;
      are = t.1;
      file = file ∙ n.0;
      names = subst (λ (s : Start). Names (entries_of checked) (root_start checked) keys s) (sym start) n.1;
    }))

-- its first move
module _ (by : FirstMove) (checked : Checked) (cursors : List CursorView) (keys : Path) (fresh moved : CursorView) where
  abbrev pub MovesBy : Option LeafElement → Type 0
  MovesBy o = Moves (entries_of fresh.checked) fresh.start by.move fresh.place moved.place o

  pub comes_by : (o : Option LeafElement) → Fresh_at checked cursors keys fresh → MovesBy o → (entries : List LeafElement)
      → AreEntries (entries_of checked) fresh.start entries
      → ComesTo entries (by.to entries) moved.place o
  comes_by o k moves entries are = search rules

  stands : (e : LeafElement) → Fresh_at checked cursors keys fresh → moved.start ≡ fresh.start → MovesBy (Some e)
      → StandsOn (entries_of checked) moved e.key
  stands e k start moves entries are =
      let came = comes_by (Some e) k moves entries (subst (λ (s : Start). AreEntries (entries_of checked) s entries) start are) in
      (by.to entries, e, came.0, came.1, refl)

  pub opens_by : ∥ Fresh_at checked cursors keys fresh ∥₁ → (e : LeafElement) (after : List CursorView) (path : Path) → moved.checked ≡ fresh.checked
      → moved.start ≡ fresh.start → MovesBy (Some e)
      → after ≡ cursors ++ moved ∷ [] → path ≡ keys ++ e.key ∷ [] → ∥ HasEntries (entries_of checked) (root_start checked) × AreOpen checked [] after path ∥₁
  opens_by known e after path file start moves put at =
      ∥∥₁_map known (λ k. (
        k.all,
        subst (λ (cs : List CursorView). AreOpen checked [] cs path) (sym put) (subst (λ (ks : Path). AreOpen checked [] (cursors ++ moved ∷ []) ks) (sym at)
            (open_push checked [] cursors moved keys e.key k.are (file ∙ k.file)
            (subst (λ (s : Start). Names (entries_of checked) (root_start checked) keys s) (sym start) k.names)
            (stands e k start moves))),
      ))

  pub leads_by : ∥ Fresh_at checked cursors keys fresh ∥₁ → (e : LeafElement) (path : Path) → MovesBy (Some e) → path ≡ keys ++ e.key ∷ []
      → ∥ ((front : Path) × (bucket : Start) × (path ≡ front ++ e.key ∷ []) × Names (entries_of checked) (root_start checked) front bucket
      × entries_of checked bucket e) ∥₁
  leads_by known e path moves at =
      ∥∥₁_map known (λ k.
      let own = k.all keys fresh.start k.names in
      let came = comes_by (Some e) k moves own.0 own.1 in
      (keys, fresh.start, at, k.names, (own.1.exact e).0 (contains_at own.0 (by.to own.0) e came.1)))

module _ (checked : Checked) (cursors : List CursorView) (keys : Path) (fresh moved : CursorView) (known : ∥ Fresh_at checked cursors keys fresh ∥₁) where
  pub first_gives : (e : LeafElement) (path : Path) → MovesBy by_first checked cursors keys fresh moved (Some e) → path ≡ keys ++ e.key ∷ []
      → (listing : List Member) → Lists (entries_of checked) (root_start checked) listing
      → rest_after keys listing ≡ (path, item_of e) ∷ rest_after path listing
  first_gives e path moves at listing lists =
      ∥∥₁_elim known (hlevel props) (λ k.
      let own = k.all keys fresh.start k.names in
      let came = comes_by by_first checked cursors keys fresh moved (Some e) k moves own.0 own.1 in
      subst (λ (ks : Path). rest_after keys listing ≡ (ks, item_of e) ∷ rest_after ks listing) (sym at)
      (give_first (entries_of checked) (root_start checked) k.all listing lists keys fresh.start k.names own.0 e own.1 came.1))

  pub first_none : MovesBy by_first checked cursors keys fresh moved None → (listing : List Member)
      → Lists (entries_of checked) (root_start checked) listing → rest_after keys listing ≡ beyond keys listing
  first_none moves listing lists =
      ∥∥₁_elim known (hlevel props) (λ k.
      let own = k.all keys fresh.start k.names in
      let none = drop_all 0 own.0 (comes_by by_first checked cursors keys fresh moved None k moves own.0 own.1) in
      give_none (entries_of checked) (root_start checked) k.all listing lists keys fresh.start k.names
      (subst (λ (es : List LeafElement). AreEntries (entries_of checked) fresh.start es) none own.1))

-- the path leads to an element
module _ (checked : Checked) (cursors : List CursorView) (keys : Path) (e : LeafElement)
    (buckets : ∥ HasEntries (entries_of checked) (root_start checked) × AreOpen checked [] cursors keys ∥₁)
    (on : ∥ ((front : Path) × (bucket : Start) × (keys ≡ front ++ e.key ∷ []) × Names (entries_of checked) (root_start checked) front bucket × entries_of checked bucket e) ∥₁) where
  pub past_value : e.is_bucket ≡ false → (listing : List Member) → Lists (entries_of checked) (root_start checked) listing
      → beyond keys listing ≡ rest_after keys listing
  past_value value listing lists =
      ∥∥₁_elim buckets (hlevel props) (λ t. ∥∥₁_elim on (hlevel props) (λ (front, bucket, at, names, is).
      subst (λ (ks : Path). beyond ks listing ≡ rest_after ks listing) (sym at)
      (sym (give_past_value (entries_of checked) (root_start checked) t.0 listing lists front bucket names e is value))))

  pub itself : (listing : List Member) → Lists (entries_of checked) (root_start checked) listing
      → rest_from keys listing ≡ (keys, item_of e) ∷ rest_after keys listing
  itself listing lists =
      ∥∥₁_elim buckets (hlevel props) (λ t. ∥∥₁_elim on (hlevel props) (λ (front, bucket, at, names, is).
      subst (λ (ks : Path). rest_from ks listing ≡ (ks, item_of e) ∷ rest_after ks listing) (sym at)
      (give_itself (entries_of checked) (root_start checked) t.0 listing lists front bucket names e is)))

-- the same of the same file
pub placed_in : (a b : Checked) (cursors others : List CursorView) (keys path : Path) → b ≡ a → others ≡ cursors → path ≡ keys
    → ∥ HasEntries (entries_of a) (root_start a) × AreOpen a [] cursors keys ∥₁ → ∥ HasEntries (entries_of b) (root_start b) × AreOpen b [] others path ∥₁
placed_in a b cursors others keys path file same at buckets =
    ∥∥₁_map buckets (λ t. subst (λ (c : Checked). HasEntries (entries_of c) (root_start c) × AreOpen c [] others path) (sym file)
    (t.0, subst (λ (cs : List CursorView). AreOpen a [] cs path) (sym same) (subst (λ (ks : Path). AreOpen a [] cursors ks) (sym at) t.1)))

pub leads_in : (a b : Checked) (keys : Path) (e : LeafElement) → b ≡ a
    → ∥ ((front : Path) × (bucket : Start) × (keys ≡ front ++ e.key ∷ []) × Names (entries_of a) (root_start a) front bucket × entries_of a bucket e) ∥₁
    → ∥ ((front : Path) × (bucket : Start) × (keys ≡ front ++ e.key ∷ []) × Names (entries_of b) (root_start b) front bucket × entries_of b bucket e) ∥₁
leads_in a b keys e file on =
    subst (λ (c : Checked).
    ∥ ((front : Path) × (bucket : Start) × (keys ≡ front ++ e.key ∷ []) × Names (entries_of c) (root_start c) front bucket × entries_of c bucket e) ∥₁)
    (sym file) on

-- a bucket that the path leads to is one that it names
pub leads_inside : (checked : Checked) (keys : Path) (e : LeafElement)
    → ∥ ((front : Path) × (bucket : Start) × (keys ≡ front ++ e.key ∷ []) × Names (entries_of checked) (root_start checked) front bucket
    × entries_of checked bucket e) ∥₁
    → IsTrue e.is_bucket → IsInside checked keys (start_of e.value)
leads_inside checked keys e on b =
    ∥∥₁_map on (λ (front, outer, at, names, is).
    subst (λ (ks : Path). Names (entries_of checked) (root_start checked) ks (start_of e.value)) (sym at)
    (names_push (entries_of checked) (root_start checked) front outer e names is b))

-- the empty path names the root bucket
pub root_inside : (checked : Checked) (path : Path) → path ≡ [] → IsInside checked path (root_start checked)
root_inside checked path none = ∣ subst (λ (keys : Path). Names (entries_of checked) (root_start checked) keys (root_start checked)) (sym none) refl ∣₁

-- the bucket that a path names, as a bucket of the code
pub named_by : (checked : Checked) (keys : Path) (start : Start) (bucket : Bucket) → IsInside checked keys start → bucket_checked bucket ≡ checked
    → bucket_start bucket ≡ start
    → ∥ (bucket_checked bucket ≡ checked) × Names (entries_of checked) (root_start checked) keys (bucket_start bucket) ∥₁
named_by checked keys start bucket inside file begins =
    ∥∥₁_map inside (λ names. (file, subst (λ (s : Start). Names (entries_of checked) (root_start checked) keys s) (sym begins) names))

-- it is one of the tree
pub lies_in : (checked : Checked) (keys : Path) (start : Start) → IsInside checked keys start → HasStart checked start
lies_in checked keys start inside =
    ∥∥₁_map inside (λ names.
    starts_named (bytes_of checked) (meta_of checked) (root_start checked) keys start (root_starts (bytes_of checked) (meta_of checked)) names)

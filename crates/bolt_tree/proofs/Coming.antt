-- A part of a path is sought in a bucket, in what is known of open buckets: only that it is so.
use Rattle.std.proofs.Common.{arith, ◌≡◌, ◌∙◌, ◌⊎◌, IsTrue, Bool, inl, inr, true, false, List, [], ◌∷◌, ◌++◌, Option, Some, None, refl, sym, ap}
use Rattle.std.proofs.Common.{subst, append_assoc, Bor, ℕ}
use Rattle.bolt_tree.proofs.Words.{AreOpen, Bucket, Checked, Cursor, CursorView, Equal, Greater, HasEntries, IsInPlace, IsInside, IsNamed, Key, Leaf}
use Rattle.bolt_tree.proofs.Words.{LeafElement, Less, Lists, Member, Moves, Names, Opens, Ordering, Path, Start, ∥∥₁_elim, beyond, cursor_checked}
use Rattle.bolt_tree.proofs.Words.{cursor_place, cursor_start, cursor_view, cursors_of, entries_of, fresh_view, is_end, is_lt, key_cmp, leaf_view}
use Rattle.bolt_tree.proofs.Words.{least_from, less_of, open_path, ordering_reverse, path_of, props, rest_from, root_start, seek_move, start_of}
use Rattle.bolt_tree.proofs.Words.{waiting_of}
use Rattle.bolt_tree.proofs.{CursorMoves.by_key, OpenSteps.opens, OpenSteps.path_put}
use Rattle.bolt_tree.proofs.Entering.{Fresh_at, MovesBy, comes_by, leads_by, leads_in, leads_inside, made, opens_by, placed_in}
use Rattle.bolt_tree.proofs.{EntryOrder.contains_at, EntryOrder.seek_from, PathOrder.key_exact, PathOrder.key_total, Seeking.rest_greater}
use Rattle.bolt_tree.proofs.{Seeking.rest_none, Seeking.rest_past_value}
use Rattle.bolt_tree.specs.declared.open_buckets.OpenBuckets.{OpenBuckets}

pub neither : (a b : Key) (o : Ordering) → key_cmp a b ≡ o → is_lt (key_cmp a b) ≡ false → is_lt (key_cmp b a) ≡ false → a ≡ b
neither a b Less e h k = absurd (let f = ap is_lt e in cc)
neither a b Equal e h k = key_exact a b e
neither a b Greater e h k = absurd (let f : key_cmp b a ≡ Less = key_total.antisymm b a ∙ ap ordering_reverse e in let g = ap is_lt f in cc)

module _ (checked : Checked) (cursors : List CursorView) (keys : Path) (fresh moved : CursorView) (part : Key)
    (known : ∥ Fresh_at checked cursors keys fresh ∥₁) where
  abbrev MovesFrom : Option LeafElement → Type 0
  MovesFrom o = MovesBy (by_key part) checked cursors keys fresh moved o

  -- it is the part itself, or behind it
  pub from_same : (e : LeafElement) → MovesFrom (Some e) → is_lt (key_cmp part e.key) ≡ false → part ≡ e.key
  from_same e moves not_less =
      ∥∥₁_elim known (hlevel props) (λ k.
      let own = k.all keys fresh.start k.names in
      let came = comes_by (by_key part) checked cursors keys fresh moved (Some e) k moves own.0 own.1 in
      neither part e.key (key_cmp part e.key) refl not_less (seek_from part own.0 e came.1))

  pub from_greater : (e : LeafElement) (rest path : Path) → MovesFrom (Some e) → is_lt (key_cmp part e.key) ≡ true → path ≡ keys ++ e.key ∷ []
      → (listing : List Member) → Lists (entries_of checked) (root_start checked) listing → rest_from path listing ≡ rest_from (keys ++ part ∷ rest) listing
  from_greater e rest path moves less at listing lists =
      ∥∥₁_elim known (hlevel props) (λ k.
      let own = k.all keys fresh.start k.names in
      let came = comes_by (by_key part) checked cursors keys fresh moved (Some e) k moves own.0 own.1 in
      subst (λ (ks : Path). rest_from ks listing ≡ rest_from (keys ++ part ∷ rest) listing) (sym at)
      (sym (rest_greater (entries_of checked) (root_start checked) k.all listing lists keys fresh.start k.names own.0 e part rest own.1 came.1
      (less_of _ less))))

  pub from_none : (rest : Path) → MovesFrom None → (listing : List Member) → Lists (entries_of checked) (root_start checked) listing
      → beyond keys listing ≡ rest_from (keys ++ part ∷ rest) listing
  from_none rest moves listing lists =
      ∥∥₁_elim known (hlevel props) (λ k.
      let own = k.all keys fresh.start k.names in
      let long = comes_by (by_key part) checked cursors keys fresh moved None k moves own.0 own.1 in
      sym (rest_none (entries_of checked) (root_start checked) k.all listing lists keys fresh.start k.names own.0 part rest own.1 long))

  -- the path goes on below a value
  pub from_value : (e : LeafElement) (rest path : Path) → MovesFrom (Some e) → part ≡ e.key → e.is_bucket ≡ false → is_end rest ≡ false
      → path ≡ keys ++ e.key ∷ []
      → (listing : List Member) → Lists (entries_of checked) (root_start checked) listing → beyond path listing ≡ rest_from (keys ++ part ∷ rest) listing
  from_value e [] path moves same value more at listing lists = absurd (let f : true ≡ false = more in cc)
  from_value e (k ∷ rest) path moves same value more at listing lists =
      ∥∥₁_elim known (hlevel props) (λ n.
      let own = n.all keys fresh.start n.names in
      let came = comes_by (by_key part) checked cursors keys fresh moved (Some e) n moves own.0 own.1 in
      let is : entries_of checked fresh.start e = (own.1.exact e).0 (contains_at own.0 (least_from part own.0) e came.1) in
      let whole : (keys ++ e.key ∷ []) ++ k ∷ rest ≡ keys ++ part ∷ k ∷ rest =
      append_assoc keys (e.key ∷ []) (k ∷ rest) ∙ ap (λ (q : Key). keys ++ q ∷ k ∷ rest) (sym same) in
      subst (λ (ks : Path). beyond ks listing ≡ rest_from (keys ++ part ∷ k ∷ rest) listing) (sym at)
      (sym (rest_past_value (entries_of checked) (root_start checked) n.all listing lists keys fresh.start n.names e k rest is value)
      ∙ ap (λ (ks : Path). rest_from ks listing) whole))

-- the path ends here
pub ends_here : (rest keys path : Path) (part key : Key) (listing : List Member) → is_end rest ≡ true → part ≡ key → path ≡ keys ++ key ∷ []
    → rest_from path listing ≡ rest_from (keys ++ part ∷ rest) listing
ends_here rest keys path part key listing e same at = grind arith

-- A part was searched for in the bucket that the path names. Its cursor is on this entry, whose key was put after the path.
module _ (old opened : OpenBuckets) (bucket : Bucket) (cursor moved : Cursor) (placed : IsInPlace old) (named : IsNamed old bucket)
    (same : opened.checked ≡ old.checked)
    (cursors : cursors_of opened ≡ cursors_of old ++ fresh_view bucket ∷ []) (is : opened.innermost ≡ Some cursor)
    (file : cursor_checked moved ≡ cursor_checked cursor)
    (start : cursor_start moved ≡ cursor_start cursor) (part : Key) (leaf : Leaf)
    (moves : Moves (entries_of (cursor_checked cursor)) (cursor_start cursor) (λ entries place. seek_move part entries) (cursor_place cursor)
    (cursor_place moved) (Some (leaf_view leaf)))
    (items : List (Bor (List ℕ))) (kept : opened.path.items ≡ old.path.items) (put : items ≡ opened.path.items ++ leaf.key ∷ []) where
  abbrev e : LeafElement
  e = leaf_view leaf

  abbrev path : Path
  path = path_of items

  pub at : path ≡ open_path old ++ e.key ∷ []
  at = path_put old.path.items opened.path.items items leaf.key kept put

  abbrev fresh : CursorView
  fresh = fresh_view bucket

  known_there : ∥ Fresh_at old.checked (cursors_of old) (open_path old) fresh ∥₁
  known_there = made old.checked (cursors_of old) (open_path old) bucket fresh placed named refl refl

  there : Opens bucket (λ entries place. seek_move part entries) (cursors_of old) (waiting_of opened ++ cursor_view moved ∷ []) (Some e)
  there =
      opens old opened bucket cursor moved cursors is file start (λ entries place. seek_move part entries) (Some e)
      (waiting_of opened ++ cursor_view moved ∷ []) moves refl

  pub placed_there : ∥ HasEntries (entries_of opened.checked)
      (root_start opened.checked) × AreOpen opened.checked [] (waiting_of opened ++ cursor_view moved ∷ []) path ∥₁
  placed_there =
      let after : List CursorView = waiting_of opened ++ cursor_view moved ∷ [] in
      placed_in old.checked opened.checked after after path path same refl refl
      (opens_by (by_key part) old.checked (cursors_of old) (open_path old) fresh there.moved known_there e after path there.file there.start there.moves
      there.is at)

  pub leads_there : ∥ ((front : Path) × (outer : Start) × (path ≡ front ++ e.key ∷ [])
      × Names (entries_of opened.checked) (root_start opened.checked) front outer × entries_of opened.checked outer e) ∥₁
  leads_there =
      leads_in old.checked opened.checked path e same
      (leads_by (by_key part) old.checked (cursors_of old) (open_path old) fresh there.moved known_there e path there.moves at)

  pub inside_there : IsTrue e.is_bucket → IsInside opened.checked path (start_of e.value)
  inside_there b = leads_inside opened.checked path e leads_there b

  pub same_there : is_lt (key_cmp part e.key) ≡ false → part ≡ e.key
  same_there = from_same old.checked (cursors_of old) (open_path old) fresh there.moved part known_there e there.moves

  -- what is left from there on: the key is above the part; or it is the last part; or it is a value, and the path goes on
  pub rest_there : (is_last : Bool) → ((is_lt (key_cmp part e.key) ≡ true) ⊎ ((is_lt (key_cmp part e.key) ≡ false) × (is_last ≡ true)))
      → (rest : Path) → is_end rest ≡ is_last
      → (listing : List Member) → Lists (entries_of old.checked) (root_start old.checked) listing
      → rest_from path listing ≡ rest_from (open_path old ++ part ∷ rest) listing
  rest_there is_last (inl above) rest end listing lists =
      from_greater old.checked (cursors_of old) (open_path old) fresh there.moved part known_there e rest path there.moves above at listing lists
  rest_there is_last (inr (not_above, last)) rest end listing lists =
      ends_here rest (open_path old) path part e.key listing (end ∙ last) (same_there not_above) at

  pub beyond_there : is_lt (key_cmp part e.key) ≡ false → e.is_bucket ≡ false → (rest : Path) → is_end rest ≡ false
      → (listing : List Member) → Lists (entries_of old.checked) (root_start old.checked) listing
      → beyond path listing ≡ rest_from (open_path old ++ part ∷ rest) listing
  beyond_there not_above value rest more listing lists =
      from_value old.checked (cursors_of old) (open_path old) fresh there.moved part known_there e rest path there.moves (same_there not_above) value more
      at listing lists

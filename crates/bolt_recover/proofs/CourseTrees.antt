-- What a course returns is what a tree lists: each site that is visited comes to a tree, in which a bucket holds what its own site comes to. The keys
-- of each bucket rise, within the bounds of its site.
use Rattle.std.proofs.Common.{◌≡◌, ◌∙◌, ◌≤◌, inl, inr, ℕ, zero, suc, Bool, true, false, List, [], ◌∷◌, ◌++◌, ◌⊎◌, Option, Some, None, slice_get, refl}
use Rattle.std.proofs.Common.{sym, ap, subst, arith, append_assoc}
use Rattle.bolt_recover.proofs.Words.{Visited, all_events, append-nil, below_less, Bucket, cases_Bool, cases_order, end, Event, Finding, from_more}
use Rattle.bolt_recover.proofs.Words.{get_before, Gives, gives_at, head_sequence, is_below, is_from, is_lt, Item, item_of, Key, key_lt, key_same}
use Rattle.bolt_recover.proofs.Words.{LeafElement, listing_below, listing_of, lower_of, lt_not_trans, lt_trans, Member, member_cmp, members_of, Meta}
use Rattle.bolt_recover.proofs.Words.{meta_pages, node_at, none-some, not-true, Path, Rises, root_tasks, same_Some, Site, Spot, step_site, Task}
use Rattle.bolt_recover.proofs.Words.{tasks_after, tasks_from, To_give, To_visit, Tree, upper_of, Value, visits_at, Way, with_bucket, with_value}
use Rattle.bolt_recover.proofs.Words.{further, Has}
use Rattle.bolt_recover.proofs.{Courses.Course, Courses.course, Courses.Course.done, Courses.Course.give, Courses.Course.visit, SiteKeys.IsChild}
use Rattle.bolt_recover.proofs.{SiteKeys.Keyed, SiteKeys.keyed, CourseSurveys.placed}
use Rattle.bolt_recover.proofs.{MembersInBuckets.well_at, SiteSteps.IsTidy, TreeOrder.HasKey, TreeOrder.IsFirst, TreeOrder.Ordered}
use Rattle.bolt_recover.proofs.{TreeOrder.ordered_rises}

-- one tree after another
abbrev both : Tree → Tree → Tree
both end after = after
both (with_value key value rest) after = with_value key value (both rest after)
both (with_bucket key sequence inside rest) after = with_bucket key sequence inside (both rest after)

both_list : (path : Path) (a b : Tree) → listing_below path (both a b) ≡ listing_below path a ++ listing_below path b
both_list path end b = refl
both_list path (with_value key value rest) b = let later = both_list path rest b in cc
both_list path (with_bucket key sequence inside rest) b = let later = both_list path rest in grind (arith, append_assoc, later)

both_has : (a b : Tree) (k : Key) → HasKey (both a b) k → HasKey a k ⊎ HasKey b k
both_has end b k h = inr h
both_has (with_value key value rest) b k h = let later = both_has rest in grind (arith, later)
both_has (with_bucket key sequence inside rest) b k h = let later = both_has rest in grind (arith, later)

both_first : (key : Key) (a b : Tree) → IsFirst key a → IsFirst key b → IsFirst key (both a b)
both_first key a b own later k h = grind (arith, both_has)

both_ordered : (a b : Tree) → Ordered a → Ordered b → ((j k : Key) → HasKey a j → HasKey b k → key_lt j k ≡ true) → Ordered (both a b)
both_ordered end b own later less = later
both_ordered (with_value key value rest) b own after less = let later = both_ordered rest in grind (arith, both_first, later)
both_ordered (with_bucket key sequence inside rest) b own after less = let later = both_ordered rest in grind (arith, both_first, later)

-- the keys of a tree lie within the bounds of a site
abbrev IsWithin : Spot → Tree → Type 0
IsWithin s tree = (k : Key) → HasKey tree k → (is_from (lower_of s) k ≡ true) × (is_below (upper_of s) k ≡ true)

-- each site to be visited comes to a tree
abbrev Pieces : List Task → List Member → Type 0
Pieces [] members = members ≡ []
Pieces (To_give path e ∷ tasks) members = (rest : List Member) × (members ≡ (path, item_of e) ∷ rest) × Pieces tasks rest
Pieces (To_visit w p ∷ tasks) members =
    (tree : Tree) × (rest : List Member) × (members ≡ listing_below p.path tree ++ rest) × Ordered tree × IsWithin p.spot tree × Pieces tasks rest

module _ (file : List ℕ) (meta : Meta) (w : Way) (p : Site) (keys : List Key) (known : Keyed file meta p keys) where
  -- a key of entry i of a site or of a later one
  abbrev IsOwn : ℕ → Key → Type 0
  IsOwn i k = (j : ℕ) × (own : Key) × (i ≤ j) × (slice_get keys j ≡ Some own) × (key_lt k own ≡ false) × (is_below (upper_of p.spot) k ≡ true)

  -- the tree that the entries of a site come to, from one on
  record HasTree (i : ℕ) (rest : List Task) (members : List Member) : Type 0 where
    tree : Tree
    later : List Member
    same : members ≡ listing_below p.path tree ++ later
    ordered : Ordered tree
    own : (k : Key) → HasKey tree k → IsOwn i k
    pieces : Pieces rest later

  own_next : (i : ℕ) (k : Key) → IsOwn (suc i) k → IsOwn i k
  own_next i k (j, own, le, at, over, below) = (j, own, omega (arith, le), at, over, below)

  no_entry : (i : ℕ) (rest : List Task) (members : List Member) → HasTree (suc i) rest members → HasTree i rest members
  no_entry i rest members after = grind (arith, own_next)

  -- an element, before what the later ones come to
  module _ (i : ℕ) (e : LeafElement) (get : slice_get p.elements i ≡ Some e) where
    own_key : slice_get keys i ≡ Some e.key
    own_key = known.own i e get

    first_key : (after : Tree) → ((k : Key) → HasKey after k → IsOwn (suc i) k) → IsFirst e.key after
    first_key after later k h =
        let (j, own, le, at, over, below) = later k h in
        lt_not_trans e.key own k (known.rise i j e.key own (omega (arith, le)) own_key at) over

    all_own : (after : Tree) → ((k : Key) → HasKey after k → IsOwn (suc i) k) → (k : Key) → (e.key ≡ k) ⊎ HasKey after k → IsOwn i k
    all_own after later k (inl same) = subst (IsOwn i) same (i, e.key, omega arith, own_key, ap is_lt (key_same e.key), (known.each i e.key own_key).1)
    all_own after later k (inr h) = own_next i k (later k h)

    put_bucket : (deep : Path) (tree : Tree) (rest : List Task) (members inner more : List Member) → e.is_bucket ≡ true → deep ≡ p.path ++ e.key ∷ []
        → Ordered tree
        → members ≡ (p.path ++ e.key ∷ [], item_of e) ∷ inner → inner ≡ listing_below deep tree ++ more → HasTree (suc i) rest more → HasTree i rest members
    put_bucket deep tree rest members inner more is named own first second after =
        let item : item_of e ≡ Bucket (head_sequence e.value) = rw is refl in
        record {
          tree = with_bucket e.key (head_sequence e.value) tree after.tree;
          later = after.later;
          same = grind (arith, append_assoc, after.same);
          ordered = (first_key after.tree after.own, own, after.ordered);
          own = all_own after.tree after.own;
          pieces = after.pieces;
        }

    put_element : (rest : List Task) (members more : List Member) → members ≡ (p.path ++ e.key ∷ [], item_of e) ∷ more → HasTree (suc i) rest more
        → HasTree i rest members
    put_element rest members more first after = elim (cases_Bool e.is_bucket) [
      | inl is ↦ put_bucket (p.path ++ e.key ∷ []) end rest members more more is refl tt first refl after
      | inr is ↦
          let item : item_of e ≡ Value e.value = rw is refl in
          record {
            tree = with_value e.key e.value after.tree;
            later = after.later;
            same =
                first ∙ ap (λ (x : Item). (p.path ++ e.key ∷ [], x) ∷ more) item
                ∙ ap (λ (ms : List Member). (p.path ++ e.key ∷ [], Value e.value) ∷ ms) after.same;
            ordered = (first_key after.tree after.own, after.ordered);
            own = all_own after.tree after.own;
            pieces = after.pieces;
          }
    ]

  -- what a child of a branch comes to
  module _ (i : ℕ) (t : Site) (child : IsChild p t i keys) (tree : Tree) (within : IsWithin t.spot tree) where
    child_from : (k : Key) → HasKey tree k → key_lt k child.key ≡ false
    child_from k h = grind (arith, not-true, within, child.lower)

    child_below : (k next : Key) → HasKey tree k → slice_get keys (suc i) ≡ Some next → key_lt k next ≡ true
    child_below k next h at = grind (arith, within, child.next)

    child_upper : (o : Option Key) → slice_get keys (suc i) ≡ o → (k : Key) → HasKey tree k → is_below (upper_of p.spot) k ≡ true
    child_upper None none k h = subst (λ (o : Option Key). is_below o k ≡ true) (child.last none) (within k h).1
    child_upper (Some next) at k h = below_less (upper_of p.spot) next k (known.each (suc i) next at).1 (child_below k next h at)

    child_less : (j k : Key) → HasKey tree j → IsOwn (suc i) k → key_lt j k ≡ true
    child_less j k h (n, own, le, at, over, below) = lt_not_trans j own k (elim (cases_order n (suc i)) [
      | inl same ↦ child_below j own h (ap (slice_get keys) (sym same) ∙ at)
      | inr (inl under) ↦ absurd (omega (arith, under, le))
      | inr (inr above) ↦ let (next, is) = get_before keys (suc i) n own above at in
          lt_trans j next own (child_below j next h is) (known.rise (suc i) n next own above is at)
    ]) over

    put_child : (rest : List Task) (members more : List Member) → Ordered tree → members ≡ listing_below t.path tree ++ more
        → HasTree (suc i) rest more → HasTree i rest members
    put_child rest members more own first after =
        record {
          tree = both tree after.tree;
          later = after.later;
          same = grind (arith, both_list, append_assoc, after.same, child.path);
          ordered = both_ordered tree after.tree own after.ordered (λ j k h later. child_less j k h (after.own k later));
          own = λ k h. elim (both_has tree after.tree k h) [
            | inl mine ↦ (i, child.key, omega arith, child.at, child_from k mine, child_upper (slice_get keys (suc i)) refl k mine)
            | inr later ↦ own_next i k (after.own k later)
          ];
          pieces = after.pieces;
        }

  entry_tree : (i : ℕ) (o : Option LeafElement) (q : Option Site) (later rest : List Task) (members : List Member) → slice_get p.elements i ≡ o
      → step_site file meta p i ≡ q
      → Pieces ((gives_at file meta p.path o ++ visits_at file meta (further w i) q) ++ later) members
      → ((ms : List Member) → Pieces later ms → HasTree (suc i) rest ms) → HasTree i rest members
  entry_tree i None None later rest members get next pieces onward = no_entry i rest members (onward members pieces)
  entry_tree i (Some e) None later rest members get next (more, first, pieces) onward = put_element i e get rest members more first (onward more pieces)
  entry_tree i None (Some t) later rest members get next (tree, more, first, own, within, pieces) onward = elim (known.kids i t next) [
    | inl (x, at, deep, bucket) ↦ absurd (none-some x (sym get ∙ at))
    | inr child ↦ put_child i t child tree within rest members more own first (onward more pieces)
  ]
  entry_tree i (Some e) (Some t) later rest members get next (inner, first, (tree, more, second, own, within, pieces)) onward = elim (known.kids i t next) [
    | inl (x, at, deep, bucket) ↦
        let one = same_Some x e (sym at ∙ get) in
        put_bucket i e get t.path tree rest members inner more (ap (λ (y : LeafElement). y.is_bucket) (sym one) ∙ bucket)
        (deep ∙ ap (λ (y : LeafElement). p.path ++ y.key ∷ []) one) own first second (onward more pieces)
    | inr child ↦ absurd (none-some e (sym child.none ∙ get))
  ]

  site_tree : (i k : ℕ) (rest : List Task) (members : List Member) → Pieces (tasks_from file meta w p i k ++ rest) members → HasTree i rest members
  site_tree i zero rest members pieces = record { tree = end; later = members; same = refl; ordered = tt; own = λ k h. absurd h; pieces = pieces }
  site_tree i (suc k) rest members pieces = let later = site_tree (suc i) k in grind (arith, entry_tree, append_assoc, later)

module _ (file : List ℕ) (meta : Meta) where
  visit_tree : (w : Way) (p : Site) (found : Option Finding) (before : ℕ → Type 0) (tasks : List Task) (members : List Member) → IsTidy file meta p
      → Gives (node_at file meta) before p.spot found
      → Pieces (tasks_after file meta w p found ++ tasks) members → Pieces (To_visit w p ∷ tasks) members
  visit_tree w p None before tasks members tidy passes pieces =
      let (keys, known) = keyed file meta before p tidy passes in
      let has = site_tree file meta w p keys known 0 _ tasks members pieces in
      let within : IsWithin p.spot has.tree = λ k h. let (j, own, le, at, over, below) = has.own k h in
      (from_more (lower_of p.spot) own k (known.each j own at).0 over, below) in
      (has.tree, has.later, has.same, has.ordered, within, has.pieces)
  visit_tree w p (Some x) before tasks members tidy gives pieces = grind arith

  pieces_course : (claimed : ℕ → Bool) (tasks : List Task) (events : List Event) → Course file meta claimed tasks events
      → ((w : Way) (p : Site) (found : Option Finding) → Has events (Visited w p found) → IsTidy file meta p) → Pieces tasks (members_of events)
  pieces_course claimed tasks events done tidy = refl
  pieces_course claimed tasks events (give {tasks = more} {events = rest} course) tidy =
      (members_of rest, refl, pieces_course claimed more rest course (λ v q f h. tidy v q f (inr h)))
  pieces_course claimed tasks events (visit {way = w} {p = p} {found = found} {tasks = more} {events = rest} gives course) tidy =
      visit_tree w p found (λ n. claimed n ≡ true) more (members_of rest) (tidy w p found (inl refl)) gives
      (pieces_course _ (tasks_after file meta w p found ++ more) rest course (λ v q f h. tidy v q f (inr h)))

  -- all that comes of a file is what a tree lists
  pub all_tree : (tree : Tree) × (members_of (all_events file meta) ≡ listing_of tree) × Ordered tree
  all_tree =
      let (tree, rest, same, own, within, none) =
      pieces_course meta_pages (root_tasks file meta) (all_events file meta) (course file meta (root_tasks file meta) meta_pages)
      (λ w p found there. (well_at file meta w p (placed file meta w p found there)).1) in
      (tree, same ∙ ap (λ (ms : List Member). listing_below [] tree ++ ms) none ∙ append-nil (listing_below [] tree), own)

  pub members_rise : Rises member_cmp (members_of (all_events file meta))
  members_rise = let (tree, same, own) = all_tree in subst (Rises member_cmp) (sym same) (ordered_rises tree [] own)

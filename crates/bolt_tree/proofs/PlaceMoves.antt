-- The place of a stack among the entries of its bucket, and what the moves of a trail are to a cursor's place.
use Rattle.std.proofs.lemmas.Grind.{common_steps}
use Rattle.std.proofs.Common.{true, false, Bool, ◌≡◌, ℕ, suc, ◌+◌, ◌-◌, ◌≤◌, ◌<◌, List, [], ◌∷◌, ◌++◌, Some, None, Option, slice_get, length, drop}
use Rattle.std.proofs.Common.{refl, sym, ap, ◌∙◌, arith, length-append, take, append_assoc}
use Rattle.bolt_lemmas.proofs.Exports.{drop_front, get_behind, get_front, get_next}
use Rattle.bolt_tree.proofs.Words.{AreEntriesOf, BucketView, Content, Contents, Finds, Frame, HasStack, IsAtRest, IsOn, IsSoundBucket, Key, Leaf}
use Rattle.bolt_tree.proofs.Words.{LeafElement, Move, Of_branch, Of_leaf, On, Past, Place, RestsOn, LeafStandsOn, TourPage, address_on, ahead_of}
use Rattle.bolt_tree.proofs.Words.{contents_in, elements_in, tour_elements, entries_to, first_move, flat_map-append, index_of}
use Rattle.bolt_tree.proofs.Words.{is_none, last_move, leaf_view, least_from, passed_of, length-drop, length-take, next_move, option_map}
use Rattle.bolt_tree.proofs.Words.{tour_pages_in, place_by, place_in, place_on, preceding_of, prev_move, props, later_of, seek_move, slice_get_within}
use Rattle.bolt_tree.proofs.Words.{take-append-drop, tour, ∥∥₁_elim, ∥∥₁_map}
use Rattle.bolt_tree.proofs.{BackLemmas.behind_index, RisingEntries.tour_entries, RisingEntries.entries_once}

-- what a stack on a leaf says of the bucket's entries
pub record IsSplit (elements : List LeafElement) (contents : Contents) (frames : List Frame) : Type 0 where
  pub within : index_of contents frames < length elements
  pub after : drop (suc (index_of contents frames)) elements ≡ ahead_of contents frames

-- the bucket's entries, cut in a leaf
pub leaf_parts : (contents : Contents) (n : ℕ) (whole : List TourPage) (es : List LeafElement) (taken : ℕ) (below : List Frame)
    → whole ≡ passed_of contents below ++ (tour contents n (address_on below) (Of_leaf es) ++ later_of contents below)
    → tour_elements whole ≡ (tour_elements (passed_of contents below) ++ take taken es) ++ (drop taken es ++ tour_elements (later_of contents below))
leaf_parts contents n whole es taken below placed =
    let left = tour_elements (passed_of contents below) in
    let right = tour_elements (later_of contents below) in
    ap tour_elements placed
    ∙ (flat_map-append (λ (v : TourPage). v.entries) (passed_of contents below) (record { address = address_on below; entries = es } ∷ later_of contents below)
    ∙ (ap (λ (l : List LeafElement). left ++ (l ++ right)) (sym (take-append-drop taken es)) ∙ simp append_assoc))

split_leaf : (contents : Contents) (n : ℕ) (whole : List TourPage) (es : List LeafElement) (taken : ℕ) (below : List Frame) → 1 ≤ taken
    → taken ≤ length es
    → whole ≡ passed_of contents below ++ (tour contents n (address_on below) (Of_leaf es) ++ later_of contents below)
    → IsSplit (tour_elements whole) contents (record { content = Of_leaf es; taken = taken } ∷ below)
split_leaf contents n whole es taken below one most placed =
    let left = tour_elements (passed_of contents below) in
    let back = drop taken es ++ tour_elements (later_of contents below) in
    let parts = leaf_parts contents n whole es taken below placed in
    let len : length (left ++ take taken es) ≡ suc (length left + (taken - 1)) =
    length-append left (take taken es) ∙ (let t = length-take taken es in omega (arith, t, one, most)) in
    record {
      within = omega (arith, len, ap length parts ∙ length-append (left ++ take taken es) back);
      after = ap (drop (suc (length left + (taken - 1)))) parts ∙ drop_front (left ++ take taken es) back (suc (length left + (taken - 1))) (sym len);
    }

pub split : (bucket : BucketView) (f : Frame) (below : List Frame) → HasStack bucket (f ∷ below) → IsAtRest (f ∷ below)
    → IsSplit (elements_in bucket) (contents_in bucket) (f ∷ below)
split bucket f below stack rest = ∥∥₁_elim stack (Prim.hlevel props) (λ s. by_content bucket f.content f.taken below rest s.1.0.placed)
  where
    by_content : (bucket : BucketView) (content : Content) (taken : ℕ) (below : List Frame) → RestsOn content taken
        → tour_pages_in bucket ≡ passed_of (contents_in bucket) below
        ++ (tour (contents_in bucket) (63 - length below) (address_on below) content ++ later_of (contents_in bucket) below)
        → IsSplit (elements_in bucket) (contents_in bucket) (record { content = content; taken = taken } ∷ below)
    by_content bucket (Of_leaf es) taken below rest placed =
        split_leaf (contents_in bucket) (63 - length below) (tour_pages_in bucket) es taken below rest.0 rest.1 placed
    by_content bucket (Of_branch bs) taken below rest placed = absurd rest

pub on_rests : (frames : List Frame) (e : LeafElement) → IsOn frames e → IsAtRest frames
on_rests frames e on = grind (arith, slice_get_within)

-- a stack is one of a sound bucket
pub stack_bucket : (bucket : BucketView) (frames : List Frame) → HasStack bucket frames → ∥ IsSoundBucket bucket ∥₁
stack_bucket bucket frames stack = ∥∥₁_map stack (λ s. s.0)

-- the entries of a bucket of a sound tree are the elements along its tour
pub the_entries : (bucket : BucketView) (entries : List LeafElement) → ∥ IsSoundBucket bucket ∥₁ → AreEntriesOf bucket entries
    → elements_in bucket ≡ entries
the_entries bucket entries is are = ∥∥₁_elim is (Prim.hlevel props) (λ s.
    entries_once bucket.file bucket.meta bucket.start (elements_in bucket) entries (tour_entries bucket.file bucket.meta s.trees bucket.start s.start) are)

-- a cursor comes to a move's place, with its answer
abbrev pub Comes : List LeafElement → Move → Place → Option LeafElement → Type 0
Comes entries move place answer = (place_in entries place ≡ move.place) × (answer ≡ move.answer)

-- the place, where there are entries
pub place_there : (entries : List LeafElement) (place : Place) → 0 < length entries → place_in entries place ≡ place
place_there entries place h = grind arith

-- the moves over a list
first_none : (entries : List LeafElement) (place : Place) → entries ≡ [] → Comes entries (first_move entries) place None
first_none entries place e = rw e (refl, refl)

first_onto : (entries : List LeafElement) (i : ℕ) (e : LeafElement) → i ≡ 0 → slice_get entries i ≡ Some e
    → Comes entries (first_move entries) (On i) (Some e)
first_onto entries i e z g = grind arith

last_none : (entries : List LeafElement) (place : Place) → entries ≡ [] → Comes entries (last_move entries) place None
last_none entries place e = rw e (refl, refl)

last_onto : (entries : List LeafElement) (i : ℕ) (answer : Option LeafElement) → suc i ≡ length entries → slice_get entries i ≡ answer
    → Comes entries (last_move entries) (On i) answer
last_onto entries i answer e g = grind arith

next_onto : (entries : List LeafElement) (i k : ℕ) (answer : Option LeafElement) → k ≡ suc i → slice_get entries (suc i) ≡ answer
    → suc i < length entries
    → Comes entries (next_move entries (place_in entries (On i))) (On k) answer
next_onto entries i k answer e g h = grind arith

prev_onto : (entries : List LeafElement) (i k : ℕ) (answer : Option LeafElement) → i ≡ suc k → slice_get entries k ≡ answer → 0 < length entries
    → Comes entries (prev_move entries (place_in entries (On i))) (On k) answer
prev_onto entries i k answer e g some = rw (place_there entries (On i) some, place_there entries (On k) some, e, g) (refl, refl)

prev_stays : (entries : List LeafElement) (i : ℕ) → i ≡ 0 → 0 < length entries
    → Comes entries (prev_move entries (place_in entries (On i))) (On i) None
prev_stays entries i e some = let there = place_there entries (On i) some in rw (there, e) (refl, refl)

seek_onto : (key : Key) (entries : List LeafElement) (i k : ℕ) (answer : Option LeafElement) → least_from key entries ≡ i → k ≡ i
    → slice_get entries i ≡ answer → i < length entries
    → Comes entries (seek_move key entries) (On k) answer
seek_onto key entries i k answer e s g h = grind arith

seek_past : (key : Key) (entries : List LeafElement) → length entries ≤ least_from key entries → Comes entries (seek_move key entries) Past None
seek_past key entries h = grind arith

-- the entry on which a stack stands
current_content : (contents : Contents) (n : ℕ) (whole : List TourPage) (content : Content) (t : ℕ) (below : List Frame) (e : LeafElement)
    → LeafStandsOn content t e
    → whole ≡ passed_of contents below ++ (tour contents n (address_on below) content ++ later_of contents below)
    → slice_get (tour_elements whole) (index_of contents (record { content = content; taken = t } ∷ below)) ≡ Some e
current_content contents n whole (Of_leaf es) t below e at placed =
    let left = tour_elements (passed_of contents below) in
    let right = tour_elements (later_of contents below) in
    let all : tour_elements whole ≡ left ++ (es ++ right) =
    ap tour_elements placed
    ∙ flat_map-append (λ (v : TourPage). v.entries) (passed_of contents below)
    (record { address = address_on below; entries = es } ∷ later_of contents below) in
    ap (λ (xs : List LeafElement). slice_get xs (length left + (t - 1))) all
    ∙ (get_behind left (es ++ right) (length left + (t - 1)) (t - 1) refl ∙ get_front es right (t - 1) e at.1)
current_content contents n whole (Of_branch bs) t below e at placed = absurd at

pub current : (bucket : BucketView) (f : Frame) (below : List Frame) (e : LeafElement) → HasStack bucket (f ∷ below) → IsOn (f ∷ below) e
    → slice_get (elements_in bucket) (index_of (contents_in bucket) (f ∷ below)) ≡ Some e
current bucket f below e stack at =
    ∥∥₁_elim stack (Prim.hlevel props)
    (λ s. current_content (contents_in bucket) (63 - length below) (tour_pages_in bucket) f.content f.taken below e at s.1.0.placed)

-- how many entries lie ahead of where a stack stands
pub ahead_number : (elements : List LeafElement) (contents : Contents) (f : Frame) (below : List Frame) → IsSplit elements contents (f ∷ below)
    → length elements ≡ suc (index_of contents (f ∷ below)) + length (ahead_of contents (f ∷ below))
ahead_number elements contents f below s = grind (arith, length-drop)

module _ (bucket : BucketView) where
  abbrev here : List Frame → Place
  here frames = place_on (contents_in bucket) frames

  pub first_moves : (found : Option Leaf) (frames : List Frame) → HasStack bucket frames
      → Finds false found (elements_in bucket) (ahead_of (contents_in bucket) frames) frames []
      → Comes (elements_in bucket) (first_move (elements_in bucket)) (here frames) (option_map leaf_view found)
  first_moves None frames stack h = first_none (elements_in bucket) (here frames) h.0
  first_moves (Some leaf) [] stack h = absurd h.1
  first_moves (Some leaf) (f ∷ below) stack h =
      let s = split bucket f below stack (on_rests (f ∷ below) (leaf_view leaf) h.1) in
      grind (arith, ahead_number, first_onto, current)

  pub last_moves : (found : Option Leaf) (frames : List Frame) → HasStack bucket frames
      → Finds true found (elements_in bucket) (preceding_of (contents_in bucket) frames) frames []
      → Comes (elements_in bucket) (last_move (elements_in bucket)) (here frames) (option_map leaf_view found)
  last_moves None frames stack h = last_none (elements_in bucket) (here frames) h.0
  last_moves (Some leaf) [] stack h = absurd h.1
  last_moves (Some leaf) (f ∷ below) stack h =
      let b = behind_index (contents_in bucket) f below (on_rests (f ∷ below) (leaf_view leaf) h.1) in
      grind (arith, common_steps, length-append, last_onto, current)

  abbrev go_move : Bool → List LeafElement → Place → Move
  go_move false = next_move
  go_move true = prev_move

  pub go_moves : (back : Bool) (found : Option Leaf) (from frames : List Frame) → HasStack bucket from → IsAtRest from → (from ≡ [] → ⊥)
      → HasStack bucket frames
      → Finds back found (entries_to back (contents_in bucket) from) (entries_to back (contents_in bucket) frames) frames from
      → Comes (elements_in bucket) (go_move back (elements_in bucket) (place_in (elements_in bucket) (here from))) (here frames) (option_map leaf_view found)
  go_moves false None (f ∷ below) frames old rest some new h =
      grind (arith, ahead_number (elements_in bucket) (contents_in bucket) f below (split bucket f below old rest))
  go_moves false (Some leaf) (f ∷ below) (g ∷ under) old rest some new h =
      let s = split bucket f below old rest in
      let a = ahead_number (elements_in bucket) (contents_in bucket) f below s in
      let b = ahead_number (elements_in bucket) (contents_in bucket) g under (split bucket g under new (on_rests (g ∷ under) (leaf_view leaf) h.1)) in
      let c = ap length h.0 in
      let i = index_of (contents_in bucket) (f ∷ below) in
      next_onto (elements_in bucket) i (index_of (contents_in bucket) (g ∷ under)) (Some (leaf_view leaf)) (omega (arith, a, b, c))
      (get_next (elements_in bucket) (suc i) (leaf_view leaf) (ahead_of (contents_in bucket) (g ∷ under)) (s.after ∙ h.0)) (omega (arith, a, c))
  go_moves true None (f ∷ below) frames old rest some new h =
      let a = ahead_number (elements_in bucket) (contents_in bucket) f below (split bucket f below old rest) in
      let b = behind_index (contents_in bucket) f below rest in
      rw h.1 (prev_stays (elements_in bucket) (index_of (contents_in bucket) (f ∷ below)) (omega (arith, b, ap length h.0)) (omega (arith, a)))
  go_moves true (Some leaf) (f ∷ below) (g ∷ under) old rest some new h =
      let a = ahead_number (elements_in bucket) (contents_in bucket) f below (split bucket f below old rest) in
      let b = behind_index (contents_in bucket) f below rest in
      let d = behind_index (contents_in bucket) g under (on_rests (g ∷ under) (leaf_view leaf) h.1) in
      let m = ap length h.0 in
      let l = length-append (preceding_of (contents_in bucket) (g ∷ under)) (leaf_view leaf ∷ []) in
      prev_onto (elements_in bucket) (index_of (contents_in bucket) (f ∷ below)) (index_of (contents_in bucket) (g ∷ under)) (Some (leaf_view leaf))
      (omega (arith, b, d, m, l))
      (current bucket g under (leaf_view leaf) new h.1) (omega (arith, a))
  go_moves back found from frames old rest some new h = absurd (grind arith)

  pub seek_moves : (key : Key) (found : Option Leaf) (frames : List Frame) → HasStack bucket frames
      → Finds false found (drop (least_from key (elements_in bucket)) (elements_in bucket)) (ahead_of (contents_in bucket) frames) frames []
      → least_from key (elements_in bucket) ≤ length (elements_in bucket)
      → Comes (elements_in bucket) (seek_move key (elements_in bucket)) (place_by (is_none found) (contents_in bucket) frames) (option_map leaf_view found)
  seek_moves key None frames stack h number =
      let least = least_from key (elements_in bucket) in
      let none : length (elements_in bucket) - least ≡ 0 = sym (length-drop least (elements_in bucket)) ∙ ap length h.0 in
      seek_past key (elements_in bucket) (omega (arith, none))
  seek_moves key (Some leaf) [] stack h number = absurd h.1
  seek_moves key (Some leaf) (g ∷ under) stack h number =
      let least = least_from key (elements_in bucket) in
      let b = ahead_number (elements_in bucket) (contents_in bucket) g under (split bucket g under stack (on_rests (g ∷ under) (leaf_view leaf) h.1)) in
      let a : length (elements_in bucket) - least ≡ suc (length (ahead_of (contents_in bucket) (g ∷ under))) =
      sym (length-drop least (elements_in bucket)) ∙ ap length h.0 in
      seek_onto key (elements_in bucket) least (index_of (contents_in bucket) (g ∷ under)) (Some (leaf_view leaf)) refl (omega (arith, a, b))
      (get_next (elements_in bucket) least (leaf_view leaf) (ahead_of (contents_in bucket) (g ∷ under)) h.0) (omega (arith, a))

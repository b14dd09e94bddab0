-- What the moves of a trail open, counted by the pages up to an entry, and what a seek opens and compares.
use Rattle.std.proofs.Common.{false, ◌≡◌, ℕ, suc, ◌+◌, ◌-◌, ◌≤◌, List, [], ◌∷◌, ◌++◌, Some, None, Option, slice_get, length, refl, ap, ◌∙◌, subst}
use Rattle.std.proofs.Common.{arith, ◌*◌, sym, length-append}
use Rattle.bolt_lemmas.proofs.Exports.{at_has, get_exists, get_next}
use Rattle.bolt_tree.proofs.Words.{BucketView, Content, Contents, Finds, Frame, HasCount, HasStack, IsAtRest, IsLeafContent, IsLeafTop, IsNear}
use Rattle.bolt_tree.proofs.Words.{IsNearTop, IsPagesUpTo, IsSeekPage, IsSought, IsSoundBucket, IsStack, Key, Leaf, LeafElement, Of_branch, Of_leaf}
use Rattle.bolt_tree.proofs.Words.{OpensByNext, OpensGap, OpensSeek, RestsOn, SeeksInBounds, LeafStandsOn, address_on, ahead_of, contents_in, counted}
use Rattle.bolt_tree.proofs.Words.{elements_in, index_of, leaf_view, least_from, passed_of, opened_to, option_map, tour_pages_in, place_on, props}
use Rattle.bolt_tree.proofs.Words.{later_of, slice_get_past, top_address, tour, ∥∥₁_elim}
use Rattle.bolt_tree.proofs.CountLemmas.{Cut, IsAt, all_exact, cut_size, exact_is, upto_is, after_exact, seek_exact}
use Rattle.bolt_tree.proofs.PlaceMoves.{on_rests, split, ahead_number, current, the_entries}
use Rattle.bolt_tree.proofs.{NearestLeaf.one_near, StackLemmas.stack_short}

-- the page of a leaf on a stack among the pages of the bucket
abbrev pub leaf_cut : (bucket : BucketView) (es : List LeafElement) (below : List Frame)
    → tour_pages_in bucket ≡ passed_of (contents_in bucket) below
    ++ (record { address = address_on below; entries = es } ∷ later_of (contents_in bucket) below) → Cut (tour_pages_in bucket)
leaf_cut bucket es below placed = record {
  left = passed_of (contents_in bucket) below;
  page = record { address = address_on below; entries = es };
  right = later_of (contents_in bucket) below;
  whole = placed;
}

-- the entry on which a stack rests, and its page among the pages of the bucket
rest_stands : (content : Content) (taken : ℕ) → RestsOn content taken → (e : LeafElement) × LeafStandsOn content taken e
rest_stands (Of_leaf es) taken rest = let e = get_exists es (taken - 1) (omega (arith, rest.0, rest.1)) in (e.0, (rest.0, e.1))
rest_stands (Of_branch bs) taken rest = absurd rest

pub stands_at : (bucket : BucketView) (content : Content) (taken : ℕ) (below : List Frame) (e : LeafElement) → LeafStandsOn content taken e
    → tour_pages_in bucket ≡ passed_of (contents_in bucket) below
    ++ (tour (contents_in bucket) (63 - length below) (address_on below) content ++ later_of (contents_in bucket) below)
    → (at : IsAt bucket e) × (at.cut.right ≡ later_of (contents_in bucket) (record { content = content; taken = taken } ∷ below))
stands_at bucket (Of_leaf es) taken below e on placed = (record { cut = leaf_cut bucket es below placed; has = at_has es (taken - 1) e on.1 }, refl)
stands_at bucket (Of_branch bs) taken below e on placed = absurd on

module _ (bucket : BucketView) where
  -- the number of pages up to that of this entry
  abbrev IsUpTo : ℕ → ℕ → Type 0
  IsUpTo i n = IsPagesUpTo bucket.file bucket.meta bucket.start (slice_get (elements_in bucket) i) n

  stack_upto : (f : Frame) (below : List Frame) (n : ℕ) → HasStack bucket (f ∷ below) → IsAtRest (f ∷ below)
      → IsUpTo (index_of (contents_in bucket) (f ∷ below)) n
      → n + length (later_of (contents_in bucket) (f ∷ below)) ≡ length (tour_pages_in bucket)
  stack_upto f below n stack rest up =
      let on = rest_stands f.content f.taken rest in
      let up2 : IsPagesUpTo bucket.file bucket.meta bucket.start (Some on.0) n =
      subst (λ (o : Option LeafElement). IsPagesUpTo bucket.file bucket.meta bucket.start o n) (current bucket f below on.0 stack on.1) up in
      ∥∥₁_elim stack (Prim.hlevel props) (λ s.
      let at = stands_at bucket f.content f.taken below on.0 on.1 s.1.0.placed in
      omega (arith, upto_is bucket s.0 at.0.cut on.0 n at.0.has up2, cut_size at.0.cut, ap length at.1))

  all_upto : (n i : ℕ) → ∥ IsSoundBucket bucket ∥₁ → length (elements_in bucket) ≤ i → IsUpTo i n → n ≡ length (tour_pages_in bucket)
  all_upto n i is end up =
      let none : slice_get (elements_in bucket) i ≡ None = slice_get_past (elements_in bucket) i (omega (arith, end)) in
      let up2 : IsPagesUpTo bucket.file bucket.meta bucket.start None n =
      subst (λ (o : Option LeafElement). IsPagesUpTo bucket.file bucket.meta bucket.start o n) none up in
      ∥∥₁_elim is (Prim.hlevel props) (λ s. exact_is (all_exact bucket s) up2)

  -- what a move to the first entry opens
  pub first_opens : (found : Option Leaf) (frames : List Frame) (old new : ℕ) → ∥ IsSoundBucket bucket ∥₁ → HasStack bucket frames
      → Finds false found (elements_in bucket) (ahead_of (contents_in bucket) frames) frames []
      → new ≡ counted old (length (tour_pages_in bucket) - length (later_of (contents_in bucket) frames)) → OpensGap bucket 0 old new
  first_opens None frames old new is stack h opened = grind (arith, all_upto, the_entries)
  first_opens (Some leaf) [] old new is stack h opened = absurd h.1
  first_opens (Some leaf) (f ∷ below) old new is stack h opened = λ entries gap are up.
      let rest = on_rests (f ∷ below) (leaf_view leaf) h.1 in
      let a = ahead_number (elements_in bucket) (contents_in bucket) f below (split bucket f below stack rest) in
      let zero_index : 0 ≡ index_of (contents_in bucket) (f ∷ below) = omega (arith, a, ap length h.0) in
      let up2 : IsUpTo (index_of (contents_in bucket) (f ∷ below)) gap = rw (← zero_index) (rw (← the_entries bucket entries is are) at up) in
      opened ∙ ap (counted old) (omega (arith, stack_upto f below gap stack rest up2))

  -- what a move to the next entry opens
  pub next_opens : (found : Option Leaf) (from frames : List Frame) (old new : ℕ) → ∥ IsSoundBucket bucket ∥₁
      → HasStack bucket from → IsAtRest from → (from ≡ [] → ⊥) → HasStack bucket frames
      → Finds false found (ahead_of (contents_in bucket) from) (ahead_of (contents_in bucket) frames) frames from
      → new ≡ counted old (length (later_of (contents_in bucket) from) - opened_to (option_map leaf_view found) (later_of (contents_in bucket) frames))
      → OpensByNext bucket (place_on (contents_in bucket) from) old new
  next_opens None (f ∷ below) frames old new is stack rest some stack2 h opened = λ entries gap are up.
      let all = the_entries bucket entries is are in
      let a = ahead_number (elements_in bucket) (contents_in bucket) f below (split bucket f below stack rest) in
      let here = all_upto up.0 (suc (index_of (contents_in bucket) (f ∷ below))) is (omega (arith, a, ap length h.0)) (rw (← all) at up.2) in
      let g = up.4 in
      opened ∙ ap (counted old) (omega (arith, here, stack_upto f below up.1 stack rest (rw (← all) at up.3), g))
  next_opens (Some leaf) (f ∷ below) (k ∷ under) old new is stack rest some stack2 h opened = λ entries gap are up.
      let all = the_entries bucket entries is are in
      let rest2 = on_rests (k ∷ under) (leaf_view leaf) h.1 in
      let a = ahead_number (elements_in bucket) (contents_in bucket) f below (split bucket f below stack rest) in
      let b = ahead_number (elements_in bucket) (contents_in bucket) k under (split bucket k under stack2 rest2) in
      let next : suc (index_of (contents_in bucket) (f ∷ below)) ≡ index_of (contents_in bucket) (k ∷ under) = omega (arith, a, b, ap length h.0) in
      let up2 : IsUpTo (index_of (contents_in bucket) (k ∷ under)) up.0 = rw (← next) (rw (← all) at up.2) in
      opened ∙ ap (counted old) (omega (arith, stack_upto k under up.0 stack2 rest2 up2, stack_upto f below up.1 stack rest (rw (← all) at up.3), up.4))
  next_opens found from frames old new is stack rest some stack2 h opened = absurd (grind arith)

pub length-address : (frames : List Frame) → length (address_on frames) ≡ length frames
length-address [] = refl
length-address (f ∷ below) = let r = length-address below in length-append (address_on below) ((f.taken - 1) ∷ []) ∙ omega (arith, r)

near_is : (bucket : BucketView) (key : Key) (frames : List Frame) (near : List ℕ) → IsNearTop bucket key frames
    → IsNear bucket.file bucket.meta bucket.start key near → near ≡ top_address frames
near_is bucket key frames near top is = ∥∥₁_elim top (Prim.hlevel props) (λ n. one_near bucket.file bucket.meta bucket.start key near (top_address frames) is n)

-- how many further pages
further : (bucket : BucketView) (s : IsSoundBucket bucket) (key : Key) (found : Option Leaf) (content : Content) (taken : ℕ) (below frames : List Frame) (n : ℕ)
    → IsStack bucket (record { content = content; taken = taken } ∷ below) → IsLeafContent content
    → IsSought (elements_in bucket) key (ahead_of (contents_in bucket) (record { content = content; taken = taken } ∷ below)) → IsStack bucket frames
    → Finds false found (ahead_of (contents_in bucket) (record { content = content; taken = taken } ∷ below)) (ahead_of (contents_in bucket) frames) frames []
    → HasCount (IsSeekPage bucket.file bucket.meta bucket.start (address_on below) (slice_get (elements_in bucket) (least_from key (elements_in bucket)))) n
    → n ≡ length (later_of (contents_in bucket) (record { content = content; taken = taken } ∷ below))
    - opened_to (option_map leaf_view found) (later_of (contents_in bucket) frames)
further bucket s key None (Of_leaf es) taken below frames n stack leaf sought stack2 h count =
    let number = sought.number in
    let none = ap length h.0 in
    let past : slice_get (elements_in bucket) (least_from key (elements_in bucket)) ≡ None =
    slice_get_past (elements_in bucket) (least_from key (elements_in bucket)) (omega (arith, number, none)) in
    omega (arith, exact_is (after_exact bucket s (leaf_cut bucket es below stack.0.placed)) (rw past at count))
further bucket s key (Some leaf) (Of_leaf es) taken below (g ∷ under) n stack top sought stack2 h count =
    let i = least_from key (elements_in bucket) in
    let got : slice_get (elements_in bucket) i ≡ Some (leaf_view leaf) =
    get_next (elements_in bucket) i (leaf_view leaf) (ahead_of (contents_in bucket) (g ∷ under)) (sought.rest ∙ h.0) in
    let at = stands_at bucket g.content g.taken under (leaf_view leaf) h.1 stack2.0.placed in
    omega (arith, exact_is (seek_exact bucket s (leaf_cut bucket es below stack.0.placed) (leaf_view leaf) at.0) (rw got at count), ap length at.1)
further bucket s key found content taken below frames n stack leaf sought stack2 h count = absurd (grind arith)

-- nothing comes later than where it comes to at the end
right_end : (contents : Contents) (found : Option Leaf) (before after : List LeafElement) (frames : List Frame)
    → Finds false found before after frames [] → length (later_of contents frames) ≡ opened_to (option_map leaf_view found) (later_of contents frames)
right_end contents found before after frames h = grind arith

-- what a seek opens
pub seek_opens : (bucket : BucketView) (key : Key) (found : Option Leaf) (landed frames : List Frame) (old new : ℕ) → ∥ IsSoundBucket bucket ∥₁
    → HasStack bucket landed → IsLeafTop landed → IsNearTop bucket key landed
    → IsSought (elements_in bucket) key (ahead_of (contents_in bucket) landed) → HasStack bucket frames
    → Finds false found (ahead_of (contents_in bucket) landed) (ahead_of (contents_in bucket) frames) frames []
    → new ≡ counted old (length landed + (length (later_of (contents_in bucket) landed) - length (later_of (contents_in bucket) frames)))
    → OpensSeek bucket key old new
seek_opens bucket key found [] frames old new is stack leaf near sought stack2 h opened = absurd leaf
seek_opens bucket key found (f ∷ below) frames old new is stack leaf near sought stack2 h opened = λ entries n are count.
    let all = the_entries bucket entries is are in
    let same = near_is bucket key (f ∷ below) count.near near count.down in
    let counted2 : HasCount
    (IsSeekPage bucket.file bucket.meta bucket.start (address_on below) (slice_get (elements_in bucket) (least_from key (elements_in bucket)))) count.further =
    subst (λ (a : List ℕ).
    HasCount (IsSeekPage bucket.file bucket.meta bucket.start a (slice_get (elements_in bucket) (least_from key (elements_in bucket)))) count.further) same
    (subst (λ (es : List LeafElement).
    HasCount (IsSeekPage bucket.file bucket.meta bucket.start count.near (slice_get es (least_from key es))) count.further) (sym all) count.counted) in
    let more = ∥∥₁_elim stack (Prim.hlevel props) (λ s. ∥∥₁_elim stack2 (Prim.hlevel props) (λ s2.
    further bucket s.0 key found f.content f.taken below frames count.further s.1 leaf sought s2.1 h counted2)) in
    let depth : length count.near ≡ length below = ap length same ∙ length-address below in
    let ends = right_end (contents_in bucket) found (ahead_of (contents_in bucket) (f ∷ below)) (ahead_of (contents_in bucket) frames) frames h in
    opened ∙ ap (counted old) (omega (arith, more, depth, count.sum, ends))

pub seek_bounds : (bucket : BucketView) (key : Key) (landed : List Frame) (compared : ℕ) → HasStack bucket landed → IsLeafTop landed
    → IsNearTop bucket key landed → compared ≤ 16 * length landed
    → SeeksInBounds bucket key compared
seek_bounds bucket key [] compared stack leaf top few = absurd leaf
seek_bounds bucket key (f ∷ below) compared stack leaf top few = λ near is.
    let same = near_is bucket key (f ∷ below) near top is in
    let depth : length near ≡ length below = ap length same ∙ length-address below in
    (omega (arith, depth, stack_short bucket f below stack), omega (arith, depth, few))

pub leaf_nonempty : (frames : List Frame) → IsLeafTop frames → 1 ≤ length frames
leaf_nonempty frames leaf = grind arith

-- The next entry is in the same leaf, and is taken: one element more of the page on top of the stack, in place.
use Rattle.std.proofs.Common.{◌≡◌, ◌∙◌, ◌+◌, ◌-◌, ◌<◌, ◌≤◌, ℕ, suc, Bool, false, IsTrue, List, [], ◌∷◌, ◌++◌, None, Some, length, slice_get}
use Rattle.std.proofs.Common.{slice_index_or, slice_set, take, refl, sym, ap, subst, append-nil, arith}
use Rattle.std.proofs.lemmas.Grind.{common_steps}
use Rattle.bolt_tree.proofs.Words.{Frame, HasStack, IsResting, Leaf, Moves, Of_leaf, OpensByNext, Place, Position, LeafStandsOn, Trail}
use Rattle.bolt_tree.proofs.Words.{content_length, contents_in, counted, drop_all, entries_of, frame_of, frames_of, get_or_default, leaf_view}
use Rattle.bolt_tree.proofs.Words.{leaves_on, length-set, next_move, opened_content, pager_checked, pager_opened, pages_ahead, place_by, refill}
use Rattle.bolt_tree.proofs.Words.{slice_get_read, start_at, take-suc-set, take_all, take_next, trail_bucket, trail_frames}
use Rattle.bolt_tree.proofs.{MoveLemmas.entry_taken, MoveLemmas.page_left, MoveLemmas.taken_entry, PagerLemmas.counted_zero, PlaceMoves.on_rests}
use Rattle.bolt_tree.proofs.{StackLemmas.retaken}
use Rattle.bolt_tree.proofs.{RestingLemmas.moved_resting, RestingLemmas.moves_next, RestingLemmas.opens_next, RestingLemmas.resting_rest}
use Rattle.bolt_tree.proofs.{RestingLemmas.resting_stack, TrailLemmas.filled, TrailLemmas.frames_push}
use Rattle.bolt_tree.specs.Private.Trails.{Goes}
use Rattle.bolt_format.specs.Elements.{IsBucketValue}
use Rattle.bolt_format.specs.declared.tree_page.LeafPage.{LeafPage}
use Rattle.bolt_format.specs.declared.tree_page.TreePage.TheVariants as kind

last_is : (items : List Position) (last : ℕ) (top : Position) → length items ≡ suc last → top ≡ slice_index_or items last top
    → items ≡ take last items ++ top ∷ []
last_is items last top long read =
    sym (take_all (suc last) items (omega (arith, long))) ∙ take_next items last top (slice_get_read items (suc last) last top (sym long) (omega arith) read)

refilled : (items : List Position) (last : ℕ) (put : Position) → length items ≡ suc last
    → refill (length items) items (slice_set items last put) ≡ take last items ++ put ∷ []
refilled items last put long = grind (arith, slice_set, length-set, drop_all, append-nil, long, take-suc-set)

module _ (old : Trail) (is_past : Bool) (resting : ∥ IsResting old is_past ∥₁) (shared : List Position) (n last : ℕ) (top : Position)
    (len : n ≡ length old.positions) (filled_in : 1 ≤ n)
    (is_last : last ≡ n - 1) (read : top ≡ slice_index_or shared last top) (same : shared ≡ old.positions) (page : LeafPage)
    (shows : top.page ≡ kind.Leaf page) where
  abbrev items : List Position
  items = old.positions

  abbrev below : List Frame
  below = frames_of (take last items)

  long : length items ≡ suc last
  long = omega (arith, len, filled_in, is_last)

  got : top ≡ slice_index_or items last top
  got = read ∙ ap (λ (ps : List Position). slice_index_or ps last top) same

  was : trail_frames old ≡ frame_of top ∷ below
  was = ap frames_of (last_is items last top long got) ∙ frames_push (take last items) top

  content : opened_content top.page ≡ Of_leaf (leaves_on page)
  content = rw shows refl

  abbrev here : Place
  here = place_by is_past (contents_in (trail_bucket old)) (trail_frames old)

  module _ (lent : List Position) (d e : Position) (again : lent ≡ old.positions) (less : top.taken < length (leaves_on page))
      (fits : top.taken + 1 ≤ 65536) (leaf : Leaf)
      (shown : slice_get (leaves_on page) top.taken ≡ Some (leaf_view leaf)) (bucket : IsTrue leaf.is_bucket → IsBucketValue leaf.value.now) where
    abbrev new : Trail
    new = record {
      pages = old.pages;
      positions =
          refill (length items) items
          (slice_set lent last (record { page = (slice_index_or lent last e).page; taken = (slice_index_or lent last d).taken + 1 }));
    }

    found : (d : Position) → slice_index_or lent last d ≡ top
    found d = ap (λ (ps : List Position). slice_index_or ps last d) again ∙ (get_or_default items last d top (omega (arith, long)) ∙ sym got)

    put : trail_frames new ≡ record { content = opened_content top.page; taken = top.taken + 1 } ∷ below
    put = grind (arith, common_steps, refill, slice_set, slice_index_or, refilled, long, frames_push)

    some : top.taken < content_length (opened_content top.page)
    some = rw content less

    stands : LeafStandsOn (opened_content top.page) (top.taken + 1) (leaf_view leaf)
    stands = let back : (top.taken + 1) - 1 ≡ top.taken = omega arith in rw (content, back) (omega arith, shown)

    restacked : HasStack (trail_bucket old) (record { content = opened_content top.page; taken = top.taken + 1 } ∷ below)
    restacked =
        retaken (trail_bucket old) (opened_content top.page) top.taken (top.taken + 1) below
        (subst (HasStack (trail_bucket old)) was (resting_stack old is_past resting)) (let h = some in omega (arith, h)) fits

    takes : Goes false old new (Some leaf)
    takes =
        let taken = entry_taken (trail_bucket old) (frame_of top) below false top.taken (trail_frames new) (leaf_view leaf) (refl, some)
        (taken_entry (contents_in (trail_bucket old)) (opened_content top.page) top.taken below (trail_frames new) (leaf_view leaf) stands put) in
        let ahead : pages_ahead old ≡ pages_ahead new = rw was taken.2 in
        let none : length (pages_ahead old) - length (pages_ahead new) ≡ 0 = omega (arith, ap length ahead) in
        record {
          moved = record { file = refl; at = refl; stack = rw put restacked };
          rest = on_rests (trail_frames new) (leaf_view leaf) taken.1;
          found = rw was (taken.0, taken.1);
          bucket = bucket;
          opened = sym (counted_zero old.pages.pager) ∙ ap (counted (pager_opened old.pages.pager)) (sym none);
        }

    pub rests_there : ∥ IsResting new is_past ∥₁
    rests_there = moved_resting old new is_past resting (filled items n len filled_in) takes.moved takes.rest

    pub moves_there : Moves (entries_of (pager_checked old.pages.pager)) (start_at old.pages.at) next_move here
        (place_by is_past (contents_in (trail_bucket new)) (trail_frames new)) (Some (leaf_view leaf))
    moves_there = moves_next old new takes.moved is_past resting (Some leaf) (filled items n len filled_in) takes.found

    pub opens_there : OpensByNext (trail_bucket old) here (pager_opened old.pages.pager) (pager_opened old.pages.pager)
    opens_there =
        opens_next old new takes.moved is_past resting (Some leaf) (filled items n len filled_in) (pager_opened old.pages.pager)
        (pager_opened old.pages.pager) takes.found takes.opened

  -- or that leaf is at its end, and is alone on the stack
  module _ (ended : length (leaves_on page) ≤ top.taken) (alone : last ≡ 0) where
    stays : Goes false old old None
    stays =
        let frames : trail_frames old ≡ frame_of top ∷ [] = was ∙ ap (λ (k : ℕ). frame_of top ∷ frames_of (take k items)) alone in
        let left =
        page_left (trail_bucket old) (frame_of top) [] false (subst (HasStack (trail_bucket old)) frames (resting_stack old is_past resting))
        (rw content ended) in
        let ahead : pages_ahead old ≡ [] = rw frames (sym left.1) in
        let none : length (pages_ahead old) - 0 ≡ 0 = omega (arith, ap length ahead) in
        record {
          moved = record { file = refl; at = refl; stack = resting_stack old is_past resting };
          rest = resting_rest old is_past resting;
          found = (rw frames (sym left.0), refl);
          bucket = tt;
          opened = sym (counted_zero old.pages.pager) ∙ ap (counted (pager_opened old.pages.pager)) (sym none);
        }

    pub stays_there : Moves (entries_of (pager_checked old.pages.pager)) (start_at old.pages.at) next_move here here None
    stays_there = moves_next old old stays.moved is_past resting None (filled items n len filled_in) stays.found

    pub opens_none : OpensByNext (trail_bucket old) here (pager_opened old.pages.pager) (pager_opened old.pages.pager)
    opens_none =
        opens_next old old stays.moved is_past resting None (filled items n len filled_in) (pager_opened old.pages.pager) (pager_opened old.pages.pager)
        stays.found stays.opened

-- What the way down and then the move forward say, all of the bucket as it was.
use Rattle.std.proofs.Common.{◌≡◌, [], ◌∙◌, ◌+◌, ◌-◌, ℕ, Bool, Option, None, false, length, List, not, sym, ap, arith, refl}
use Rattle.std.proofs.Math.Bool.{not-not}
use Rattle.bolt_tree.proofs.Words.{BucketView, Contents, Finds, Frame, HasStack, IsMoved, IsNearTop, IsSought, Key, Leaf, LeafElement, Past, ahead_of}
use Rattle.bolt_tree.proofs.Words.{contents_in, counted, cursor_place, cursor_trail, elements_in}
use Rattle.bolt_tree.proofs.Words.{frames_of, later_of, pager_opened, pages_bucket, place_by, start_at, trail_on}
use Rattle.bolt_tree.proofs.{PagerLemmas.counted_more, OpeningMoves.leaf_nonempty, OpeningMoves.seek_bounds, OpeningMoves.seek_opens}
use Rattle.bolt_tree.proofs.{RestingLemmas.moves_seek, RestingLemmas.resting_bucket}
use Rattle.bolt_tree.proofs.TrailLemmas.{same_bucket}
use Rattle.std.specs.Option.{is_some}
use Rattle.bolt_tree.specs.Cursors.{cursor_viewers}
use Rattle.bolt_tree.proofs.cursor.Cursor.seek_element.Goals as goal

-- the bucket stays the same: as the root page is opened, on the way down, and as the stack moves forward
module _ (was rooted low now : BucketView) (root : rooted ≡ was) (under : low ≡ was) (after : now ≡ was) (key : Key) (down frames : List Frame)
    (found : Option Leaf) where
  near : IsNearTop rooted key down → IsNearTop was key down
  near h = rw root at h

  sought : IsSought (elements_in rooted) key (ahead_of (contents_in low) down) → IsSought (elements_in was) key (ahead_of (contents_in was) down)
  sought h = rw (root, under) at h

  landed : HasStack low down → HasStack was down
  landed h = rw under at h

  moved : HasStack now frames → HasStack was frames
  moved h = rw after at h

  finds_below : (left : List LeafElement) → Finds false found (ahead_of (contents_in low) down) left frames []
      → Finds false found (ahead_of (contents_in was) down) left frames []
  finds_below left h = rw under at h

  finds : Finds false found (ahead_of (contents_in low) down) (ahead_of (contents_in now) frames) frames []
      → Finds false found (ahead_of (contents_in was) down) (ahead_of (contents_in was) frames) frames []
  finds h = rw (under, after) at h

  gone : length (later_of (contents_in low) down) - length (later_of (contents_in now) frames)
      ≡ length (later_of (contents_in was) down) - length (later_of (contents_in was) frames)
  gone = rw (under, after) refl

-- without an entry it is past the last one
past : (contents : Contents) (frames : List Frame) (found : Option Leaf) (none : Bool) → is_some found ≡ not none → found ≡ None
    → place_by none contents frames ≡ Past
past contents frames found none e h = grind arith

pub returns : goal.returns
unfolding cursor_viewers
returns c =
    let was = c.args.self.now in
    let bucket = pages_bucket was.pages in
    let key = c.args.key.now in
    let found = c.go-found.result in
    let down = frames_of c.descend-self.new.stack.items in
    let frames = frames_of c.go-found.new.stack.items in
    let low = c.descend-self.ensures in
    let done = c.go-found.ensures in
    let root : pages_bucket c.open_root-root.new.self ≡ bucket = rw (c.open_root-root.ensures.checked, c.open_root-root.ensures.at) refl in
    let under : pages_bucket c.descend-self.new.self ≡ bucket = same_bucket _ _ low.moved ∙ root in
    let after : pages_bucket c.go-found.new.self ≡ bucket = same_bucket _ _ done.moved ∙ under in
    let moves : IsMoved (cursor_trail was) (trail_on c.go-found.new.self c.go-found.new.stack.items) = record {
      file = done.moved.file ∙ (low.moved.file ∙ c.open_root-root.ensures.checked);
      at = done.moved.at ∙ (low.moved.at ∙ c.open_root-root.ensures.at);
      stack = done.moved.stack;
    } in
    let stack = landed bucket _ _ _ root under after key down frames found low.moved.stack in
    let is = sought bucket _ _ _ root under after key down frames found low.sought in
    let number = is.number in
    let top = near bucket _ _ _ root under after key down frames found low.near in
    let one = leaf_nonempty down low.leaf in
    let old = pager_opened was.pages.pager in
    let more = length (later_of (contents_in bucket) down) - length (later_of (contents_in bucket) frames) in
    let sum : (1 + (length down - 1)) + more ≡ length down + more = omega (arith, one) in
    let total : pager_opened c.go-found.new.self.pager ≡ counted old ((1 + (length down - 1)) + more) =
    done.opened ∙ (ap (counted (pager_opened c.descend-self.new.self.pager)) (gone bucket _ _ _ root under after key down frames found)
    ∙ (ap (λ (n : ℕ). counted n more)
    (low.opened ∙ (ap (λ (n : ℕ). counted n (length down - 1)) c.open_root-root.ensures.opened ∙ counted_more old 1 (length down - 1)))
    ∙ counted_more old (1 + (length down - 1)) more)) in
    record {
      checked = moves.file;
      start = ap start_at moves.at;
      moves = rw (sym (not-not c.is_none-self.result) ∙ sym (ap not c.is_none-self.ensures))
          (moves_seek _ _ moves _ was.resting found key (cursor_place was)
          (rw is.rest (finds_below bucket _ _ _ root under after key down frames found _ done.found)) (omega (arith, number)));
      opens = seek_opens bucket key found down frames old (pager_opened c.go-found.new.self.pager) (resting_bucket _ _ was.resting) stack low.leaf top is
          (moved bucket _ _ _ root under after key down frames found done.moved.stack)
          (finds bucket _ _ _ root under after key down frames found done.found) (total ∙ ap (counted old) sum);
      none = past (contents_in (pages_bucket c.go-found.new.self)) frames found c.is_none-self.result c.is_none-self.ensures;
      compared = seek_bounds bucket key down c.descend-self.result stack low.leaf top low.compared;
      bucket = done.bucket;
    }

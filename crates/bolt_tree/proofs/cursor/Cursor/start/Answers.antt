-- The root page is put on the stack at its edge, so that everything lies in the direction.
use Rattle.std.proofs.Common.{◌≡◌, ◌∷◌, ◌++◌, ◌∙◌, ◌+◌, ◌-◌, ◌&&◌, ℕ, [], Bool, true, false, not, Option, length, List, ap, refl, arith}
use Rattle.bolt_tree.proofs.Words.{Content, Finds, Frame, Leaf, LeafElement, MatchOption, Position, counted, frame_of, frames_of, pager_opened}
use Rattle.bolt_tree.proofs.Words.{pages_bucket, tour_pages_in, pages_left, root_content, taken_at, trail_on}
use Rattle.bolt_tree.proofs.{MoveLemmas.at_edge, PagerLemmas.counted_more, StackLemmas.root_stack, RestingLemmas.resting_bucket}
use Rattle.bolt_tree.proofs.{TrailLemmas.edge_room}
use Rattle.std.specs.Option.{is_some}
use Rattle.bolt_tree.proofs.cursor.Cursor.start.Goals as goal

-- a page at its edge, alone on the stack
edge : (at_end : Bool) (root opened : Content) (none new : List Position) (position : Position) → none ≡ [] → new ≡ none ++ position ∷ []
    → opened ≡ root
    → frame_of position ≡ record { content = opened; taken = taken_at at_end opened }
    → frames_of new ≡ record { content = root; taken = taken_at at_end root } ∷ []
edge at_end root opened none new position empty put same is = rw (put, empty, is, same) refl

-- with an entry it is no more past the last one; without one the stack is empty
past : (was none : Bool) (found : Option Leaf) → is_some found ≡ not none → MatchOption found ((was && none) ≡ was) (λ leaf. (was && none) ≡ false)
past was none found e = grind arith

empty : (back was none : Bool) (found : Option Leaf) (before after : List LeafElement) (frames : List Frame) → is_some found ≡ not none
    → Finds back found before after frames [] → (was && none) ≡ true → frames ≡ []
empty back was none found before after frames e finds p = grind arith

pub go-found-requires : goal.go-found-requires
go-found-requires c =
    let bucket = pages_bucket c.args.self.now.pages in
    rw (
      c.open_root-root.ensures.checked,
      c.open_root-root.ensures.at,
      edge c.args.back (root_content bucket) _ _ _ c.at_edge.result c.clear.ensures c.push.ensures.items c.open_root-root.ensures.content
          c.at_edge.ensures.frame,
    )
    (edge_room c.args.back bucket (root_content bucket) c.at_edge.result [] (root_stack bucket (resting_bucket _ _ c.args.self.now.resting))
    (rw c.open_root-root.ensures.content at c.at_edge.ensures.frame) c.at_edge.ensures.fits)

pub returns : goal.returns
returns c =
    let was = c.args.self.now in
    let back = c.args.back in
    let bucket = pages_bucket was.pages in
    let root = c.open_root-root.ensures in
    let done = c.go-found.ensures in
    let all = at_edge back bucket (pages_bucket c.open_root-root.new.self) (frames_of c.push.new.self.items) (rw (root.checked, root.at) refl)
    (edge back (root_content bucket) _ _ _ c.at_edge.result c.clear.ensures c.push.ensures.items root.content c.at_edge.ensures.frame) in
    let old = pager_opened was.pages.pager in
    let left = length (pages_left back (trail_on c.open_root-root.new.self c.push.new.self.items)) in
    let ahead = length (pages_left back (trail_on c.go-found.new.self c.go-found.new.stack.items)) in
    let sum : 1 + (left - ahead) ≡ length (tour_pages_in bucket) - ahead = omega (arith, all.1, done.less) in
    record {
      moved = record { file = done.moved.file ∙ root.checked; at = done.moved.at ∙ root.at; stack = done.moved.stack };
      found = rw all.0 done.found;
      bucket = done.bucket;
      opened = done.opened ∙ (ap (λ (n : ℕ). counted n (left - ahead)) root.opened ∙ (counted_more old 1 (left - ahead) ∙ ap (counted old) sum));
      past = past was.is_past c.is_none.result c.go-found.result c.is_none.ensures;
      compared = refl;
    }

-- What lies in the direction stays the same until an entry is taken, and each page that is opened is the next one there.
use Rattle.std.proofs.Common.{rules, ◌≡◌, ◌∙◌, ◌+◌, suc, length, List, ◌∷◌, ◌++◌, Option, None, Some, option_to_list, sym, ap, refl, arith}
use Rattle.bolt_tree.proofs.Words.{BucketPages, Frame, HasStack, HasTrail, IsEntered, Of_branch, Position, branches_on, contents_in}
use Rattle.bolt_tree.proofs.Words.{trail_entries_left, entries_to, frame_of, frames_of, leaf_view, opened_content, pages_bucket, pages_left, pages_to}
use Rattle.bolt_tree.proofs.Words.{taken_at, trail_on}
use Rattle.bolt_tree.proofs.{MoveLemmas.opens, MoveLemmas.page_left, MoveLemmas.takes, PagerLemmas.counted_more, PagerLemmas.counted_zero}
use Rattle.bolt_tree.proofs.StackLemmas.{popped, retaken, taken_bound, taken_fits}
use Rattle.bolt_tree.proofs.TrailLemmas.{edge_room, frames_pop, length-frames, popped_none, popped_stack, same_bucket, stack_room}
use Rattle.bolt_tree.proofs.bucket_pages.BucketPages.go.Goals.{After-element, After-push-in-Branch}
use Rattle.bolt_tree.proofs.bucket_pages.BucketPages.go.Goals as goal

pub loop-top-init : goal.loop-top-init
loop-top-init c = search (rules, counted_zero)

pub beside-requires-clause-bound : goal.beside-requires-clause-bound
beside-requires-clause-bound c =
    let bound = taken_bound _ _ _ (popped_stack c.loop-top.self _ _ c.in-Some.top c.in-Some.ensures.items c.loop-top.invariant.moved.stack) in
    omega (arith, bound)

pub beside-requires-clause-fits : goal.beside-requires-clause-fits
beside-requires-clause-fits c = taken_fits _ _ _ (popped_stack c.loop-top.self _ _ c.in-Some.top c.in-Some.ensures.items c.loop-top.invariant.moved.stack)

-- a page with nothing in the direction leaves the stack
pub loop-top-preserved-in_default-beside : goal.loop-top-preserved-in_default-beside
loop-top-preserved-in_default-beside c =
    let inv = c.loop-top.invariant in
    let bucket = pages_bucket c.loop-top.self in
    let left =
    page_left bucket (frame_of c.in-Some.top) (frames_of c.pop.new.self.items) c.args.back
    (popped_stack c.loop-top.self _ _ c.in-Some.top c.in-Some.ensures.items c.loop-top.invariant.moved.stack) c.in_default-beside.ensures in
    let entries = left.0 ∙ ap (entries_to c.args.back (contents_in bucket)) (sym (frames_pop _ _ _ c.in-Some.ensures.items)) in
    let pages = left.1 ∙ ap (pages_to c.args.back (contents_in bucket)) (sym (frames_pop _ _ _ c.in-Some.ensures.items)) in
    record {
      moved = record {
        file = inv.moved.file;
        at = inv.moved.at;
        stack = popped _ _ _ (popped_stack c.loop-top.self _ _ c.in-Some.top c.in-Some.ensures.items c.loop-top.invariant.moved.stack);
      };
      entries = entries ∙ inv.entries;
      less = rw pages inv.less;
      opened = rw pages inv.opened;
    }

-- an entry is taken
pub push-requires : goal.push-requires
push-requires c =
    let room =
    stack_room _ (frame_of c.in-Some.top) c.pop.new.self.items
    (popped_stack c.loop-top.self _ _ c.in-Some.top c.in-Some.ensures.items c.loop-top.invariant.moved.stack) in
    (omega arith, omega (arith, room))

taken : (c : After-element)
    → frames_of c.push.new.self.items ≡ record { content = opened_content c.in-Some.top.page; taken = c.in-Some-beside.i + 1 } ∷ frames_of c.pop.new.self.items
taken c = rw c.from.ensures at (frames_pop c.push.new.self.items _ _ c.push.ensures.items)

pub returns-in-Leaf-clause-moved : goal.returns-in-Leaf-clause-moved
returns-in-Leaf-clause-moved c =
    let was = c.loop-top.invariant.moved in
    let below = c.in-Some-beside.ensures.1 in
    record {
      file = was.file;
      at = was.at;
      stack =
          rw (taken c) (retaken _ _ _ (c.in-Some-beside.i + 1) _
          (popped_stack c.loop-top.self _ _ c.in-Some.top c.in-Some.ensures.items c.loop-top.invariant.moved.stack) (omega (arith, below)) (omega arith));
    }

entered : (c : After-element)
    → IsEntered (contents_in (pages_bucket c.loop-top.self)) c.args.back (opened_content c.in-Some.top.page) c.in-Some-beside.i
    (frames_of c.pop.new.self.items) (frames_of c.push.new.self.items) (Some (leaf_view c.element.result))
entered c = rw c.in-Leaf.is (c.element.ensures.element, rw c.in-Leaf.is at (taken c))

pub returns-in-Leaf-clause-found : goal.returns-in-Leaf-clause-found
returns-in-Leaf-clause-found c =
    let bucket = pages_bucket c.loop-top.self in
    let r =
    takes bucket bucket (frames_of c.loop-top.stack.items) (frames_of c.pop.new.self.items) (frames_of c.push.new.self.items) (frame_of c.in-Some.top) refl
    (frames_pop _ _ _ c.in-Some.ensures.items) c.args.back c.in-Some-beside.i
    c.in-Some-beside.ensures (leaf_view c.element.result) (entered c) in
    (sym c.loop-top.invariant.entries ∙ r.0, r.1)

-- the page under a branch is opened
pub go_under-child-requires-clause-stack : goal.go_under-child-requires-clause-stack
go_under-child-requires-clause-stack c =
    retaken _ (Of_branch (branches_on c.in-Branch.page)) c.in-Some.top.taken 0 _
    (rw c.in-Branch.is at (popped_stack c.loop-top.self _ _ c.in-Some.top c.in-Some.ensures.items c.loop-top.invariant.moved.stack)) (omega arith) (omega arith)

edge : (c : After-push-in-Branch)
    → frames_of c.push-in-Branch.new.self.items
    ≡ record { content = opened_content c.go_under-child.result; taken = taken_at c.args.back (opened_content c.go_under-child.result) }
    ∷ frames_of c.go_under-child.new.stack.items
edge c =
    frames_pop c.push-in-Branch.new.self.items _ _ c.push-in-Branch.ensures.items
    ∙ ap (λ (f : Frame). f ∷ frames_of c.go_under-child.new.stack.items) c.at_edge.ensures.frame

edge_stack : (c : After-push-in-Branch) → HasStack (pages_bucket c.go_under-child.new.self) (frames_of c.push-in-Branch.new.self.items)
edge_stack c =
    rw (edge c) (edge_room c.args.back _ (opened_content c.go_under-child.result) c.at_edge.result _ c.go_under-child.ensures.stack c.at_edge.ensures.frame
    c.at_edge.ensures.fits)

under : (c : After-push-in-Branch)
    → IsEntered (contents_in (pages_bucket c.loop-top.self)) c.args.back (opened_content c.in-Some.top.page) c.in-Some-beside.i
    (frames_of c.pop.new.self.items) (frames_of c.push-in-Branch.new.self.items) None
under c = search (rules, edge)

-- the page that is opened is the next one that lies in the direction
opened : (c : After-push-in-Branch)
    → (trail_entries_left c.args.back (trail_on c.loop-top.self c.loop-top.stack.items)
    ≡ trail_entries_left c.args.back (trail_on c.go_under-child.new.self c.push-in-Branch.new.self.items))
    × (length (pages_left c.args.back (trail_on c.loop-top.self c.loop-top.stack.items))
    ≡ suc (length (pages_left c.args.back (trail_on c.go_under-child.new.self c.push-in-Branch.new.self.items))))
    × (length (frames_of c.push-in-Branch.new.self.items) ≡ suc (suc (length (frames_of c.pop.new.self.items))))
opened c =
    opens (pages_bucket c.loop-top.self) (pages_bucket c.go_under-child.new.self) (frames_of c.loop-top.stack.items) (frames_of c.pop.new.self.items)
    (frames_of c.push-in-Branch.new.self.items) (frame_of c.in-Some.top)
    (same_bucket _ _ c.go_under-child.ensures.moved) (frames_pop _ _ _ c.in-Some.ensures.items) c.args.back c.in-Some-beside.i c.in-Some-beside.ensures
    (under c) (edge_stack c)

pub loop-top-smaller : goal.loop-top-smaller
loop-top-smaller c = grind (arith, opened, length-frames)

pub loop-top-preserved : goal.loop-top-preserved
loop-top-preserved c =
    let inv = c.loop-top.invariant in
    let now = opened c in
    let done = c.go_under-child.ensures in
    record {
      moved = record { file = done.moved.file ∙ inv.moved.file; at = done.moved.at ∙ inv.moved.at; stack = edge_stack c };
      entries = sym now.0 ∙ inv.entries;
      less = omega (arith, now.1, inv.less);
      opened = grind (arith, counted_more);
    }

-- what pop leaves is a stack, whether or not it took something
left : (pages : BucketPages) (old items : List Position) (o : Option Position) → old ≡ items ++ option_to_list o → HasTrail (trail_on pages old)
    → HasStack (pages_bucket pages) (frames_of items)
left pages old items None e stack = popped_none pages old items e stack
left pages old items (Some top) e stack = popped _ _ _ (popped_stack pages old items top e stack)

pub returns-clause-moved : goal.returns-clause-moved
returns-clause-moved c =
    let was = c.loop-top.invariant.moved in
    record { file = was.file; at = was.at; stack = left c.loop-top.self c.loop-top.stack.items c.pop.new.self.items c.pop.result c.pop.ensures.items was.stack }

use Rattle.std.proofs.Common.{◌≡◌, ◌∷◌, ◌∙◌, ◌-◌, false, suc, length, List, sym, ap, arith, refl, subst}
use Rattle.bolt_tree.proofs.Words.{BranchElement, BucketView, Frame, HasStack, IsNearTop, IsOnWayDown, IsNumberBefore, IsSought, Key, KeysRise}
use Rattle.bolt_tree.proofs.Words.{Of_branch, ahead_of, contents_in, counted, elements_in, branches_on, length-map, frames_of, opened_content}
use Rattle.bolt_tree.proofs.Words.{pager_opened, pages_bucket}
use Rattle.bolt_tree.proofs.NearLemmas.{begins, branch_filled, landed, moved_between, moved_way, shows_leaf, stack_rises, way_begins, way_down}
use Rattle.bolt_tree.proofs.{PagerLemmas.counted_more, PagerLemmas.counted_zero, StackLemmas.popped, StackLemmas.retaken, StackLemmas.root_stack}
use Rattle.bolt_tree.proofs.{StackLemmas.branch_room, SeekLemmas.between_down}
use Rattle.bolt_tree.proofs.{TrailLemmas.frames_pop, TrailLemmas.same_bucket, WayPages.keys_opened, WayPages.length_keys}
use Rattle.bolt_tree.proofs.bucket_pages.BucketPages.descend.Goals as goal

pub loop-opened-init : goal.loop-opened-init
loop-opened-init c =
    let bucket = pages_bucket c.args.self.now in
    let stack : HasStack bucket (record { content = opened_content c.args.root; taken = 0 } ∷ frames_of c.args.stack.now.items) =
    rw (c.requires.root, c.requires.empty) (root_stack bucket c.requires.bucket) in
    record {
      moved = record { file = refl; at = refl; stack = popped bucket _ _ stack };
      stack = stack;
      between = rw c.requires.empty (begins (contents_in bucket) c.args.key.now);
      way = rw (c.requires.root, c.requires.empty) (way_begins bucket c.args.key.now c.requires.bucket);
      compared = omega arith;
      opened =
          let none : length (frames_of c.args.stack.now.items) ≡ 0 = ap (λ (fs : List Frame). length fs) c.requires.empty in
          rw none (sym (counted_zero c.args.self.now.pager));
    }

pub keys_before-found-requires : goal.keys_before-found-requires
keys_before-found-requires c =
    stack_rises (pages_bucket c.loop-opened.self) (Of_branch (branches_on c.in-Branch.page)) 0 (frames_of c.loop-opened.stack.items)
    (rw c.in-Branch.is at c.loop-opened.invariant.stack)

pub go_under-opened-requires-clause-stack : goal.go_under-opened-requires-clause-stack
go_under-opened-requires-clause-stack c = rw c.in-Branch.is at c.loop-opened.invariant.stack

pub go_under-opened-requires-clause-below : goal.go_under-opened-requires-clause-below
go_under-opened-requires-clause-below c =
    let some =
    branch_filled (pages_bucket c.loop-opened.self) (branches_on c.in-Branch.page) 0 (frames_of c.loop-opened.stack.items)
    (rw c.in-Branch.is at c.loop-opened.invariant.stack) in
    let long = length-map (branches_on c.in-Branch.page) (λ (e : BranchElement). e.key) in
    omega (arith, some, long, c.keys_before-found.ensures.within, c.saturating_sub.ensures)

pub loop-opened-preserved : goal.loop-opened-preserved
loop-opened-preserved c =
    let old = pages_bucket c.loop-opened.self in
    let now = pages_bucket c.go_under-opened.new.self in
    let key = c.args.key.now in
    let bs = branches_on c.in-Branch.page in
    let n = c.keys_before-found.result.before in
    let i = c.saturating_sub.result in
    let below = frames_of c.loop-opened.stack.items in
    let inv = c.loop-opened.invariant in
    let done = c.go_under-opened.ensures in
    let same = same_bucket _ _ done.moved in
    let e = done.child in
    let stack : HasStack old (record { content = Of_branch bs; taken = 0 } ∷ below) = rw c.in-Branch.is at inv.stack in
    let way : IsOnWayDown old key below (Of_branch bs) = rw c.in-Branch.is at inv.way in
    let between =
    between_down old key bs i n 0 e.0 below stack c.saturating_sub.ensures e.1 c.keys_before-found.ensures.before (branch_room old bs 0 below stack)
    inv.between in
    let on = way_down old key below bs n i 0 e.0 stack way c.keys_before-found.ensures.before c.saturating_sub.ensures e.1 in
    grind (arith, moved_between, moved_way, counted_more)

pub keys_before-found-requires-2 : goal.keys_before-found-requires-2
keys_before-found-requires-2 c =
    subst KeysRise (sym (keys_opened c.loop-opened.opened))
    (stack_rises (pages_bucket c.loop-opened.self) (opened_content c.loop-opened.opened) 0 (frames_of c.loop-opened.stack.items) c.loop-opened.invariant.stack)

pub returns : goal.returns
returns c =
    let bucket = pages_bucket c.loop-opened.self in
    let key = c.args.key.now in
    let inv = c.loop-opened.invariant in
    let leaf = shows_leaf c.loop-opened.opened c.in_default.not-Branch in
    let below = frames_of c.loop-opened.stack.items in
    let frames : frames_of c.push.new.self.items
    ≡ record { content = opened_content c.loop-opened.opened; taken = c.keys_before-found-2.result.before } ∷ below =
    rw c.from.ensures at (frames_pop c.push.new.self.items _ _ c.push.ensures.items) in
    let is =
    landed bucket key (opened_content c.loop-opened.opened) leaf.0 c.keys_before-found-2.result.before (frames_of c.push.new.self.items) below leaf.1
    frames inv.stack
    (subst (λ (keys : List Key). IsNumberBefore keys false key c.keys_before-found-2.result.before) (keys_opened c.loop-opened.opened)
    c.keys_before-found-2.ensures.before)
    (omega (arith, c.keys_before-found-2.ensures.within, length_keys c.loop-opened.opened)) (omega arith) inv.between inv.way in
    let more : length (frames_of c.push.new.self.items) ≡ suc (length below) = ap (λ (fs : List Frame). length fs) frames in
    let less : length below ≡ length (frames_of c.push.new.self.items) - 1 = omega (arith, more) in
    let same = same_bucket _ _ inv.moved in
    record {
      moved = record {
        file = inv.moved.file;
        at = inv.moved.at;
        stack =
            rw frames (retaken bucket (opened_content c.loop-opened.opened) 0 c.keys_before-found-2.result.before below inv.stack
            (omega (arith, c.keys_before-found-2.ensures.within, length_keys c.loop-opened.opened)) (omega arith));
      };
      near = subst (λ (b : BucketView). IsNearTop b key (frames_of c.push.new.self.items)) same is.near;
      sought = subst (λ (b : BucketView). IsSought (elements_in b) key (ahead_of (contents_in bucket) (frames_of c.push.new.self.items))) same is.sought;
      compared = omega (arith, c.keys_before-found-2.ensures.few, inv.compared, more);
      opened = inv.opened ∙ ap (counted (pager_opened c.args.self.now.pager)) less;
      leaf = is.leaf;
    }

use Rattle.std.proofs.Common.{◌≡◌, ◌∷◌, ◌+◌, arith, refl}
use Rattle.bolt_tree.proofs.Words.{HasStack, Of_branch, branch_view, branches_on, frames_of, opened_content, pages_bucket}
use Rattle.bolt_tree.proofs.{StackLemmas.child_pushed, StackLemmas.child_way, StackLemmas.retaken, TrailLemmas.frames_pop, TrailLemmas.moved_stack}
use Rattle.bolt_tree.proofs.bucket_pages.BucketPages.go_under.Goals as goal
use Rattle.bolt_tree.proofs.bucket_pages.BucketPages.go_under.Goals.{After-open_tree_page}

pub open_tree_page-requires : goal.open_tree_page-requires
open_tree_page-requires c =
    child_way (pages_bucket c.args.self.now) (branches_on c.args.page) 0 c.args.i (branch_view c.element.result) (frames_of c.args.stack.now.items)
    c.requires.stack c.element.ensures

-- the branch is on the stack, on its element i
pushed : (c : After-open_tree_page)
    → frames_of c.push.new.self.items ≡ record { content = Of_branch (branches_on c.args.page); taken = c.args.i + 1 } ∷ frames_of c.args.stack.now.items
pushed c = rw c.from.ensures at (frames_pop c.push.new.self.items _ _ c.push.ensures.items)

whole : (c : After-open_tree_page)
    → HasStack (pages_bucket c.args.self.now)
    (record { content = Of_branch (branches_on c.args.page); taken = c.args.i + 1 } ∷ frames_of c.args.stack.now.items)
whole c =
    retaken (pages_bucket c.args.self.now) (Of_branch (branches_on c.args.page)) 0 (c.args.i + 1) (frames_of c.args.stack.now.items) c.requires.stack
    (let h = c.requires.below in omega arith) (omega arith)

pub returns-clause-moved : goal.returns-clause-moved
returns-clause-moved c = record {
  file = c.open_tree_page.ensures.checked;
  at = refl;
  stack = rw (c.open_tree_page.ensures.checked, pushed c) (whole c);
}

pub returns-clause-stack : goal.returns-clause-stack
returns-clause-stack c =
    let bucket = pages_bucket c.args.self.now in
    moved_stack bucket _ _ (opened_content c.open_tree_page.result) _ (frames_of c.push.new.self.items) (rw c.open_tree_page.ensures.checked refl)
    c.open_tree_page.ensures.content (pushed c)
    (child_pushed bucket (branches_on c.args.page) c.args.i (branch_view c.element.result) (frames_of c.args.stack.now.items) (whole c) c.element.ensures)

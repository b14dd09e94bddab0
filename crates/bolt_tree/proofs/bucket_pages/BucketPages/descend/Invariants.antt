use Rattle.std.proofs.Common.{◌≡◌, ◌∷◌, ◌≤◌, ◌-◌, ◌*◌, length}
use Rattle.bolt_tree.proofs.Words.{HasStack, IsBetween, IsMoved, IsOnWayDown, contents_in, counted, frames_of, opened_content, pager_opened}
use Rattle.bolt_tree.proofs.Words.{pages_bucket, trail_on}
use Rattle.bolt_tree.proofs.bucket_pages.BucketPages.descend.Given as goal

abbrev pub invariant-loop-opened : goal.invariant-loop-opened
invariant-loop-opened l = record {
  moved : IsMoved (trail_on l.initial.self l.initial.stack.items) (trail_on l.self l.stack.items);
  stack : HasStack (pages_bucket l.self) (record { content = opened_content l.opened; taken = 0 } ∷ frames_of l.stack.items);
  between : IsBetween (contents_in (pages_bucket l.self)) l.key (frames_of l.stack.items);
  way : IsOnWayDown (pages_bucket l.self) l.key (frames_of l.stack.items) (opened_content l.opened);
  compared : l.compared ≤ 16 * length (frames_of l.stack.items);
  opened : pager_opened l.self.pager ≡ counted (pager_opened l.initial.self.pager) (length (frames_of l.stack.items));
}

abbrev pub decreases-loop-opened : goal.decreases-loop-opened
decreases-loop-opened l = 64 - length (frames_of l.stack.items)

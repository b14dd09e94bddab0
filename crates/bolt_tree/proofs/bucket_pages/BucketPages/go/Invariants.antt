use Rattle.std.proofs.Common.{◌≡◌, ◌≤◌, ◌-◌, ◌+◌, ◌*◌, length}
use Rattle.bolt_tree.proofs.Words.{IsMoved, counted, trail_entries_left, pager_opened, pages_left, trail_on}
use Rattle.bolt_tree.proofs.bucket_pages.BucketPages.go.Given as goal

abbrev pub invariant-loop-top : goal.invariant-loop-top
invariant-loop-top l =
    let first = trail_on l.initial.self l.initial.stack.items in
    let now = trail_on l.self l.stack.items in
    record {
      moved : IsMoved first now;
      entries : trail_entries_left l.back now ≡ trail_entries_left l.back first;
      less : length (pages_left l.back now) ≤ length (pages_left l.back first);
      opened : pager_opened l.self.pager ≡ counted (pager_opened l.initial.self.pager) (length (pages_left l.back first) - length (pages_left l.back now));
    }

abbrev pub decreases-loop-top : goal.decreases-loop-top
decreases-loop-top l = 2 * length (pages_left l.back (trail_on l.self l.stack.items)) + length l.stack.items

use Rattle.std.proofs.Common.{◌+◌, ◌++◌, List, vec_len}
use Rattle.bolt_check.proofs.Words.{bytes_of, Finding, forest, meta_of, node_at}
use Rattle.bolt_check.proofs.{UnreadSteps.AreReached, UnreadSteps.left_below, UnreadWays.AreAlong, UnreadWays.forest_findings, UnreadWays.spots_in}
use Rattle.bolt_check.specs.{BboltFindings.way_findings, Private.Unread.unread_of, Ways.reached}
use Rattle.bolt_check.proofs.for_bbolt.bbolt_findings.Given as goal

-- what is found so far, and what is found along the ways of what is left, is all
abbrev pub invariant-loop-next : goal.invariant-loop-next
invariant-loop-next l =
    let nodes = node_at (bytes_of l.checked) (meta_of l.checked) in
    let root = (meta_of l.checked).root in
    let unread = unread_of l.unread.items in
    record {
      stands : ∥ AreReached nodes root (meta_of l.checked).high_water (spots_in unread) ∥₁;
      carried : (found : List Finding) → AreAlong (forest nodes (spots_in unread)) (forest_findings nodes unread) found
          → AreAlong (reached nodes root) (way_findings nodes root) (l.findings.items ++ found);
    }

-- a page takes its share away, and leads to fewer spots than that; an inline bucket leads to none
abbrev pub decreases-loop-next : goal.decreases-loop-next
decreases-loop-next l =
    left_below (node_at (bytes_of l.checked) (meta_of l.checked)) (meta_of l.checked).high_water (spots_in (unread_of l.unread.items)) + vec_len l.unread

-- What the tests of a spot find, as a function.
use Rattle.std.specs.Prelude.{ℕ, zero, suc, ◌+◌, Bool, Option, Some, None, Result, Ok, Err, if◌then◌else◌}
use Rattle.std.specs.Option.{option_map, option_or}
use Rattle.bolt_check.specs.{Findings.early_finding, Findings.finding, Findings.inline_finding, Findings.node_finding, Nodes.Node, Nodes.Nodes}
use Rattle.bolt_check.specs.{Ways.At_inline, Ways.At_page, Ways.PageSpot, Ways.Spot}
use Rattle.bolt_check.specs.{declared.finding.Finding.Finding, declared.finding.TheConstants.Finding.TWICE}

-- the lowest claimed page among so many, from page n on
abbrev pub first_claimed : (ℕ → Bool) → ℕ → ℕ → Option ℕ
first_claimed claimed n zero = None
first_claimed claimed n (suc count) = option_or (first_claimed claimed n count) (if claimed (n + count) then Some (n + count) else None)

abbrev pub test_node : (ℕ → Bool) → PageSpot → Result Node ℕ → Option Finding
test_node claimed s (Ok node) = option_or (option_map (finding TWICE) (first_claimed claimed s.number (suc node.overflow))) (node_finding node s)
test_node claimed s (Err fault) = None

abbrev pub test : Nodes → (ℕ → Bool) → Spot → Option Finding
test nodes claimed (At_page s) = option_or (early_finding nodes s) (test_node claimed s (nodes s.number))
test nodes claimed (At_inline host inner) = inline_finding host inner.keys

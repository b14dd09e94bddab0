-- Pages as bbolt writes them: docs/FORMAT.md, "Gaps".
use Rattle.std.specs.Prelude.{◌≡◌, ℕ, List, None, Some}
use Rattle.bolt_format.specs.{Gaps.page_gap, declared.meta.Meta.Meta}
use Rattle.bolt_check.specs.{Nodes.node_at, Ways.At_inline, Ways.At_page, Ways.Spot, Ways.reached}

-- what a way leads to has no gap
abbrev pub HasNoGap : List ℕ → Meta → Spot → Type 0
HasNoGap file meta (At_page s) = page_gap file meta s.number ≡ None
HasNoGap file meta (At_inline host inner) = inner.gap ≡ None

-- no page that a way leads to has one
abbrev pub HasNoGaps : List ℕ → Meta → Type 0
HasNoGaps file meta = (way : List ℕ) (spot : Spot) → reached (node_at file meta) meta.root way ≡ Some spot → HasNoGap file meta spot

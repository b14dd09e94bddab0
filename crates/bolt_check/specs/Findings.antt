-- What the tests of the structure find, and which finding is the first: docs/SOUND.md, "Structure".
use Rattle.std.specs.Prelude.{◌≡◌, ℕ, ◌<◌, ◌⊎◌, not, ◌&&◌, List, length, map, Option, Some, None, Result, Ok, Err, if◌then◌else◌, nat_lt, ◌==◌}
use Rattle.bolt_check.specs.{Keys.Key, Keys.keys_order_fault, Nodes.Entry, Nodes.IsInSpan, Nodes.Node, Nodes.Nodes}
use Rattle.bolt_check.specs.{Ways.At_inline, Ways.At_page, Ways.Before, Ways.PageSpot, Ways.Reach, Ways.SpanHas, Ways.Spot}
use Rattle.bolt_check.specs.{declared.finding.Finding.Finding}
use Rattle.bolt_check.specs.declared.finding.TheConstants.Finding.{EMPTY_BRANCH, TOO_DEEP, TWICE}

-- a finding of one page
abbrev pub finding : ℕ → ℕ → Finding
finding number page = record { number = number; page = page; last = page }

abbrev pub finding_of : Option ℕ → ℕ → Option Finding
finding_of None page = None
finding_of (Some number) page = Some (finding number page)

abbrev pub open_finding : Result Node ℕ → ℕ → Option Finding
open_finding (Err fault) number = Some (finding fault number)
open_finding (Ok node) number = None

-- the 65th page on the way from the bucket's root page, and then the faults of the page itself
abbrev pub early_finding : Nodes → PageSpot → Option Finding
early_finding nodes s = if nat_lt 64 s.depth then Some (finding TOO_DEEP s.number) else open_finding (nodes s.number) s.number

abbrev pub keys_of : List Entry → List Key
keys_of entries = map (λ (e : Entry). e.key) entries

-- an empty branch, and then the keys
abbrev pub node_finding : Node → PageSpot → Option Finding
node_finding node s =
    if not node.is_leaf && (length node.entries == 0) then Some (finding EMPTY_BRANCH s.number)
    else finding_of (keys_order_fault None s.lower s.upper (keys_of node.entries)) s.number

-- a finding on the keys of an inline bucket has the number of the page that contains the bucket
abbrev pub inline_finding : ℕ → List Key → Option Finding
inline_finding host keys = finding_of (keys_order_fault None None None keys) host

-- the meta pages are claimed from the start
abbrev pub IsMetaPage : ℕ → Type 0
IsMetaPage n = n < 2

-- n is the lowest page of the span that was claimed before
pub record IsLowestClaimed (before : ℕ → Type 0) (node : Node) (number n : ℕ) : Type 0 where
  pub in_span : IsInSpan node number n
  pub was : before n
  pub lowest : (k : ℕ) → IsInSpan node number k → k < n → before k → ⊥

-- at this page, if these pages were claimed before, the tests have this finding
pub data PageTests (nodes : Nodes) (before : ℕ → Type 0) (s : PageSpot) (x : Finding) : Type 0 where
  early : early_finding nodes s ≡ Some x → PageTests nodes before s x
  twice : (node : Node) → early_finding nodes s ≡ None → nodes s.number ≡ Ok node
      → IsLowestClaimed before node s.number x.page → x ≡ finding TWICE x.page → PageTests nodes before s x
  late : (node : Node) → early_finding nodes s ≡ None → nodes s.number ≡ Ok node
      → ((n : ℕ) → IsInSpan node s.number n → before n → ⊥) → node_finding node s ≡ Some x → PageTests nodes before s x

-- at this page the tests find nothing
pub record PagePasses (nodes : Nodes) (before : ℕ → Type 0) (s : PageSpot) : Type 0 where
  pub node : Node
  pub early : early_finding nodes s ≡ None
  pub page : nodes s.number ≡ Ok node
  pub free : (n : ℕ) → IsInSpan node s.number n → before n → ⊥
  pub content : node_finding node s ≡ None

abbrev pub Tests : Nodes → (ℕ → Type 0) → Spot → Finding → Type 0
Tests nodes before (At_page s) x = PageTests nodes before s x
Tests nodes before (At_inline host inner) x = inline_finding host inner.keys ≡ Some x

abbrev pub Passes : Nodes → (ℕ → Type 0) → Spot → Type 0
Passes nodes before (At_page s) = PagePasses nodes before s
Passes nodes before (At_inline host inner) = inline_finding host inner.keys ≡ None

-- page n was claimed from the start, or lies in the span of a way before this one
abbrev pub IsClaimedBefore : Nodes → Reach → (ℕ → Type 0) → List ℕ → ℕ → Type 0
IsClaimedBefore nodes reach start way n = start n ⊎ ((v : List ℕ) × (Before v way × SpanHas nodes (reach v) n))

-- page n was claimed from the start, or lies in the span of a way
abbrev pub IsCovered : Nodes → Reach → (ℕ → Type 0) → ℕ → Type 0
IsCovered nodes reach start n = start n ⊎ ((way : List ℕ) × SpanHas nodes (reach way) n)

-- the tests find nothing at any way
pub record IsClean (nodes : Nodes) (reach : Reach) (start : ℕ → Type 0) : Type 0 where
  pub passes : (way : List ℕ) (s : Spot) → reach way ≡ Some s → Passes nodes (IsClaimedBefore nodes reach start way) s

-- the first finding in the order of the ways
pub record IsFirst (nodes : Nodes) (reach : Reach) (start : ℕ → Type 0) (x : Finding) : Type 0 where
  pub way : List ℕ
  pub spot : Spot
  pub leads : reach way ≡ Some spot
  pub reported : Tests nodes (IsClaimedBefore nodes reach start way) spot x
  pub none_before : (v : List ℕ) (s : Spot) (y : Finding) → Before v way → reach v ≡ Some s
      → Tests nodes (IsClaimedBefore nodes reach start v) s y → ⊥

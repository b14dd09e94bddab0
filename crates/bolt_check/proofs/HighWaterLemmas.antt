-- A good page lies below the mark and in the file.
use Rattle.std.proofs.Common.{◌≡◌, ℕ, ◌+◌, ◌*◌, ◌<◌, ◌≤◌, List, Some, Ok, length, refl, inl, inr, arith, []}
use Rattle.bolt_check.proofs.Words.{At_page, cases_lt, HasRoom, IsClean, IsMetaPage, IsSome, Meta, Node, node_at, page_at, page_overflow, PageUse}
use Rattle.bolt_check.proofs.Words.{PageView, root_spot, span_within}
use Rattle.bolt_check.specs.Ways.{reached}
use Rattle.bolt_format.proofs.Exports.{span_passes}

pub page_overflows : (file : List ℕ) (meta : Meta) (id : ℕ) (view : PageView) → page_at file meta id ≡ Some view
    → view.overflow ≡ page_overflow file meta id
unfolding page_at
page_overflows file meta id view e = grind arith

-- a node's page is good, and its span lies below the mark and in the file
pub node_page : (file : List ℕ) (meta : Meta) (id : ℕ) (node : Node) → node_at file meta id ≡ Ok node
    → (view : PageView) × (page_at file meta id ≡ Some view) × (node.overflow ≡ view.overflow)
unfolding node_at
node_page file meta id node e = grind arith

pub node_shown : (file : List ℕ) (meta : Meta) (id : ℕ) (node : Node) → node_at file meta id ≡ Ok node → IsSome (page_at file meta id)
node_shown file meta id node e = let (view, is, _) = node_page file meta id node e in rw is refl

pub node_within : (file : List ℕ) (meta : Meta) (id : ℕ) (node : Node) → node_at file meta id ≡ Ok node
    → (id + node.overflow < meta.high_water) × ((id + node.overflow + 1) * meta.page_size ≤ length file)
node_within file meta id node e = grind (arith, node_page, page_overflows, span_within, span_passes)

pub node_below : (file : List ℕ) (meta : Meta) (id : ℕ) (node : Node) → node_at file meta id ≡ Ok node → id < meta.high_water
node_below file meta id node e = let within = (node_within file meta id node e).0 in omega (arith, within)

-- where the search finds nothing, the table has the metas
pub table_wide : (file : List ℕ) (meta : Meta) (table : List PageUse) → IsClean (node_at file meta) (reached (node_at file meta) meta.root) IsMetaPage
    → HasRoom file meta table → 2 ≤ length table
table_wide file meta table clean room =
    let root = clean.passes [] (At_page (root_spot meta.root)) refl in
    let within = node_within file meta meta.root root.node root.page in
    elim (cases_lt meta.root 2) [
      | inl low ↦ absurd (root.free meta.root (omega arith, omega arith) (inl low))
      | inr high ↦ (let fits = room (meta.root + root.node.overflow) within.1 within.0 in omega (arith, fits, high))
    ]

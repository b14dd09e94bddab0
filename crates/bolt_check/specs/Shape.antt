-- The structure of a sound file, over all ways and all pairs of ways: docs/SOUND.md, "Structure".
use Rattle.std.specs.Prelude.{◌≡◌, ◌≢◌, ◌≤◌, ℕ, suc, List, [], ◌∷◌, Bool, true, false, IsTrue, Option, Some, None, Result, Ok, Err, slice_get}
use Rattle.bolt_check.specs.{Findings.keys_of, Keys.Key, Keys.KeysRise, Keys.key_lt, Nodes.Entry, Nodes.InlinePage, Nodes.Node, Nodes.Nodes}
use Rattle.bolt_check.specs.Ways.{At_inline, At_page, PageSpot, SpanHas, reached}

-- An address is a list of branch steps inside one bucket; this is the page that it leads to.
abbrev pub child_of : Bool → Option Entry → Option ℕ
child_of false (Some e) = Some e.child
child_of false None = None
child_of true e = None

abbrev pub child_in : Result Node ℕ → ℕ → Option ℕ
child_in (Err fault) i = None
child_in (Ok node) i = child_of node.is_leaf (slice_get node.entries i)

abbrev pub child_at : Nodes → Option ℕ → ℕ → Option ℕ
child_at nodes None i = None
child_at nodes (Some number) i = child_in (nodes number) i

abbrev pub leads : Nodes → Option ℕ → List ℕ → Option ℕ
leads nodes here [] = here
leads nodes here (i ∷ rest) = leads nodes (child_at nodes here i) rest

pub record HasShape (nodes : Nodes) (root : ℕ) : Type 0 where
  -- each way to a page leads to a good branch or leaf, at most 64 pages deep in its bucket
  pub good : (way : List ℕ) (s : PageSpot) → reached nodes root way ≡ Some (At_page s) → (s.depth ≤ 64) × ((node : Node) × (nodes s.number ≡ Ok node))
  -- no branch is empty
  pub filled : (way : List ℕ) (s : PageSpot) (node : Node) → reached nodes root way ≡ Some (At_page s) → nodes s.number ≡ Ok node
      → node.is_leaf ≡ false → node.entries ≢ []
  -- the spans of two ways share no page, and none holds a meta page
  pub apart : (v w : List ℕ) (n : ℕ) → SpanHas nodes (reached nodes root v) n → SpanHas nodes (reached nodes root w) n → v ≡ w
  pub above_metas : (way : List ℕ) (n : ℕ) → SpanHas nodes (reached nodes root way) n → 2 ≤ n
  -- the keys of each page rise, those of inline pages too
  pub rising : (way : List ℕ) (s : PageSpot) (node : Node) → reached nodes root way ≡ Some (At_page s) → nodes s.number ≡ Ok node
      → KeysRise (keys_of node.entries)
  pub rising_inline : (way : List ℕ) (host : ℕ) (inner : InlinePage) → reached nodes root way ≡ Some (At_inline host inner) → KeysRise inner.keys
  -- every key below an entry of a branch, in the same bucket, is not below its key and is below the next
  pub bounded : (way address : List ℕ) (s : PageSpot) (node under : Node) (i j below : ℕ) (key : Key) (e : Entry)
      → reached nodes root way ≡ Some (At_page s) → nodes s.number ≡ Ok node → node.is_leaf ≡ false → slice_get node.entries i ≡ Some e
      → leads nodes (Some e.child) address ≡ Some below → nodes below ≡ Ok under → slice_get (keys_of under.entries) j ≡ Some key
      → (key_lt key e.key ≡ false) × ((next : Entry) → slice_get node.entries (suc i) ≡ Some next → IsTrue (key_lt key next.key))

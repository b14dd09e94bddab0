-- What bbolt fails on when it writes into a file, though the trees of the file are sound: docs/SOUND.md, "For bbolt".
use Rattle.std.specs.Prelude.{◌≡◌, ◌==◌, ◌&&◌, ◌++◌, ◌+◌, ◌-◌, ℕ, zero, suc, Bool, true, false, List, [], ◌∷◌, Option, Some, None, Result, Ok, Err}
use Rattle.std.specs.Prelude.{flat_map, if◌then◌else◌, is_some, length, nat_lt, not, take}
use Rattle.std.specs.{List.list_any, Str.bytes_eq}
use Rattle.bolt_check.specs.{Findings.finding, Findings.keys_of, Keys.Key, Nodes.Entry, Nodes.InlinePage, Nodes.Node, Nodes.Nodes, Shape.leads}
use Rattle.bolt_check.specs.{Tours.IsTour}
use Rattle.bolt_check.specs.{Ways.At_inline, Ways.At_page, Ways.PageSpot, Ways.Spot, Ways.reached, declared.finding.Finding.Finding}
use Rattle.bolt_check.specs.declared.finding.TheConstants.Finding.{FIRST_KEY, INLINE_NUMBER, LARGE_KEY, LEAF_DEPTH, ONE_CHILD, ROOT_VALUE}

-- bbolt writes no value under a longer key
abbrev pub is_too_large : Key → Bool
is_too_large key = nat_lt 32768 (length key)

abbrev pub has_one_child : Node → Bool
has_one_child node = not node.is_leaf && (length node.entries == 1)

abbrev pub is_value : Entry → Bool
is_value e = not e.is_bucket

-- a leaf with an element that isn't a bucket
abbrev pub has_value : Node → Bool
has_value node = node.is_leaf && list_any is_value node.entries

-- a leaf with a value under a key that is too large; the name of a bucket may be
abbrev pub is_large_value : Entry → Bool
is_large_value e = is_value e && is_too_large e.key

abbrev pub has_large_value : Node → Bool
has_large_value node = node.is_leaf && list_any is_large_value node.entries

-- the first of these keys is another than this one, or there is none
abbrev pub begins_otherwise : Key → List Key → Bool
begins_otherwise key [] = true
begins_otherwise key (first ∷ keys) = not (bytes_eq first key)

-- a child of a branch whose first key isn't that of its entry in the branch, which is its lower bound
abbrev pub has_other_first_key : (lower : Option Key) → Node → Bool
has_other_first_key None node = false
has_other_first_key (Some key) node = begins_otherwise key (keys_of node.entries)

-- ---- the depth of a bucket's leaves

abbrev pub first_child : List Entry → Option ℕ
first_child [] = None
first_child (e ∷ entries) = Some e.child

-- the depth of a branch: one more than the depth below its first child
abbrev pub above_first : (ℕ → ℕ) → Option ℕ → ℕ
above_first depth None = 1
above_first depth (Some child) = suc (depth child)

abbrev pub node_depth : (ℕ → ℕ) → Result Node ℕ → ℕ
node_depth depth (Ok node) = if node.is_leaf then 1 else above_first depth (first_child node.entries)
node_depth depth (Err fault) = 1

-- how many pages are on the way from this page to the first leaf below it, both counted, after at most so many branches
unfoldable pub first_leaf_depth : Nodes → (branches : ℕ) → ℕ → ℕ
first_leaf_depth nodes zero number = 1
first_leaf_depth nodes (suc branches) number = node_depth (first_leaf_depth nodes branches) (nodes number)

-- the depth of the first leaf of a bucket with its root page here; in sound trees no leaf is below more than 63 branches
abbrev pub leaf_depth : Nodes → Option Spot → ℕ
leaf_depth nodes (Some (At_page s)) = first_leaf_depth nodes 63 s.number
leaf_depth nodes (Some (At_inline host inner)) = 1
leaf_depth nodes None = 1

-- the way to the root page of the bucket that a page is in: that page has depth 1
abbrev pub bucket_way : List ℕ → (depth : ℕ) → List ℕ
bucket_way way depth = take (length way + 1 - depth) way

-- ---- what is found

-- the finding of a page, if this holds of it
abbrev pub finding_if : Bool → (code page : ℕ) → List Finding
finding_if true code page = finding code page ∷ []
finding_if false code page = []

-- what is found at a page, which may be one of the root bucket; the first leaf of its bucket has this depth
abbrev pub node_findings : (in_root : Bool) → (leaves : ℕ) → PageSpot → Node → List Finding
node_findings in_root leaves s node =
    finding_if (has_one_child node) ONE_CHILD s.number
    ++ (finding_if (in_root && has_value node) ROOT_VALUE s.number
    ++ (finding_if (has_large_value node) LARGE_KEY s.number
    ++ (finding_if (has_other_first_key s.lower node) FIRST_KEY s.number
    ++ finding_if (node.is_leaf && not (s.depth == leaves)) LEAF_DEPTH s.number)))

-- what is found at an inline page, all of whose elements are values, has the number of the page that contains it
abbrev pub inline_findings : (host : ℕ) → InlinePage → List Finding
inline_findings host inner =
    finding_if (list_any is_too_large inner.keys) LARGE_KEY host ++ finding_if (not (inner.number == 0)) INLINE_NUMBER host

abbrev pub seen_findings : (in_root : Bool) → (leaves : ℕ) → PageSpot → Result Node ℕ → List Finding
seen_findings in_root leaves s (Ok node) = node_findings in_root leaves s node
seen_findings in_root leaves s (Err fault) = []

-- what bbolt fails on at the spot that a way leads to
abbrev pub spot_findings : Nodes → (in_root : Bool) → (leaves : ℕ) → Option Spot → List Finding
spot_findings nodes in_root leaves None = []
spot_findings nodes in_root leaves (Some (At_page s)) = seen_findings in_root leaves s (nodes s.number)
spot_findings nodes in_root leaves (Some (At_inline host inner)) = inline_findings host inner

-- a way stays in the root bucket if each of its steps is one of a branch
abbrev pub is_in_root : Nodes → (root : ℕ) → List ℕ → Bool
is_in_root nodes root way = is_some (leads nodes (Some root) way)

-- the depth of the first leaf of the bucket that this page is in
abbrev pub leaves_at : Nodes → (root : ℕ) → List ℕ → Option Spot → ℕ
leaves_at nodes root way (Some (At_page s)) = leaf_depth nodes (reached nodes root (bucket_way way s.depth))
leaves_at nodes root way (Some (At_inline host inner)) = 1
leaves_at nodes root way None = 1

abbrev pub way_findings : Nodes → (root : ℕ) → List ℕ → List Finding
way_findings nodes root way =
    spot_findings nodes (is_in_root nodes root way) (leaves_at nodes root way (reached nodes root way)) (reached nodes root way)

-- All that is found, in the order of the ways.
pub record AreBboltFindings (nodes : Nodes) (root : ℕ) (findings : List Finding) : Type 0 where
  pub tour : List (List ℕ)
  pub whole : IsTour (reached nodes root) tour
  pub all : findings ≡ flat_map (way_findings nodes root) tour

-- The recovered listing, joined with what is found: docs/RECOVERY.md, "The joined listing".
use Rattle.std.specs.Prelude.{◌≡◌, ◌≢◌, ◌==◌, ◌&&◌, ◌⊎◌, ℕ, Bool, true, false, IsTrue, List, [], ◌∷◌, ◌++◌, Contains, None, codes, if◌then◌else◌}
use Rattle.std.specs.Prelude.{is_none, map, not}
use Rattle.std.specs.Ordering.{is_eq}
use Rattle.bolt_format.specs.{Elements.LeafElement, Elements.head_root, Elements.head_sequence, Elements.inline_elements, Pages.page_at}
use Rattle.bolt_format.specs.{declared.meta.Meta.Meta}
use Rattle.bolt_check.specs.Keys.{Key, key_cmp, key_lt, keys_order_fault}
use Rattle.bolt_tree.specs.{Entries.Bucket, Entries.item_of, Listing.Member, Paths.Path, Tree.Tree, Tree.end, Tree.listing_of, Tree.tree_of}
use Rattle.bolt_tree.specs.{Tree.with_bucket, Tree.with_value}
use Rattle.bolt_recover.specs.{Found.AreFound, PageKeys.page_key, Sites.leaves_of, Recovered.IsRecovered}

-- the bucket of what is found
abbrev pub lost_and_found : Key
lost_and_found = codes "lost+found"

-- a path to the bucket of found pages, or into it
abbrev pub is_found_path : Path → Bool
is_found_path [] = false
is_found_path (key ∷ path) = is_eq (key_cmp key lost_and_found)

-- elements as a tree, with what each bucket among them holds
abbrev pub tree_of_elements : (LeafElement → Tree) → List LeafElement → Tree
tree_of_elements inside [] = end
tree_of_elements inside (e ∷ elements) =
    if e.is_bucket then with_bucket e.key (head_sequence e.value) (inside e) (tree_of_elements inside elements)
    else with_value e.key e.value (tree_of_elements inside elements)

-- An inline bucket holds its elements if their keys rise. What a bucket with a root page holds is kept, found or lost by itself.
abbrev pub inside_of : LeafElement → Tree
inside_of e =
    if (head_root e.value == 0) && is_none (keys_order_fault None None None (map (λ (inner : LeafElement). inner.key) (inline_elements e.value)))
    then tree_of_elements (λ inner. end) (inline_elements e.value) else end

-- found pages with their elements, each in a bucket that its number names
abbrev pub found_tree : List (ℕ × List LeafElement) → Tree
found_tree [] = end
found_tree ((n, elements) ∷ found) = with_bucket (page_key n) 0 (tree_of_elements inside_of elements) (found_tree found)

-- a tree with one bucket more, before the first key that is above its own
abbrev pub put_bucket : Key → Tree → Tree → Tree
put_bucket key inside end = with_bucket key 0 inside end
put_bucket key inside (with_value k value after) =
    if key_lt k key then with_value k value (put_bucket key inside after) else with_bucket key 0 inside (with_value k value after)
put_bucket key inside (with_bucket k sequence own after) =
    if key_lt k key then with_bucket k sequence own (put_bucket key inside after) else with_bucket key 0 inside (with_bucket k sequence own after)

-- the recovered listing and, if a page is found, the bucket of what is found
abbrev pub joined_listing : List Member → List (ℕ × List LeafElement) → List Member
joined_listing recovered [] = recovered
joined_listing recovered (page ∷ found) = listing_of (put_bucket lost_and_found (found_tree (page ∷ found)) (tree_of recovered))

-- the joined listing of a file under a meta
pub record IsJoined (file : List ℕ) (meta : Meta) (listing : List Member) : Type 0 where
  pub recovered : List Member
  pub recovers : IsRecovered file meta recovered
  pub found : List ℕ
  pub are_found : AreFound file meta found
  pub joined : listing ≡ joined_listing recovered (map (λ n. (n, leaves_of (page_at file meta n))) found)

-- The recovered root bucket has an entry with the key of that bucket: a member lies at its path, or below it.
abbrev pub HasBucketKey : List Member → Type 0
HasBucketKey listing = (m : Member) × (Contains listing m × (is_found_path m.0 ≡ true))

-- The recovered root bucket has no entry with the key of the bucket of found pages.
abbrev pub LacksBucketKey : List Member → Type 0
LacksBucketKey listing = (m : Member) → Contains listing m → not (is_found_path m.0) ≡ true

-- If a page is found, there is room for its bucket.
abbrev pub LeavesRoom : List ℕ → Meta → Type 0
LeavesRoom file meta =
    (recovered : List Member) (found : List ℕ) → IsRecovered file meta recovered → AreFound file meta found → found ≢ [] → LacksBucketKey recovered

-- an element under a path
abbrev pub IsElement : List LeafElement → Path → Member → Type 0
IsElement elements path m = (e : LeafElement) × (Contains elements e × (m ≡ (path ++ e.key ∷ [], item_of e)))

-- an element of an inline bucket among these
abbrev pub IsInnerMember : List LeafElement → Path → Member → Type 0
IsInnerMember elements path m =
    (e : LeafElement) × (Contains elements e × IsTrue e.is_bucket × (head_root e.value ≡ 0) × IsElement (inline_elements e.value) (path ++ e.key ∷ []) m)

-- What is in that bucket: a bucket for each found page, with its elements, and the elements of the inline buckets among them.
abbrev pub IsFoundMember : List ℕ → Meta → List ℕ → Member → Type 0
IsFoundMember file meta found m =
    (n : ℕ) × (Contains found n
    × ((m ≡ (lost_and_found ∷ page_key n ∷ [], Bucket 0)) ⊎ (IsElement (leaves_of (page_at file meta n)) (lost_and_found ∷ page_key n ∷ []) m
    ⊎ IsInnerMember (leaves_of (page_at file meta n)) (lost_and_found ∷ page_key n ∷ []) m)))

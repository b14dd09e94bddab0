-- The entries of a page as a node.
use Rattle.std.proofs.Common.{◌≡◌, ◌∙◌, ℕ, suc, ◌+◌, ◌≤◌, false, List, Option, None, Some, Ok, Err, refl, length, ap, arith, slice_get, sym}
use Rattle.std.proofs.{lemmas.List.length-map, lemmas.Option.slice_get_past, lemmas.Simd.map-map}
use Rattle.bolt_check.proofs.Words.{At_page, branch_entry, BranchElement, Entry, Key, keys_of, Kind, Meta, node_at, node_of, node_seen, page_at}
use Rattle.bolt_check.proofs.Words.{page_fault, PageView, leaf_entry, LeafElement, PageSpot, shown_node, slice_get-map, step_on, TreePage, upper_from}
use Rattle.bolt_check.proofs.TreePages.{node_is}
use Rattle.bolt_format.specs.{TreePages.branches_on, TreePages.is_tree_kind, TreePages.leaves_on, TreePages.page_keys, TreePages.shown_page}
use Rattle.bolt_format.specs.{declared.page_fault.TheConstants.PageFault.PAGE_KIND}
use Rattle.bolt_format.specs.{declared.tree_page.BranchPage.BranchPage, declared.tree_page.LeafPage.LeafPage}
use Rattle.bolt_format.specs.declared.tree_page.TreePage.TheVariants.{Branch, Leaf}
use Rattle.bolt_format.specs.declared.header.Kind.TheVariants as kind
use Rattle.bolt_check.specs.Ways.{bucket_spots}

-- the node of a page of the file that is a branch or a leaf
pub node_shown : (file : List ℕ) (meta : Meta) (id : ℕ) (view : PageView) (page : TreePage) → page_at file meta id ≡ Some view
    → shown_page page ≡ view
    → node_at file meta id ≡ Ok (shown_node page)
unfolding shown_node
node_shown file meta id view (Branch page) at is =
    node_is file meta id view kind.Branch at (ap (λ (v : PageView). v.kind) (sym is)) ∙ ap (node_of kind.Branch) (sym is)
node_shown file meta id view (Leaf page) at is =
    node_is file meta id view kind.Leaf at (ap (λ (v : PageView). v.kind) (sym is)) ∙ ap (node_of kind.Leaf) (sym is)

other_kind : (k : Kind) (view : PageView) → is_tree_kind k ≡ false → node_of k view ≡ Err PAGE_KIND
other_kind k view not = grind arith

pub node_refused : (file : List ℕ) (meta : Meta) (id : ℕ) (view : PageView) → page_at file meta id ≡ Some view → is_tree_kind view.kind ≡ false
    → node_at file meta id ≡ Err PAGE_KIND
node_refused file meta id view at not = node_is file meta id view view.kind at refl ∙ other_kind view.kind view not

pub node_faulty : (file : List ℕ) (meta : Meta) (id fault : ℕ) → page_at file meta id ≡ None → page_fault file meta id ≡ Some fault
    → node_at file meta id ≡ Err fault
unfolding node_at
node_faulty file meta id fault at is = ap (λ (o : Option PageView). node_seen o (page_fault file meta id)) at ∙ ap (node_seen None) is

-- as many entries as elements, with their keys
pub length_entries : (page : TreePage) → length (shown_node page).entries ≡ length (page_keys page)
unfolding shown_node
length_entries (Branch page) = length-map (branches_on page) branch_entry ∙ sym (length-map (branches_on page) (λ (e : BranchElement). e.key))
length_entries (Leaf page) = length-map (leaves_on page) leaf_entry ∙ sym (length-map (leaves_on page) (λ (e : LeafElement). e.key))

pub keys_entries : (page : TreePage) → keys_of (shown_node page).entries ≡ page_keys page
unfolding shown_node
keys_entries (Branch page) = map-map (λ (e : Entry). e.key) branch_entry (branches_on page)
keys_entries (Leaf page) = map-map (λ (e : Entry). e.key) leaf_entry (leaves_on page)

-- the entry of an element
pub leaf-entry : (page : LeafPage) (i : ℕ) (e : LeafElement) → slice_get (leaves_on page) i ≡ Some e
    → slice_get (shown_node (Leaf page)).entries i ≡ Some (leaf_entry e)
unfolding shown_node
leaf-entry page i e found = grind (arith, slice_get-map)

pub branch-entry : (page : BranchPage) (i : ℕ) (e : BranchElement) → slice_get (branches_on page) i ≡ Some e
    → slice_get (shown_node (Branch page)).entries i ≡ Some (branch_entry e)
unfolding shown_node
branch-entry page i e found = grind (arith, slice_get-map)

-- the upper bound of the child of entry i
pub upper-next : (page : BranchPage) (i : ℕ) (upper : Option Key) (e : BranchElement) → slice_get (branches_on page) (i + 1) ≡ Some e
    → upper_from (slice_get (shown_node (Branch page)).entries (suc i)) upper ≡ Some e.key
unfolding shown_node
upper-next page i upper e found = ap (λ next. upper_from next upper) (branch-entry page (suc i) e (ap (slice_get (branches_on page)) (omega arith) ∙ found))

pub upper-last : (page : BranchPage) (i : ℕ) (upper : Option Key) → length (branches_on page) ≤ i + 1
    → upper_from (slice_get (shown_node (Branch page)).entries (suc i)) upper ≡ upper
unfolding shown_node
upper-last page i upper h = grind (arith, slice_get_past, length-map)

-- where an element leads
pub step-branch : (page : BranchPage) (s : PageSpot) (i : ℕ) (e : Entry) (upper : Option Key)
    → slice_get (shown_node (Branch page)).entries i ≡ Some e
    → upper ≡ upper_from (slice_get (shown_node (Branch page)).entries (suc i)) s.upper
    → step_on (shown_node (Branch page)) s i ≡ Some (At_page (record { number = e.child; depth = s.depth + 1; lower = Some e.key; upper = upper }))
unfolding shown_node
step-branch page s i e upper found bound = grind arith

pub step-leaf : (page : LeafPage) (s : PageSpot) (i : ℕ) (e : Entry) → slice_get (shown_node (Leaf page)).entries i ≡ Some e
    → step_on (shown_node (Leaf page)) s i ≡ bucket_spots s.number e
unfolding shown_node
step-leaf page s i e found = grind arith

pub ruleset entry_rules = (length_entries, leaf-entry, branch-entry, step-leaf, step-branch, upper-next, upper-last)

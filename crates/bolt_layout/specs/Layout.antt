-- The layout of a tree at a page size: its pages, and its bytes: docs/LAYOUT.md, "Numbers" and "Bytes".
use Rattle.std.specs.Prelude.{◌≡◌, ◌≤◌, ℕ, ◌+◌, List, [], ◌∷◌, ◌++◌, length}
use Rattle.bolt_format.specs.declared.header.Kind.TheVariants as kind
use Rattle.bolt_format.specs.declared.meta.Meta.{Meta}
use Rattle.bolt_tree.specs.Tree.{Tree}
use Rattle.bolt_layout.specs.{Items.root_of, Laid.Placed, PageBytes.freelist_page, PageBytes.meta_page, PageBytes.page_bytes, declared.Layout.Layout}

-- the first page after the metas and the freelist
abbrev pub first_page : ℕ
first_page = 3

-- the number of the root page, and the high-water mark after its span
abbrev pub layout_root : (which : Layout) (page_size : ℕ) → Tree → ℕ
layout_root which page_size tree = ((root_of which page_size tree).element first_page).child

abbrev pub layout_high_water : (which : Layout) (page_size : ℕ) → Tree → ℕ
layout_high_water which page_size tree = first_page + (root_of which page_size tree).numbers

-- the greatest number of items that are held at one time, while the pages are written in the order of their numbers
abbrev pub layout_held : (which : Layout) (page_size : ℕ) → Tree → ℕ
layout_held which page_size tree = (root_of which page_size tree).held

-- the pages of all buckets, in the order of their numbers
abbrev pub layout_pages : (which : Layout) (page_size : ℕ) → Tree → List Placed
layout_pages which page_size tree = (root_of which page_size tree).pages first_page

-- a page that isn't a branch of fewer than two elements
abbrev pub HasTwoIfBranch : Placed → Type 0
HasTwoIfBranch page = page.view.kind ≡ kind.Branch → 2 ≤ length page.view.branches

-- what the meta of this transaction says
abbrev pub layout_meta : (which : Layout) (page_size : ℕ) → Tree → (sequence txid : ℕ) → Meta
layout_meta which page_size tree sequence txid = record {
  page_size = page_size;
  root = layout_root which page_size tree;
  root_sequence = sequence;
  freelist = 2;
  high_water = layout_high_water which page_size tree;
  txid = txid;
}

-- pages, one after the other
abbrev pub placed_bytes : (page_size : ℕ) → List Placed → List ℕ
placed_bytes page_size [] = []
placed_bytes page_size (page ∷ pages) = page_bytes page_size page.number page.view ++ placed_bytes page_size pages

abbrev pub file_bytes : (page_size root sequence high_water : ℕ) → List Placed → List ℕ
file_bytes page_size root sequence high_water pages =
    meta_page page_size root sequence high_water 0
    ++ (meta_page page_size root sequence high_water 1
    ++ (freelist_page page_size 2
    ++ placed_bytes page_size pages))

-- the bytes: two metas, a freelist without ids, and the pages
unfoldable pub layout_of : (which : Layout) (page_size : ℕ) → Tree → (sequence : ℕ) → List ℕ
layout_of which page_size tree sequence =
    file_bytes page_size (layout_root which page_size tree) sequence (layout_high_water which page_size tree) (layout_pages which page_size tree)

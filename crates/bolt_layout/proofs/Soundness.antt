-- The layout of a tree is a sound file.
use Rattle.std.proofs.Common.{◌≡◌, ◌∙◌, ℕ, ◌+◌, ◌-◌, ◌*◌, ◌^◌, ◌<◌, ◌≤◌, List, [], ◌∷◌, ◌++◌, length, drop, replicate, Option, Some, refl, sym, ap}
use Rattle.std.proofs.Common.{inl, inr, arith, append_assoc}
use Rattle.bolt_layout.proofs.Words.{AllByRecursion, append-nil, cases_lt, chosen_of, copy_meta, freelist_page, HasSoundTrees, header_bytes, IsActive}
use Rattle.bolt_layout.proofs.Words.{IsMeta, IsPageSize, IsStorable, items_of, Layout, layout_high_water, layout_meta, layout_of, layout_pages}
use Rattle.bolt_layout.proofs.Words.{layout_root, length-append, length-header_bytes, length-meta_bytes, Meta, meta_bytes, meta_page, meta_written}
use Rattle.bolt_layout.proofs.Words.{mul-le-mul_left, node_at, node_of, One, page_fault, PageView, part_next, Placed, placed_bytes, reached, root_of}
use Rattle.bolt_layout.proofs.Words.{root_over, root_spot, size_bounds, Tree, Zero}
use Rattle.bolt_layout.proofs.{SpanLemmas.IsEmptyFreelist, SpanLemmas.IsShown, SpanLemmas.freelist_shown, SpanLemmas.length-filled, Parts.IsPart}
use Rattle.bolt_layout.proofs.{Parts.part_clean}
use Rattle.bolt_layout.proofs.{PageRows.IsInARow, PageRows.IsPageFit, PageRows.length-placed, PageRows.row_shown, LeafPages.IsPage}
use Rattle.bolt_layout.proofs.{LaidPages.AreNodes, LaidPages.limit}
use Rattle.bolt_layout.proofs.TreeItems.{root_page, tree_items, tree_rise, within_none}
use Rattle.bolt_format.specs.{Metas.HasBothMetas, ReadBack.IsMetaFit}
use Rattle.bolt_check.specs.{Nodes.node_seen, Sound.HasRightAccounts, Sound.PassesTests}
use Rattle.bolt_layout.specs.{Copies.HasNoFreePage, Layout.file_bytes}
use Rattle.bolt_format.specs.declared.header.Kind.TheVariants as kind

-- How long the pieces are.
length-meta_page : (page_size root sequence high_water txid : ℕ) → 80 ≤ page_size
    → length (meta_page page_size root sequence high_water txid) ≡ page_size
unfolding meta_page
length-meta_page page_size root sequence high_water txid room = grind (arith, length-meta_bytes, length-filled)

-- a meta page begins with its record
meta_begins : (page_size root sequence high_water txid : ℕ) (rest : List ℕ)
    → (behind : List ℕ) × (meta_page page_size root sequence high_water txid ++ rest
    ≡ meta_bytes txid (copy_meta page_size root sequence high_water txid) ++ behind)
unfolding meta_page
meta_begins page_size root sequence high_water txid rest =
    let bytes : List ℕ = meta_bytes txid (copy_meta page_size root sequence high_water txid) in
    (replicate (page_size - length bytes) 0 ++ rest, append_assoc bytes (replicate (page_size - length bytes) 0) rest)

length-freelist_page : (page_size number : ℕ) → 16 ≤ page_size → length (freelist_page page_size number) ≡ page_size
unfolding freelist_page
length-freelist_page page_size number room =
    let a = length-header_bytes number kind.Freelist 0 0 in length-filled page_size (header_bytes number kind.Freelist 0 0) (omega arith)

-- Where the pieces stand in a file.
pub record IsFile (page_size root sequence high_water : ℕ) (pages : List Placed) (file : List ℕ) : Type 0 where
  pub behind_first : List ℕ
  pub first_bytes : drop 0 file ≡ meta_bytes 0 (copy_meta page_size root sequence high_water 0) ++ behind_first
  pub behind_second : List ℕ
  pub second_bytes : drop page_size file ≡ meta_bytes 1 (copy_meta page_size root sequence high_water 1) ++ behind_second
  pub first : IsMeta file 0 (copy_meta page_size root sequence high_water 0)
  pub second : IsMeta file page_size (copy_meta page_size root sequence high_water 1)
  pub free : drop (2 * page_size) file ≡ freelist_page page_size 2 ++ placed_bytes page_size pages
  pub placed : drop (3 * page_size) file ≡ placed_bytes page_size pages ++ []
  pub long : length file ≡ 3 * page_size + length (placed_bytes page_size pages)

length-file_bytes : (page_size root sequence high_water : ℕ) (pages : List Placed) → IsPageSize page_size
    → length (file_bytes page_size root sequence high_water pages) ≡ 3 * page_size + length (placed_bytes page_size pages)
length-file_bytes page_size root sequence high_water pages size = grind (arith, size_bounds, length-meta_page, length-freelist_page, length-append)

pub pieces_stand : (page_size root sequence high_water : ℕ) (pages : List Placed) → IsPageSize page_size → root < 256 ^ 8 → sequence < 256 ^ 8
    → high_water < 256 ^ 8
    → IsFile page_size root sequence high_water pages (file_bytes page_size root sequence high_water pages)
pieces_stand page_size root sequence high_water pages size r s m =
    let file : List ℕ = file_bytes page_size root sequence high_water pages in
    let bounds = size_bounds page_size size in
    let m0 : List ℕ = meta_page page_size root sequence high_water 0 in
    let m1 : List ℕ = meta_page page_size root sequence high_water 1 in
    let fl : List ℕ = freelist_page page_size 2 in
    let rest : List ℕ = placed_bytes page_size pages in
    let l0 = length-meta_page page_size root sequence high_water 0 (omega arith) in
    let l1 = length-meta_page page_size root sequence high_water 1 (omega arith) in
    let l2 = length-freelist_page page_size 2 (omega arith) in
    let d0 : drop 0 file ≡ m0 ++ (m1 ++ (fl ++ rest)) = refl in
    let d1 : drop page_size file ≡ m1 ++ (fl ++ rest) = part_next file m0 (m1 ++ (fl ++ rest)) 0 page_size d0 (omega arith) in
    let d2 : drop (2 * page_size) file ≡ fl ++ rest = part_next file m1 (fl ++ rest) page_size (2 * page_size) d1 (omega arith) in
    let d3 : drop (3 * page_size) file ≡ rest = part_next file fl rest (2 * page_size) (3 * page_size) d2 (omega arith) in
    let all = length-file_bytes page_size root sequence high_water pages size in
    let (b0, e0) = meta_begins page_size root sequence high_water 0 (m1 ++ (fl ++ rest)) in
    let (b1, e1) = meta_begins page_size root sequence high_water 1 (fl ++ rest) in
    record {
      behind_first = b0;
      first_bytes = d0 ∙ e0;
      behind_second = b1;
      second_bytes = d1 ∙ e1;
      first =
          meta_written file b0 0 0 (copy_meta page_size root sequence high_water 0) (d0 ∙ e0)
          (record { size = size; root = r; sequence = s; freelist = omega arith; high_water = m; txid = omega arith }) (inl refl) (omega arith);
      second =
          meta_written file b1 page_size 1 (copy_meta page_size root sequence high_water 1) (d1 ∙ e1)
          (record { size = size; root = r; sequence = s; freelist = omega arith; high_water = m; txid = omega arith }) (inr refl) (omega arith);
      free = d2;
      placed = d3 ∙ sym (append-nil rest);
      long = all;
    }

both_metas : (page_size root sequence high_water : ℕ) (pages : List Placed) (file : List ℕ) → IsFile page_size root sequence high_water pages file
    → HasBothMetas file
both_metas page_size root sequence high_water pages file is Zero = (copy_meta page_size root sequence high_water 0, is.first)
both_metas page_size root sequence high_water pages file is One =
    (copy_meta page_size root sequence high_water 1, inl (copy_meta page_size root sequence high_water 0, is.first, is.second))

-- what shows a page is a node
node_shown : (file : List ℕ) (meta : Meta) (n : ℕ) (view : PageView) → IsShown file meta n view → node_at file meta n ≡ node_of view.kind view
unfolding node_at
node_shown file meta n view shown = ap (λ (o : Option PageView). node_seen o (page_fault file meta n)) shown.shows

pub nodes_shown : (file : List ℕ) (meta : Meta) (pages : List Placed) → AllByRecursion (λ page. IsShown file meta page.number page.view) pages
    → AreNodes (node_at file meta) pages
nodes_shown file meta [] h = tt
nodes_shown file meta (page ∷ pages) h = (node_shown file meta page.number page.view h.0, nodes_shown file meta pages h.1)

accounts_of : (file : List ℕ) (page_size root sequence high_water txid : ℕ)
    → IsEmptyFreelist file (copy_meta page_size root sequence high_water txid) 2
    → IsPart (node_at file (copy_meta page_size root sequence high_water txid))
    (reached (node_at file (copy_meta page_size root sequence high_water txid)) root) 3 high_water
    → HasRightAccounts file (copy_meta page_size root sequence high_water txid)
accounts_of file page_size root sequence high_water txid free part = grind (arith, cases_lt)

-- a page that is free would be listed
full_of : (file : List ℕ) (page_size root sequence high_water txid : ℕ) → IsEmptyFreelist file (copy_meta page_size root sequence high_water txid) 2
    → HasRightAccounts file (copy_meta page_size root sequence high_water txid) → HasNoFreePage file (copy_meta page_size root sequence high_water txid)
full_of file page_size root sequence high_water txid empty right n free =
    let listed : 1 ≤ 0 = (right.lists [] (ap Some empty.empty)).listed n free in omega arith

-- what the tests of trees are for
abbrev pub PassingIsSound : Type 0
PassingIsSound = (file : List ℕ) (meta : Meta) → PassesTests file meta → HasSoundTrees file meta

-- what is known of the file before anything is read
pub record IsLaidOut (which : Layout) (page_size : ℕ) (tree : Tree) (sequence : ℕ) : Type 0 where
  pub room : layout_high_water which page_size tree ≤ limit
  pub fits : IsMetaFit (copy_meta page_size (layout_root which page_size tree) sequence (layout_high_water which page_size tree) 1)
  pub above : 3 ≤ layout_root which page_size tree
  pub below : layout_root which page_size tree < layout_high_water which page_size tree
  pub row : IsInARow 3 (layout_pages which page_size tree) (layout_high_water which page_size tree)
  pub pages : AllByRecursion (IsPageFit page_size) (layout_pages which page_size tree)
  pub file : IsFile page_size (layout_root which page_size tree) sequence (layout_high_water which page_size tree) (layout_pages which page_size tree)
      (layout_of which page_size tree sequence)
  pub long : length (layout_of which page_size tree sequence) ≡ layout_high_water which page_size tree * page_size
  pub last : (front : List Placed) × (own : Placed) × (layout_pages which page_size tree ≡ front ++ own ∷ []) × (own.number ≡ layout_root which page_size tree)
  pub height : ℕ
  pub low : height ≤ 63
  pub page : IsPage page_size height (root_over which page_size (items_of which page_size tree)) (items_of which page_size tree)

-- the page at the top over the items of a tree
tree_page : (which : Layout) (page_size : ℕ) (tree : Tree) → IsPageSize page_size → IsStorable tree
    → (height : ℕ) × ((root_over which page_size (items_of which page_size tree)).numbers ≤ limit → height ≤ 63)
    × IsPage page_size height (root_over which page_size (items_of which page_size tree)) (items_of which page_size tree)
tree_page which page_size tree size storable =
    let bounds = size_bounds page_size size in
    grind (arith, tree_items, root_page, items_of, tree_rise)

-- it has as many bytes as its pages
pub layout_length : (which : Layout) (page_size : ℕ) (tree : Tree) (sequence : ℕ) → IsPageSize page_size → IsStorable tree
    → length (layout_of which page_size tree sequence) ≡ layout_high_water which page_size tree * page_size
unfolding layout_of root_of
layout_length which page_size tree sequence size storable =
    let (height, low, page) = tree_page which page_size tree size storable in
    let pages : List Placed = layout_pages which page_size tree in
    let high_water : ℕ = layout_high_water which page_size tree in
    let exact = length-placed page_size 3 high_water pages (page.pages.row 3) (page.pages.room 3) in
    let long = length-file_bytes page_size (layout_root which page_size tree) sequence high_water pages size in omega arith

pub laid_out : (which : Layout) (page_size : ℕ) (tree : Tree) (sequence : ℕ) → IsPageSize page_size → IsStorable tree → sequence < 2 ^ 64
    → length (layout_of which page_size tree sequence) < 2 ^ 63 → IsLaidOut which page_size tree sequence
unfolding layout_of root_of
laid_out which page_size tree sequence size storable sized short =
    let exact = layout_length which page_size tree sequence size storable in
    let bounds = size_bounds page_size size in
    let (height, low, page) = tree_page which page_size tree size storable in
    let pages : List Placed = layout_pages which page_size tree in
    let root : ℕ = layout_root which page_size tree in
    let high_water : ℕ = layout_high_water which page_size tree in
    let wide : high_water * 1024 ≤ high_water * page_size = mul-le-mul_left high_water (omega arith) in
    let stand = pieces_stand page_size root sequence high_water pages size (omega arith) (omega arith) (omega arith) in
    grind arith

pub record IsSoundLayout (which : Layout) (page_size : ℕ) (tree : Tree) (sequence : ℕ) : Type 0 where
  pub metas : HasBothMetas (layout_of which page_size tree sequence)
  pub chosen : IsActive (layout_of which page_size tree sequence) One (layout_meta which page_size tree sequence 1)
  pub trees : HasSoundTrees (layout_of which page_size tree sequence) (layout_meta which page_size tree sequence 1)
  pub accounts : HasRightAccounts (layout_of which page_size tree sequence) (layout_meta which page_size tree sequence 1)
  pub full : HasNoFreePage (layout_of which page_size tree sequence) (layout_meta which page_size tree sequence 1)
  pub room : layout_high_water which page_size tree ≤ limit
  pub part : IsPart (node_at (layout_of which page_size tree sequence) (layout_meta which page_size tree sequence 1))
      (reached (node_at (layout_of which page_size tree sequence) (layout_meta which page_size tree sequence 1)) (layout_root which page_size tree)) 3
      (layout_high_water which page_size tree)
  pub shown : AllByRecursion (λ page. IsShown (layout_of which page_size tree sequence) (layout_meta which page_size tree sequence 1) page.number page.view)
      (layout_pages which page_size tree)

pub layout_sound : PassingIsSound → (which : Layout) (page_size : ℕ) (tree : Tree) (sequence : ℕ) → IsPageSize page_size
    → IsLaidOut which page_size tree sequence → IsSoundLayout which page_size tree sequence
unfolding layout_of root_of
layout_sound law which page_size tree sequence size laid =
    let bounds = size_bounds page_size size in
    let items = items_of which page_size tree in
    let pages : List Placed = layout_pages which page_size tree in
    let root : ℕ = layout_root which page_size tree in
    let high_water : ℕ = layout_high_water which page_size tree in
    let meta : Meta = layout_meta which page_size tree sequence 1 in
    let file : List ℕ = file_bytes page_size root sequence high_water pages in
    let stand = laid.file in
    let room = laid.room in
    let below = laid.below in
    let shown = row_shown file meta 3 high_water pages [] laid.row laid.pages stand.placed (omega arith) (omega arith) (omega arith) in
    let nodes = nodes_shown file meta pages shown in
    let part =
    laid.page.part (node_at file meta) 3 (root_spot root) refl (omega arith) (omega arith) nodes (let deep = laid.low in omega arith) (within_none items) in
    let free =
    freelist_shown file meta 2 (placed_bytes page_size pages) stand.free
    (record { number = omega arith; further = omega arith; below = omega arith; within = omega arith }) (omega arith) in
    let right = accounts_of file page_size root sequence high_water 1 free part in
    record {
      metas = both_metas page_size root sequence high_water pages file stand;
      chosen =
          chosen_of file page_size (copy_meta page_size root sequence high_water 0) (copy_meta page_size root sequence high_water 1) stand.first
          stand.second refl (omega arith);
      trees = law file meta (part_clean (node_at file meta) root 3 high_water part (omega arith));
      accounts = right;
      full = full_of file page_size root sequence high_water 1 free right;
      room = room;
      part = part;
      shown = shown;
    }

-- Pages in a row: each begins where the span of the one before it ends. In the file each shows what was written.
use Rattle.std.proofs.Common.{◌≡◌, ◌∙◌, ◌⊎◌, ℕ, ◌+◌, ◌-◌, ◌*◌, ◌^◌, ◌<◌, ◌≤◌, List, [], ◌∷◌, ◌++◌, length, drop, refl, sym, ap, subst, arith}
use Rattle.std.proofs.Common.{append_assoc}
use Rattle.std.proofs.Math.Nat.{div-le_self}
use Rattle.bolt_layout.proofs.Words.{AllByRecursion, branch_bytes, branch_data, branch_page_view, BranchElement, header_bytes, Kind, leaf_bytes}
use Rattle.bolt_layout.proofs.Words.{leaf_data, leaf_page_view, length-append, length-header_bytes, Meta, overflow_of, page_bytes, PageView}
use Rattle.bolt_layout.proofs.Words.{part_next, part_within, Placed, placed_bytes, value_fault}
use Rattle.bolt_layout.proofs.{LeafLemmas.IsLeafFit, BranchLemmas.IsBranchFit}
use Rattle.bolt_layout.proofs.SpanLemmas.{IsShown, branch_shown, leaf_shown, length-branch_bytes, length-filled, length-leaf_bytes}
use Rattle.bolt_layout.specs.PageBytes.{content_bytes}

-- Room on a page: the least overflow.
pub overflow_room : (page_size size : ℕ) → 0 < page_size → 0 < size → size ≤ (1 + overflow_of page_size size) * page_size
unfolding overflow_of
overflow_room page_size size some any = omega arith

pub overflow_small : (page_size size : ℕ) → overflow_of page_size size ≤ size
unfolding overflow_of
overflow_small page_size size = let d = div-le_self (size - 1) page_size in omega arith

-- What a page needs to be read back, apart from its place.
pub record IsPageOf {E : Type 0} (show : ℕ → List E → PageView) (text : List E → List ℕ) (IsFit : E → Type 0) (page_size : ℕ) (view : PageView) : Type 0 where
  pub es : List E
  pub further : ℕ
  pub is : view ≡ show further es
  pub few : length es < 256 ^ 2
  pub room : 16 + (16 * length es + length (text es)) ≤ (1 + further) * page_size
  pub small : 16 * length es + length (text es) < 0x100000000
  pub narrow : further < 256 ^ 4
  pub fits : AllByRecursion IsFit es

abbrev pub IsLeafPage : ℕ → PageView → Type 0
IsLeafPage page_size view = IsPageOf leaf_page_view leaf_data (IsLeafFit value_fault) page_size view

abbrev pub IsBranchPage : ℕ → PageView → Type 0
IsBranchPage page_size view = IsPageOf branch_page_view branch_data IsBranchFit page_size view

abbrev pub IsPageFit : ℕ → Placed → Type 0
IsPageFit page_size page = IsLeafPage page_size page.view ⊎ IsBranchPage page_size page.view

-- what holds of a leaf page and of a branch page
by_kind : (page_size : ℕ) (page : Placed) (P : PageView → Type 0)
    → ((leaf : IsLeafPage page_size page.view) → P (leaf_page_view leaf.further leaf.es))
    → ((branch : IsBranchPage page_size page.view) → P (branch_page_view branch.further branch.es)) → IsPageFit page_size page → P page.view
by_kind page_size page P of_leaf of_branch is = grind arith

-- A page has room for what stands on it,
abbrev pub HasRoom : ℕ → Placed → Type 0
HasRoom page_size page = length (content_bytes page.view.kind page.number page.view) ≤ (1 + page.view.overflow) * page_size

pub branch_room : (page_size number further : ℕ) (es : List BranchElement)
    → 16 + (16 * length es + length (branch_data es)) ≤ (1 + further) * page_size
    → HasRoom page_size (record { number = number; view = branch_page_view further es })
branch_room page_size number further es room = grind (arith, length-header_bytes, length-branch_bytes, length-append)

fit_room : (page_size : ℕ) (page : Placed) → IsPageFit page_size page → HasRoom page_size page
fit_room page_size page = grind (arith, branch_room, length-header_bytes, length-leaf_bytes, length-append)

-- and so it takes as many bytes as its span.
length-page : (page_size : ℕ) (page : Placed) → HasRoom page_size page
    → length (page_bytes page_size page.number page.view) ≡ (1 + page.view.overflow) * page_size
unfolding page_bytes
length-page page_size page room = length-filled ((1 + page.view.overflow) * page_size) (content_bytes page.view.kind page.number page.view) room

page_shown : (file : List ℕ) (meta : Meta) (page : Placed) (rest : List ℕ) → IsPageFit meta.page_size page → page.number < 256 ^ 8
    → page.number * meta.page_size ≤ length file
    → drop (page.number * meta.page_size) file ≡ page_bytes meta.page_size page.number page.view ++ rest → page.number + page.view.overflow < meta.high_water
    → IsShown file meta page.number page.view
page_shown file meta page rest fit number within =
    by_kind meta.page_size page
    (λ view. drop (page.number * meta.page_size) file ≡ page_bytes meta.page_size page.number view ++ rest → page.number + view.overflow < meta.high_water
    → IsShown file meta page.number view)
    (λ leaf h below.
    leaf_shown file meta page.number leaf.further leaf.es rest h (record { number = number; further = leaf.narrow; below = below; within = within })
    leaf.few leaf.room leaf.small leaf.fits)
    (λ branch h below.
    branch_shown file meta page.number branch.further branch.es rest h (record { number = number; further = branch.narrow; below = below; within = within })
    branch.few branch.room branch.small branch.fits)
    fit

abbrev pub IsInARow : ℕ → List Placed → ℕ → Type 0
IsInARow from [] to = from ≡ to
IsInARow from (page ∷ pages) to = (page.number ≡ from) × IsInARow (from + (1 + page.view.overflow)) pages to

pub row_append : (from mid to : ℕ) (xs ys : List Placed) → IsInARow from xs mid → IsInARow mid ys to → IsInARow from (xs ++ ys) to
row_append from mid to [] ys h k = subst (λ (n : ℕ). IsInARow n ys to) (sym h) k
row_append from mid to (x ∷ xs) ys h k = (h.0, row_append (from + (1 + x.view.overflow)) mid to xs ys h.1 k)

row_order : (from to : ℕ) (pages : List Placed) → IsInARow from pages to → from ≤ to
row_order from to [] h = omega arith
row_order from to (page ∷ pages) h = let r = row_order (from + (1 + page.view.overflow)) to pages h.1 in omega arith

-- the pages of a row, written one after another, show what was written
pub row_shown : (file : List ℕ) (meta : Meta) (from to : ℕ) (pages : List Placed) (rest : List ℕ) → IsInARow from pages to
    → AllByRecursion (IsPageFit meta.page_size) pages
    → drop (from * meta.page_size) file ≡ placed_bytes meta.page_size pages ++ rest → from * meta.page_size ≤ length file
    → to ≤ meta.high_water → meta.high_water < 256 ^ 8 → AllByRecursion (λ page. IsShown file meta page.number page.view) pages
row_shown file meta from to [] rest row fits h within below small = tt
row_shown file meta from to (page ∷ pages) rest row fits h within below small =
    let size : ℕ = meta.page_size in
    let number : page.number ≡ from = row.0 in
    let place : page.number * size ≡ from * size = ap (λ (n : ℕ). n * size) number in
    let h2 : drop (from * size) file ≡ page_bytes size page.number page.view ++ (placed_bytes size pages ++ rest) =
    h ∙ append_assoc (page_bytes size page.number page.view) (placed_bytes size pages) rest in
    let long = length-page size page (fit_room size page fits.0) in
    let here : drop (page.number * size) file ≡ page_bytes size page.number page.view ++ (placed_bytes size pages ++ rest) =
    ap (λ (n : ℕ). drop n file) place ∙ h2 in
    let w = part_within file (page_bytes size page.number page.view) (placed_bytes size pages ++ rest) (from * size) h2 within in
    let behind : drop ((from + (1 + page.view.overflow)) * size) file ≡ placed_bytes size pages ++ rest =
    part_next file (page_bytes size page.number page.view) (placed_bytes size pages ++ rest) (from * size) _ h2 (omega arith) in
    let order = row_order (from + (1 + page.view.overflow)) to pages row.1 in (
      page_shown file meta page (placed_bytes size pages ++ rest) fits.0 (omega arith) (omega arith) here (omega arith),
      row_shown file meta (from + (1 + page.view.overflow)) to pages rest row.1 fits.1 behind (omega arith) below small,
    )

-- and take as many bytes as their spans
pub length-placed : (page_size from to : ℕ) (pages : List Placed) → IsInARow from pages to → AllByRecursion (HasRoom page_size) pages
    → length (placed_bytes page_size pages) + from * page_size ≡ to * page_size
length-placed page_size from to [] row fits = let e = ap (λ (n : ℕ). n * page_size) row in omega arith
length-placed page_size from to (page ∷ pages) row fits =
    grind (arith, length-page, length-append, length-placed page_size (from + (1 + page.view.overflow)) to pages row.1 fits.1)

-- The last page of a row ends where the row does,
pub row_last : (from to : ℕ) (front : List Placed) (own : Placed) → IsInARow from (front ++ own ∷ []) to → own.number + (1 + own.view.overflow) ≡ to
row_last from to [] own row = let a = row.0 in let b = row.1 in omega arith
row_last from to (page ∷ front) own row = row_last (from + (1 + page.view.overflow)) to front own row.1

-- and is the last that is written.
pub last_written : (file : List ℕ) (page_size from to : ℕ) (front : List Placed) (own : Placed) (rest : List ℕ) → IsInARow from (front ++ own ∷ []) to
    → AllByRecursion (IsPageFit page_size) (front ++ own ∷ []) → drop (from * page_size) file ≡ placed_bytes page_size (front ++ own ∷ []) ++ rest
    → IsPageFit page_size own × (drop (own.number * page_size) file ≡ page_bytes page_size own.number own.view ++ rest)
last_written file page_size from to [] own rest row fits h = grind (arith, append_assoc)
last_written file page_size from to (page ∷ front) own rest row fits h =
    let long = length-page page_size page (fit_room page_size page fits.0) in
    let h2 = h ∙ append_assoc (page_bytes page_size page.number page.view) (placed_bytes page_size (front ++ own ∷ [])) rest in
    let behind =
    part_next file (page_bytes page_size page.number page.view) (placed_bytes page_size (front ++ own ∷ []) ++ rest) (from * page_size)
    ((from + (1 + page.view.overflow)) * page_size) h2 (omega arith) in
    last_written file page_size (from + (1 + page.view.overflow)) to front own rest row.1 fits.1 behind

-- A page begins with its header.
pub record IsHeaded (bytes : List ℕ) (page : Placed) : Type 0 where
  pub is : Kind
  pub n : ℕ
  pub behind : List ℕ
  pub begins : bytes ≡ header_bytes page.number is n page.view.overflow ++ behind
  pub few : n < 256 ^ 2
  pub narrow : page.view.overflow < 256 ^ 4

view_headed : (page_size number : ℕ) (view : PageView) (own rest : List ℕ)
    → content_bytes view.kind number view ≡ header_bytes number view.kind view.count view.overflow ++ own → view.count < 256 ^ 2
    → view.overflow < 256 ^ 4
    → IsHeaded (page_bytes page_size number view ++ rest) (record { number = number; view = view })
unfolding page_bytes
view_headed page_size number view own rest same few narrow = grind (arith, append_assoc)

pub page_headed : (page_size : ℕ) (page : Placed) (rest : List ℕ) → IsPageFit page_size page
    → IsHeaded (page_bytes page_size page.number page.view ++ rest) page
page_headed page_size page rest =
    by_kind page_size page (λ view. IsHeaded (page_bytes page_size page.number view ++ rest) (record { number = page.number; view = view }))
    (λ leaf. view_headed page_size page.number (leaf_page_view leaf.further leaf.es) (leaf_bytes leaf.es) rest refl leaf.few leaf.narrow)
    (λ branch. view_headed page_size page.number (branch_page_view branch.further branch.es) (branch_bytes branch.es) rest refl branch.few branch.narrow)

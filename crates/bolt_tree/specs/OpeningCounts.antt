-- How many pages of a bucket lie between two of its entries: addresses in the order of ways, and their numbers: docs/LISTING.md, "Openings".
use Rattle.std.specs.Prelude.{◌≡◌, ◌<◌, ◌⊎◌, ◌↔◌, ℕ, zero, suc, ◌+◌, ◌-◌, List, [], ◌∷◌, IsTrue, IsFalse, length, Option, Some, None, Contains}
use Rattle.std.specs.Prelude.{slice_get}
use Rattle.std.specs.List.{AllPairs}
use Rattle.bolt_format.specs.{Elements.BranchElement, Elements.LeafElement, Pages.PageView, Pages.page_at, declared.meta.Meta.Meta}
use Rattle.bolt_format.specs.declared.header.Kind.TheVariants as kind
use Rattle.bolt_check.specs.{Keys.Key, Keys.key_lt, Nodes.node_at, Shape.leads, Ways.Before}
use Rattle.bolt_tree.specs.{Entries.Inline_page, Entries.Root_page, Entries.ShowsEntry, Entries.Start, Places.least_from}

-- an address of the bucket: it leads to a page; an inline bucket has the empty address alone
abbrev pub IsAddress : List ℕ → Meta → Start → List ℕ → Type 0
IsAddress file meta (Root_page root) address = (n : ℕ) × (leads (node_at file meta) (Some root) address ≡ Some n)
IsAddress file meta (Inline_page elements) address = address ≡ []

-- the leaf with this entry lies at this address
abbrev pub IsHome : List ℕ → Meta → Start → LeafElement → List ℕ → Type 0
IsHome file meta (Root_page root) e address = (n : ℕ) × (leads (node_at file meta) (Some root) address ≡ Some n) × ShowsEntry file meta n e
IsHome file meta (Inline_page elements) e address = (address ≡ []) × Contains elements e

-- There are n addresses of a kind: a rising list of n members has exactly these.
pub record HasCount (Is : List ℕ → Type 0) (n : ℕ) : Type 0 where
  pub members : List (List ℕ)
  pub rises : AllPairs Before members
  pub exact : (a : List ℕ) → Contains members a ↔ Is a
  pub number : length members ≡ n

-- an address at or before this one, and one after it
abbrev pub IsUpTo : List ℕ → Meta → Start → List ℕ → List ℕ → Type 0
IsUpTo file meta start last address = IsAddress file meta start address × ((address ≡ last) ⊎ Before address last)

abbrev pub IsAfter : List ℕ → Meta → Start → List ℕ → List ℕ → Type 0
IsAfter file meta start first address = IsAddress file meta start address × Before first address

-- the number of pages of the bucket
abbrev pub IsAllPages : List ℕ → Meta → Start → ℕ → Type 0
IsAllPages file meta start n = HasCount (IsAddress file meta start) n

-- the number of pages at or before that of this entry, or of all pages if no entry is left
abbrev pub IsPagesUpTo : List ℕ → Meta → Start → Option LeafElement → ℕ → Type 0
IsPagesUpTo file meta start (Some e) n = (home : List ℕ) × IsHome file meta start e home × HasCount (IsUpTo file meta start home) n
IsPagesUpTo file meta start None n = IsAllPages file meta start n

-- The number of pages from that of the preceding entry, which isn't counted, to that of entry i or, if i is the number of entries, to the
-- bucket's end.
abbrev pub IsGap : List ℕ → Meta → Start → List LeafElement → ℕ → ℕ → Type 0
IsGap file meta start entries zero g = IsPagesUpTo file meta start (slice_get entries 0) g
IsGap file meta start entries (suc i) g = (here : ℕ) × (before : ℕ) × IsPagesUpTo file meta start (slice_get entries (suc i)) here
    × IsPagesUpTo file meta start (slice_get entries i) before × (g ≡ here - before)

-- of a branch, the greatest element with a key at or below this one, or element 0 if there is none
abbrev pub IsNearest : List BranchElement → Key → ℕ → Type 0
IsNearest elements key i =
    ((e : BranchElement) × (slice_get elements i ≡ Some e) × IsFalse (key_lt key e.key)
    × ((j : ℕ) (f : BranchElement) → i < j → slice_get elements j ≡ Some f → IsTrue (key_lt key f.key)))
    ⊎ ((i ≡ 0) × ((j : ℕ) (f : BranchElement) → slice_get elements j ≡ Some f → IsTrue (key_lt key f.key)))

-- the address of a leaf, each of whose steps goes to the nearest element
abbrev pub IsNearFrom : List ℕ → Meta → ℕ → Key → List ℕ → Type 0
IsNearFrom file meta number key [] = (view : PageView) × (page_at file meta number ≡ Some view) × (view.kind ≡ kind.Leaf)
IsNearFrom file meta number key (i ∷ address) = (view : PageView) × (e : BranchElement) × (page_at file meta number ≡ Some view) × (view.kind ≡ kind.Branch)
    × IsNearest view.branches key i × (slice_get view.branches i ≡ Some e) × IsNearFrom file meta e.child key address

abbrev pub IsNear : List ℕ → Meta → Start → Key → List ℕ → Type 0
IsNear file meta (Root_page root) key address = IsNearFrom file meta root key address
IsNear file meta (Inline_page elements) key address = address ≡ []

-- an address after the one near a key, and at or before that of the page of an entry, or any after it if no entry is left
abbrev pub IsSeekPage : List ℕ → Meta → Start → List ℕ → Option LeafElement → List ℕ → Type 0
IsSeekPage file meta start near (Some e) address = IsAfter file meta start near address
    × ((home : List ℕ) × IsHome file meta start e home × ((address ≡ home) ⊎ Before address home))
IsSeekPage file meta start near None address = IsAfter file meta start near address

-- What a seek of this key opens: the pages on the way down to the nearest leaf, and those after it up to the page of the entry
-- that it comes to, or to the bucket's end.
pub record IsSeekCount (file : List ℕ) (meta : Meta) (start : Start) (entries : List LeafElement) (key : Key) (n : ℕ) : Type 0 where
  pub near : List ℕ
  pub down : IsNear file meta start key near
  pub further : ℕ
  pub counted : HasCount (IsSeekPage file meta start near (slice_get entries (least_from key entries))) further
  pub sum : n ≡ 1 + length near + further

abbrev pub sum_to : (ℕ → ℕ) → ℕ → ℕ
sum_to f zero = 0
sum_to f (suc n) = sum_to f n + f n

-- there is a gap before each entry and before the bucket's end, and the gaps cover all pages
abbrev pub GapsCoverAll : List ℕ → Meta → Start → List LeafElement → Type 0
GapsCoverAll file meta start entries = (gap : ℕ → ℕ) × (all : ℕ) × ((i : ℕ) → IsGap file meta start entries i (gap i)) × IsAllPages file meta start all
    × (sum_to gap (suc (length entries)) ≡ all)

-- What is still to be read of a bucket, and sums over it.
use Rattle.std.specs.Prelude.{◌==◌, ℕ, Bool, true, false, List, [], ◌∷◌, map, sum_by, if◌then◌else◌}
use Rattle.bolt_lemmas.specs.Lists.{Has}
use Rattle.bolt_format.specs.{Elements.LeafElement, Elements.head_root, Pages.page_at, declared.meta.Meta.Meta}
use Rattle.bolt_check.specs.{CheckedFiles.bytes_of, CheckedFiles.meta_of, Nodes.Entry, Nodes.Node, Nodes.node_at}
use Rattle.bolt_check.specs.{Subtrees.Enough, Subtrees.kid_pages, Subtrees.weight, declared.checked.Checked.Checked}
use Rattle.bolt_stats.specs.{Figures.Figure, Figures.page_figure, declared.bucket_stats.UnreadBucket.UnreadBucket}
use Rattle.bolt_stats.specs.{declared.bucket_stats.UnreadPage.UnreadPage}

-- the pages and the buckets of the code, by their numbers
abbrev pub unread_numbers : List UnreadPage → List ℕ
unread_numbers pages = map (λ (p : UnreadPage). p.number) pages

abbrev pub roots_of : List UnreadBucket → List ℕ
roots_of buckets = map (λ (b : UnreadBucket). b.root) buckets

abbrev pub unread_page : ℕ → ℕ → UnreadPage
unread_page depth n = record { number = n; depth = depth }

abbrev pub unread_bucket : ℕ → ℕ → UnreadBucket
unread_bucket above n = record { root = n; above = above }

-- the pages `ns` and all pages below them are good
abbrev pub AreGood : List ℕ → Meta → List ℕ → Type 0
AreGood file meta ns = (m : ℕ) → Has ns m → Enough (node_at file meta) meta.high_water m

-- a sum over the pages `ns` and all pages below them
abbrev pub total_of : List ℕ → Meta → (ℕ → ℕ) → List ℕ → ℕ
total_of file meta own ns = sum_by (weight (node_at file meta) own meta.high_water) ns

-- a figure of one page
abbrev pub own_figure : List ℕ → Meta → Figure → ℕ → ℕ
own_figure file meta f n = page_figure f meta.page_size (page_at file meta n)

-- counts pages
abbrev pub one : ℕ → ℕ
one n = 1

-- the root page of the bucket that an element of a leaf is, unless it is inline
abbrev pub root_page_of : LeafElement → List ℕ
root_page_of e = if e.is_bucket then (if head_root e.value == 0 then [] else head_root e.value ∷ []) else []

-- the children of a branch, and the root pages of the buckets of a leaf
abbrev pub pages_in_bucket : Bool → List Entry → List ℕ
pages_in_bucket false entries = kid_pages false entries
pages_in_bucket true entries = []

abbrev pub inner_pages : Node → List ℕ
inner_pages node = pages_in_bucket node.is_leaf node.entries

abbrev pub roots_in_bucket : Bool → List Entry → List ℕ
roots_in_bucket false entries = []
roots_in_bucket true entries = kid_pages true entries

abbrev pub inner_roots : Node → List ℕ
inner_roots node = roots_in_bucket node.is_leaf node.entries

-- ---- of a file that passed its tests

-- a figure of the pages `ns` and of all pages below them
abbrev pub figure_in : Checked → Figure → List ℕ → ℕ
figure_in checked f ns = total_of (bytes_of checked) (meta_of checked) (own_figure (bytes_of checked) (meta_of checked) f) ns

-- how many these are
abbrev pub pages_below : Checked → List ℕ → ℕ
pages_below checked ns = total_of (bytes_of checked) (meta_of checked) one ns

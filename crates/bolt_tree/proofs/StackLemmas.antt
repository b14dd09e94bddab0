-- What a push does to a stack, and the root page of a bucket, alone on a stack.
use Rattle.std.proofs.Common.{◌≡◌, ℕ, suc, ◌+◌, ◌-◌, ◌≤◌, List, [], ◌∷◌, ◌++◌, Some, slice_get, length, drop, take, sym, ap, ◌∙◌, arith, append_assoc}
use Rattle.std.proofs.Common.{append-nil}
use Rattle.bolt_tree.proofs.Words.{BranchElement, BucketView, Checked, Content, Contents, Frame, HasSoundTrees, HasStack, HasStart, IsGoodContent}
use Rattle.bolt_tree.proofs.Words.{IsOnWay, IsSoundBucket, IsStack, IsStart, Of_branch, Root_page, Start, TourPage, address_on, ahead_of, all_under}
use Rattle.bolt_tree.proofs.Words.{bucket_in, bytes_of, checked_trees, content_at_start, content_length, contents_in, elements_in, tour_elements}
use Rattle.bolt_tree.proofs.Words.{here_under, passed_of, passed_under, meta_of, none-some, on_child, tour_pages_in, props, later_of, later_under}
use Rattle.bolt_tree.proofs.Words.{root_content, shallow, tour, ∥∥₁_elim, ∥∥₁_map, ∥∥₁_prop}
use Rattle.bolt_tree.proofs.{TourLemmas.not_deepest, WayPages.branch_page}

-- what lies under the elements of a branch, cut at one
pub under_cut : (f : ℕ → ℕ → List TourPage) (i k j : ℕ) (elements : List BranchElement) (e : BranchElement) → slice_get elements k ≡ Some e
    → j ≡ i + k
    → all_under f i elements ≡ all_under f i (take k elements) ++ (f j e.child ++ all_under f (suc j) (drop (suc k) elements))
under_cut f i (suc k) j (x ∷ elements) e g s =
    let next : j ≡ suc i + k = omega arith in
    ap (λ (vs : List TourPage). f i x.child ++ vs) (under_cut f (suc i) k j elements e g next)
    ∙ sym (append_assoc (f i x.child) (all_under f (suc i) (take k elements)) (f j e.child ++ all_under f (suc j) (drop (suc k) elements)))
under_cut f i k j elements e g s = grind (arith, none-some)

-- what lies to the right of what is taken, from the next element on
pub under_next : (f : ℕ → ℕ → List TourPage) (i k : ℕ) (elements : List BranchElement) (e : BranchElement) → slice_get elements k ≡ Some e
    → all_under f i (drop k elements) ≡ f i e.child ++ all_under f (suc i) (drop (suc k) elements)
under_next f i (suc k) (x ∷ elements) e g = under_next f i k elements e g
under_next f i k elements e g = grind (arith, none-some)

cut_between : (l r whole part : List TourPage) (v : TourPage) (a b c : List TourPage) → whole ≡ l ++ (part ++ r) → part ≡ v ∷ (a ++ (b ++ c))
    → whole ≡ (l ++ v ∷ a) ++ (b ++ (c ++ r))
cut_between l r whole part v a b c p q = grind (arith, append_assoc)

abbrev under : Contents → ℕ → List ℕ → ℕ → ℕ → List TourPage
under contents n address i child = tour contents n (address ++ i ∷ []) (contents child)

-- the tour of a branch, cut at an element
tour_cut : (contents : Contents) (m n k : ℕ) (address : List ℕ) (elements : List BranchElement) (e : BranchElement) → m ≡ suc n
    → slice_get elements k ≡ Some e
    → tour contents m address (Of_branch elements) ≡ record { address = address; entries = [] } ∷ (all_under (under contents n address) 0 (take k elements)
    ++ (under contents n address k e.child ++ all_under (under contents n address) (suc k) (drop (suc k) elements)))
tour_cut contents m n k address elements e same g =
    ap (λ (x : ℕ). tour contents x address (Of_branch elements)) same
    ∙ ap (λ (vs : List TourPage). record { address = address; entries = [] } ∷ vs)
    (under_cut (λ i child. tour contents n (address ++ i ∷ []) (contents child)) 0 k k elements e g (omega arith))

module _ (bucket : BucketView) (trees : HasSoundTrees bucket.file bucket.meta) where
  pub good_content : (number depth : ℕ) → IsOnWay bucket.file bucket.meta number depth → IsGoodContent bucket depth (contents_in bucket number)
  good_content number depth on = grind arith

  -- a branch that is the page of a way: where its elements lead
  branch_child : (number depth k : ℕ) (elements : List BranchElement) (e : BranchElement) → IsOnWay bucket.file bucket.meta number depth
      → contents_in bucket number ≡ Of_branch elements
      → slice_get elements k ≡ Some e → IsOnWay bucket.file bucket.meta e.child (suc depth)
  branch_child number depth k elements e on is g =
      let page = branch_page bucket.file bucket.meta trees number depth elements on is in
      on_child bucket.file bucket.meta number depth k page.view e on page.node (ap (λ (es : List BranchElement). slice_get es k) page.branches ∙ g)

  -- it has room for a page above it
  pub room_above : (number depth : ℕ) (elements : List BranchElement) → IsOnWay bucket.file bucket.meta number depth
      → contents_in bucket number ≡ Of_branch elements → suc depth ≤ 64
  room_above number depth elements on is =
      let page = branch_page bucket.file bucket.meta trees number depth elements on is in
      not_deepest bucket.file bucket.meta trees number depth page.view on page.node

  -- the way to the page under an element of the branch on top
  pub way_under : (elements : List BranchElement) (t k : ℕ) (e : BranchElement) (below : List Frame)
      → IsStack bucket (record { content = Of_branch elements; taken = t } ∷ below)
      → slice_get elements k ≡ Some e → IsOnWay bucket.file bucket.meta e.child (suc (suc (length below)))
  way_under elements t k e below stack g = branch_child stack.0.good.0 (suc (length below)) k elements e stack.0.good.1 stack.0.good.2 g

  -- the page under the last element that is taken, put on the stack
  pub push_child : (elements : List BranchElement) (t : ℕ) (e : BranchElement) (below : List Frame)
      → IsStack bucket (record { content = Of_branch elements; taken = t + 1 } ∷ below)
      → slice_get elements t ≡ Some e
      → IsStack bucket (record { content = contents_in bucket e.child; taken = 0 } ∷ record { content = Of_branch elements; taken = t + 1 } ∷ below)
  push_child elements t e below stack g =
      let over = stack.0 in
      let contents = contents_in bucket in
      let on = way_under elements (t + 1) t e below stack g in
      let deep = shallow bucket.file bucket.meta trees e.child (suc (suc (length below))) on in
      let fuel : 63 - length below ≡ suc (62 - length below) = omega (arith, deep) in
      let fuel2 : 62 - length below ≡ 63 - suc (length below) = omega (arith, deep) in
      let back : t ≡ (t + 1) - 1 = omega arith in
      let next : suc t ≡ t + 1 = omega arith in
      let address = address_on below in
      let cut = tour_cut contents (63 - length below) (62 - length below) t address elements e fuel g in
      let placed : tour_pages_in bucket ≡ (passed_of contents below ++ passed_under contents (length below) address (Of_branch elements) t)
      ++ (tour contents (62 - length below) (address ++ t ∷ []) (contents e.child) ++ (later_under contents (length below) address (Of_branch elements) (suc t) ++ later_of contents below)) =
      cut_between (passed_of contents below) (later_of contents below) (tour_pages_in bucket)
      (tour contents (63 - length below) address (Of_branch elements)) (record { address = address; entries = [] })
      (all_under (under contents (62 - length below) address) 0 (take t elements)) (under contents (62 - length below) address t e.child)
      (all_under (under contents (62 - length below) address) (suc t) (drop (suc t) elements)) over.placed cut in (
        record {
          shallow = deep;
          good = good_content e.child (suc (suc (length below))) on;
          bound = omega arith;
          fits = omega arith;
          branch = tt;
          placed = rw (← back, ← next, ← fuel2) placed;
        },
        stack,
      )

-- the same for a stack of a sound bucket
module _ (bucket : BucketView) where
  pub stack_short : (f : Frame) (below : List Frame) → HasStack bucket (f ∷ below) → suc (length below) ≤ 64
  stack_short f below stack = ∥∥₁_elim stack (Prim.hlevel props) (λ s. s.1.0.shallow)

  -- how much of the page on top is taken is no matter of where it stands
  pub retaken : (content : Content) (t u : ℕ) (below : List Frame) → HasStack bucket (record { content = content; taken = t } ∷ below)
      → u ≤ suc (content_length content) → u ≤ 65536
      → HasStack bucket (record { content = content; taken = u } ∷ below)
  retaken content t u below stack h k = ∥∥₁_map stack (λ s.
      (s.0, (record { shallow = s.1.0.shallow; good = s.1.0.good; bound = h; fits = k; branch = s.1.0.branch; placed = s.1.0.placed }, s.1.1)))

  pub taken_bound : (f : Frame) (below : List Frame) → HasStack bucket (f ∷ below) → f.taken ≤ suc (content_length f.content)
  taken_bound f below stack = ∥∥₁_elim stack (Prim.hlevel props) (λ s. s.1.0.bound)

  pub taken_fits : (f : Frame) (below : List Frame) → HasStack bucket (f ∷ below) → f.taken ≤ 65536
  taken_fits f below stack = ∥∥₁_elim stack (Prim.hlevel props) (λ s. s.1.0.fits)

  pub popped : (f : Frame) (below : List Frame) → HasStack bucket (f ∷ below) → HasStack bucket below
  popped f below stack = ∥∥₁_map stack (λ s. (s.0, s.1.1))

  pub child_way : (elements : List BranchElement) (t k : ℕ) (e : BranchElement) (below : List Frame)
      → HasStack bucket (record { content = Of_branch elements; taken = t } ∷ below)
      → slice_get elements k ≡ Some e → ∥ ((depth : ℕ) × IsOnWay bucket.file bucket.meta e.child depth) ∥₁
  child_way elements t k e below stack g = ∥∥₁_map stack (λ s. (suc (suc (length below)), way_under bucket s.0.trees elements t k e below s.1 g))

  pub child_pushed : (elements : List BranchElement) (t : ℕ) (e : BranchElement) (below : List Frame)
      → HasStack bucket (record { content = Of_branch elements; taken = t + 1 } ∷ below)
      → slice_get elements t ≡ Some e
      → HasStack bucket (record { content = contents_in bucket e.child; taken = 0 } ∷ record { content = Of_branch elements; taken = t + 1 } ∷ below)
  child_pushed elements t e below stack g = ∥∥₁_map stack (λ s. (s.0, push_child bucket s.0.trees elements t e below s.1 g))

  -- a branch on a stack has room for a page above it
  pub branch_room : (elements : List BranchElement) (t : ℕ) (below : List Frame)
      → HasStack bucket (record { content = Of_branch elements; taken = t } ∷ below) → suc (suc (length below)) ≤ 64
  branch_room elements t below stack =
      ∥∥₁_elim stack (Prim.hlevel props) (λ s. room_above bucket s.0.trees s.1.0.good.0 (suc (length below)) elements s.1.0.good.1 s.1.0.good.2)

-- a bucket of a checked file is one of a sound tree
pub sound_bucket : (checked : Checked) (start : Start) → HasStart checked start → ∥ IsSoundBucket (bucket_in checked start) ∥₁
sound_bucket checked start is = ∥∥₁_elim (checked_trees checked) ∥∥₁_prop (λ trees. ∥∥₁_map is (λ s. record { trees = trees; start = s }))

pub root_way : (checked : Checked) (number : ℕ) → ∥ IsSoundBucket (bucket_in checked (Root_page number)) ∥₁
    → ∥ ((depth : ℕ) × IsOnWay (bytes_of checked) (meta_of checked) number depth) ∥₁
root_way checked number is = ∥∥₁_map is (λ s. (1, s.start))

root_good : (bucket : BucketView) (trees : HasSoundTrees bucket.file bucket.meta) (start : Start) → IsStart bucket.file bucket.meta start
    → IsGoodContent bucket 1 (content_at_start (contents_in bucket) start)
root_good bucket trees start is = grind arith

pub root_stack : (bucket : BucketView) → ∥ IsSoundBucket bucket ∥₁ → HasStack bucket (record { content = root_content bucket; taken = 0 } ∷ [])
root_stack bucket is = ∥∥₁_map is (λ s. (
  s,
  (
    record {
      shallow = omega arith;
      good = root_good bucket s.trees bucket.start s.start;
      bound = omega arith;
      fits = omega arith;
      branch = tt;
      placed = sym (append-nil (tour (contents_in bucket) 63 [] (root_content bucket)));
    },
    tt,
  ),
))

-- before the root page's first element, everything is ahead
top_of : (contents : Contents) (content : Content)
    → tour contents 63 [] content ≡ record { address = []; entries = here_under content 0 } ∷ later_of contents (record { content = content; taken = 0 } ∷ [])
top_of contents content = grind (arith, append-nil)

pub root_ahead : (bucket : BucketView) → ahead_of (contents_in bucket) (record { content = root_content bucket; taken = 0 } ∷ []) ≡ elements_in bucket
root_ahead bucket = sym (ap tour_elements (top_of (contents_in bucket) (root_content bucket)))

pub root_right : (bucket : BucketView)
    → length (tour_pages_in bucket) ≡ suc (length (later_of (contents_in bucket) (record { content = root_content bucket; taken = 0 } ∷ [])))
root_right bucket = ap length (top_of (contents_in bucket) (root_content bucket))

-- What the moves of a trail back do to its stack.
use Rattle.std.proofs.Common.{◌≡◌, ℕ, suc, ◌+◌, ◌-◌, ◌≤◌, true, List, [], ◌∷◌, ◌++◌, Some, None, slice_get, length, take, refl, sym, ap, ◌∙◌, arith}
use Rattle.std.proofs.Common.{append_assoc, append-nil, length-append}
use Rattle.bolt_tree.proofs.Words.{BranchElement, BucketView, Content, Contents, Frame, HasStack, IsAtRest, IsEntered, IsOn, LeafElement, Of_branch}
use Rattle.bolt_tree.proofs.Words.{Of_leaf, TourPage, address_on, all_under, pages_before, before_under, content_length, contents_in, done_of}
use Rattle.bolt_tree.proofs.Words.{done_under, elements_in, tour_elements, flat_map-append, index_of, passed_of, passed_under, length-take, none-some}
use Rattle.bolt_tree.proofs.Words.{tour_pages_in, preceding_of, props, root_content, take_all, take_next, tour, under_at, ∥∥₁_elim}
use Rattle.bolt_tree.proofs.{StackLemmas.branch_room, TrailLemmas.shown_by_branch}

-- what lies under one more element
under_more : (f : ℕ → ℕ → List TourPage) (i k j : ℕ) (elements : List BranchElement) (e : BranchElement) → slice_get elements k ≡ Some e → j ≡ i + k
    → all_under f i (take (suc k) elements) ≡ all_under f i (take k elements) ++ f j e.child
under_more f i (suc k) j (x ∷ elements) e g s =
    let next : j ≡ suc i + k = omega arith in
    ap (λ (vs : List TourPage). f i x.child ++ vs) (under_more f (suc i) k j elements e g next)
    ∙ sym (append_assoc (f i x.child) (all_under f (suc i) (take k elements)) (f j e.child))
under_more f i k j elements e g s = grind (arith, none-some, append-nil)

-- the tour of a page that stands behind its last element
pub tour_done : (contents : Contents) (n h : ℕ) (address : List ℕ) (content : Content)
    → ((elements : List BranchElement) → content ≡ Of_branch elements → n ≡ suc (62 - h))
    → (tour_elements (tour contents n address content)
    ≡ tour_elements (before_under contents h address content (suc (content_length content) - 1)) ++ done_under content (suc (content_length content)))
    × (length (tour contents n address content) ≡ suc (length (before_under contents h address content (suc (content_length content) - 1))))
tour_done contents n h address content same = grind (arith, take_all, append-nil)

-- an entry is taken
pub back_some : (contents : Contents) (content : Content) (i t : ℕ) (below new : List Frame) (e : LeafElement) → t ≡ i + 2
    → IsEntered contents true content i below new (Some e)
    → (preceding_of contents (record { content = content; taken = t } ∷ below) ≡ preceding_of contents new ++ e ∷ []) × IsOn new e
    × (pages_before contents (record { content = content; taken = t } ∷ below) ≡ pages_before contents new)
back_some contents (Of_leaf es) i t below new e two h =
    let old : t - 1 ≡ suc i = omega arith in
    let back : (i + 1) - 1 ≡ i = omega arith in
    grind (arith, take_next, append_assoc)
back_some contents (Of_branch bs) i t below new e two h = absurd h

-- a page is opened
pub back_none : (bucket : BucketView) (content : Content) (i t : ℕ) (below new : List Frame) → t ≡ i + 2
    → IsEntered (contents_in bucket) true content i below new None → HasStack bucket new
    → (preceding_of (contents_in bucket) (record { content = content; taken = t } ∷ below) ≡ preceding_of (contents_in bucket) new)
    × (length (pages_before (contents_in bucket) (record { content = content; taken = t } ∷ below)) ≡ suc (length (pages_before (contents_in bucket) new)))
back_none bucket (Of_leaf es) i t below new two h stack = absurd h
back_none bucket (Of_branch bs) i t below new two h stack =
    let contents = contents_in bucket in
    let b = h.0 in
    let H = length below in
    let address = address_on below in
    let child = contents b.child in
    let old : t - 1 ≡ suc i = omega arith in
    let back : (i + 1) - 1 ≡ i = omega arith in
    let placed = rw h.2 at stack in
    let f : ℕ → ℕ → List TourPage = λ j c. tour contents (62 - H) (address ++ j ∷ []) (contents c) in
    let B = pages_before contents below in
    let A = under_at contents H address 0 (take i bs) in
    let U = before_under contents (suc H) (address ++ i ∷ []) child (suc (content_length child) - 1) in
    let more : under_at contents H address 0 (take (suc i) bs) ≡ A ++ f i b.child = under_more f 0 i i bs b h.1 (omega arith) in
    let done = tour_done contents (62 - H) (suc H) (address ++ i ∷ []) child (λ cs e.
    let room = branch_room bucket cs (suc (length cs)) (record { content = Of_branch bs; taken = i + 1 } ∷ below) (rw e at placed) in omega (arith, room)) in
    let left : tour_elements (B ++ (A ++ f i b.child)) ++ [] ≡ tour_elements ((B ++ A) ++ U) ++ done_under child (suc (content_length child)) =
    simp (flat_map-append, append_assoc, append-nil, done.0) in
    grind (arith, length-append)

nothing_done : (content : Content) (t : ℕ) → t ≤ 1 → done_under content t ≡ []
nothing_done content t h = grind arith

nothing_before : (contents : Contents) (H : ℕ) (address : List ℕ) (content : Content) (t : ℕ) → t ≤ 1
    → before_under contents H address content (t - 1) ≡ []
nothing_before contents H address content t h = grind arith

-- a page of which nothing before is taken leaves the stack
pub left_out : (bucket : BucketView) (f : Frame) (below : List Frame) → HasStack bucket (f ∷ below) → f.taken ≤ 1
    → (preceding_of (contents_in bucket) below ≡ preceding_of (contents_in bucket) (f ∷ below))
    × (pages_before (contents_in bucket) below ≡ pages_before (contents_in bucket) (f ∷ below))
left_out bucket f below stack h =
    let under = nothing_before (contents_in bucket) (length below) (address_on below) f.content f.taken h in
    let top : done_of below ≡ [] =
    ∥∥₁_elim stack (Prim.hlevel props) (λ s. shown_by_branch done_of done_under refl (λ _ _. refl) (λ _ _. refl) below s.1.0.branch) in
    grind (arith, append-nil, nothing_done)

-- behind the root page's last element, everything is behind
pub root_behind : (bucket : BucketView)
    → let frames : List Frame = record { content = root_content bucket; taken = suc (content_length (root_content bucket)) } ∷ [] in
    (elements_in bucket ≡ preceding_of (contents_in bucket) frames) × (length (tour_pages_in bucket) ≡ suc (length (pages_before (contents_in bucket) frames)))
root_behind bucket = tour_done (contents_in bucket) 63 0 [] (root_content bucket) (λ bs e. refl)

-- the pages on the stack have no entries of their own
left_entries : (contents : Contents) (H : ℕ) (address : List ℕ) (content : Content) (k : ℕ)
    → tour_elements (passed_under contents H address content k) ≡ tour_elements (before_under contents H address content k)
left_entries contents H address content k = grind arith

pub left_elements : (contents : Contents) (frames : List Frame)
    → tour_elements (passed_of contents frames) ≡ tour_elements (pages_before contents frames)
left_elements contents [] = refl
left_elements contents (f ∷ below) = grind (arith, left_entries, flat_map-append, left_elements contents below)

pub behind_index : (contents : Contents) (f : Frame) (below : List Frame) → IsAtRest (f ∷ below)
    → length (preceding_of contents (f ∷ below)) ≡ index_of contents (f ∷ below)
behind_index contents f below rest = grind (arith, append-nil, length-take, left_elements, length-append)

-- What the moves of a trail do to its stack.
use Rattle.std.proofs.lemmas.Grind.{common_steps}
use Rattle.std.proofs.Common.{◌≡◌, ◌==◌, ℕ, suc, ◌+◌, ◌-◌, ◌≤◌, ◌<◌, Bool, true, false, List, [], ◌∷◌, ◌++◌, Some, None, slice_get, length, map}
use Rattle.std.proofs.Common.{reverse, drop, refl, sym, ap, ◌∙◌, subst, arith, append_assoc, append-nil}
use Rattle.bolt_tree.proofs.Words.{BranchElement, BucketPages, BucketView, Content, Contents, Frame, IsOfSoundTree, HasStack, HasTrail}
use Rattle.bolt_tree.proofs.Words.{IsBranchContent, IsBranchTop, IsEntered, IsOn, IsMoved, LeafElement, Of_branch, Of_leaf, Position, Trail, TourPage}
use Rattle.bolt_tree.proofs.Words.{address_on, ahead_of, content_length, contents_in, drop_all, drop_at, frame_of, frames_of, here_of, here_under}
use Rattle.bolt_tree.proofs.Words.{length-map, length-reverse, nat_tests, option_to_list, pages_bucket, props, reverse-append, later_of, later_under}
use Rattle.bolt_tree.proofs.Words.{tour, taken_at, trail_bucket, trail_frames, trail_on, under_at, ∥∥₁_elim, ∥∥₁_map}
use Rattle.bolt_tree.proofs.StackLemmas.{branch_room, retaken, stack_short, under_next}

-- one equation moves every fact of a bucket
pub same_bucket : (old new : Trail) → IsMoved old new → trail_bucket new ≡ trail_bucket old
same_bucket old new same = rw (same.file, same.at) refl

pub frames_push : (items : List Position) (position : Position) → frames_of (items ++ position ∷ []) ≡ frame_of position ∷ frames_of items
frames_push items position = ap (map frame_of) (reverse-append items (position ∷ []))

pub length-frames : (items : List Position) → length (frames_of items) ≡ length items
length-frames items = length-map (reverse items) frame_of ∙ length-reverse items

pub stack_room : (bucket : BucketView) (f : Frame) (items : List Position) → HasStack bucket (f ∷ frames_of items) → length items < 64
stack_room bucket f items stack = let h = stack_short bucket f (frames_of items) stack in let l = length-frames items in omega (arith, h, l)

pub no_frames : (items : List Position) (empty : Bool) → empty ≡ (length items == 0) → empty ≡ true → frames_of items ≡ []
no_frames items empty e t = grind (arith, common_steps, nat_tests)

pub nonempty : (items : List Position) (empty : Bool) → empty ≡ (length items == 0) → empty ≡ false → frames_of items ≡ [] → ⊥
nonempty items empty e f nil = grind (arith, length-frames, nat_tests)

pub unfilled : (items : List Position) (n : ℕ) → n ≡ length items → (1 ≤ n → ⊥) → frames_of items ≡ []
unfilled [] n e none = refl
unfilled (p ∷ items) n e none = absurd (none (omega (arith, e)))

pub filled : (items : List Position) (n : ℕ) → n ≡ length items → 1 ≤ n → frames_of items ≡ [] → ⊥
filled items n e some nil = let l = length-frames items ∙ sym e in let f = ap length nil in omega (arith, l, f, some)

-- the tour of a page is the page and what lies under it
tour_top : (contents : Contents) (n h : ℕ) (address : List ℕ) (content : Content)
    → ((elements : List BranchElement) → content ≡ Of_branch elements → n ≡ suc (62 - h))
    → tour contents n address content ≡ record { address = address; entries = here_under content 0 } ∷ later_under contents h address content 0
tour_top contents n h address content same = grind arith

-- an entry is taken
pub entered_some : (contents : Contents) (content : Content) (i : ℕ) (below new : List Frame) (e : LeafElement)
    → IsEntered contents false content i below new (Some e)
    → (ahead_of contents (record { content = content; taken = i } ∷ below) ≡ e ∷ ahead_of contents new) × IsOn new e
    × (later_of contents (record { content = content; taken = i } ∷ below) ≡ later_of contents new)
entered_some contents content i below new e h = grind (arith, drop_at)

pub nothing_here : (content : Content) (taken : ℕ) → content_length content ≤ taken → here_under content taken ≡ []
nothing_here content taken h = grind (arith, drop_all)

nothing_under : (contents : Contents) (H : ℕ) (address : List ℕ) (content : Content) (taken : ℕ) → content_length content ≤ taken
    → later_under contents H address content taken ≡ []
nothing_under contents H address content taken h = grind (arith, drop_all)

-- what a stack shows of its top page, where that is none for a branch
pub shown_by_branch : (of : List Frame → List LeafElement) (under : Content → ℕ → List LeafElement) → of [] ≡ []
    → ((f : Frame) (below : List Frame) → of (f ∷ below) ≡ under f.content f.taken)
    → ((bs : List BranchElement) (taken : ℕ) → under (Of_branch bs) taken ≡ []) → (frames : List Frame) → IsBranchTop frames → of frames ≡ []
shown_by_branch of under none top branch [] h = none
shown_by_branch of under none top branch (f ∷ below) h = top f below ∙ by_content f.content h where
  by_content : (content : Content) → IsBranchContent content → under content f.taken ≡ []
  by_content (Of_leaf es) h = absurd h
  by_content (Of_branch bs) h = branch bs f.taken

-- what comes later, with the page that is opened first
opened_right : (contents : Contents) (H i : ℕ) (address : List ℕ) (elements : List BranchElement) (b : BranchElement) (rest : List TourPage)
    → slice_get elements i ≡ Some b
    → ((cs : List BranchElement) → contents b.child ≡ Of_branch cs → 62 - H ≡ suc (62 - suc H))
    → under_at contents H address i (drop i elements) ++ rest ≡ record { address = address ++ i ∷ []; entries = here_under (contents b.child) 0 }
    ∷ (later_under contents (suc H) (address ++ i ∷ []) (contents b.child) 0 ++ (under_at contents H address (suc i) (drop (suc i) elements) ++ rest))
opened_right contents H i address elements b rest g same =
    let f : ℕ → ℕ → List TourPage = λ j child. tour contents (62 - H) (address ++ j ∷ []) (contents child) in
    let tail : List TourPage = under_at contents H address (suc i) (drop (suc i) elements) in
    let v : TourPage = record { address = address ++ i ∷ []; entries = here_under (contents b.child) 0 } in
    let more : List TourPage = later_under contents (suc H) (address ++ i ∷ []) (contents b.child) 0 in
    let first : under_at contents H address i (drop i elements) ≡ f i b.child ++ tail = under_next f i i elements b g in
    grind (arith, tour_top, append_assoc)

-- a page is opened
pub entered_none : (bucket : BucketView) (content : Content) (i : ℕ) (below new : List Frame)
    → IsEntered (contents_in bucket) false content i below new None → HasStack bucket new
    → (ahead_of (contents_in bucket) (record { content = content; taken = i } ∷ below) ≡ ahead_of (contents_in bucket) new)
    × (length (later_of (contents_in bucket) (record { content = content; taken = i } ∷ below)) ≡ suc (length (later_of (contents_in bucket) new)))
entered_none bucket (Of_leaf elements) i below new h stack = absurd h
entered_none bucket (Of_branch elements) i below new h stack =
    let contents = contents_in bucket in
    let b = h.0 in
    let placed = rw h.2 at stack in
    let right = opened_right contents (length below) i (address_on below) elements b (later_of contents below) h.1 (λ cs e.
    let room = branch_room bucket cs 0 (record { content = Of_branch elements; taken = i + 1 } ∷ below) (rw e at placed) in omega (arith, room)) in
    let next : suc i ≡ i + 1 = omega arith in
    grind arith

-- a page of which all is taken leaves the stack
pub exhausted : (bucket : BucketView) (f : Frame) (below : List Frame) → HasStack bucket (f ∷ below) → content_length f.content ≤ f.taken
    → (ahead_of (contents_in bucket) below ≡ ahead_of (contents_in bucket) (f ∷ below))
    × (later_of (contents_in bucket) below ≡ later_of (contents_in bucket) (f ∷ below))
exhausted bucket f below stack h =
    let under = nothing_under (contents_in bucket) (length below) (address_on below) f.content f.taken h in
    let top : here_of below ≡ [] =
    ∥∥₁_elim stack (Prim.hlevel props) (λ s. shown_by_branch here_of here_under refl (λ _ _. refl) (λ _ _. refl) below s.1.0.branch) in
    (rw (nothing_here f.content f.taken h, under, top) refl, rw under refl)

pub frames_pop : (old new : List Position) (top : Position) → old ≡ new ++ option_to_list (Some top) → frames_of old ≡ frame_of top ∷ frames_of new
frames_pop old new top e = ap frames_of e ∙ frames_push new top

pub entered_length : (contents : Contents) (at_end : Bool) (content : Content) (i : ℕ) (below new : List Frame)
    → IsEntered contents at_end content i below new None → length new ≡ suc (suc (length below))
entered_length contents at_end content i below new h = grind arith

edge_bound : (at_end : Bool) (content : Content) → taken_at at_end content ≤ suc (content_length content)
edge_bound false content = omega arith
edge_bound true content = omega arith

-- how much of the page on top is taken is no matter, so it may be at an edge
pub edge_room : (at_end : Bool) (bucket : BucketView) (content : Content) (position : Position) (below : List Frame)
    → HasStack bucket (record { content = content; taken = 0 } ∷ below)
    → frame_of position ≡ record { content = content; taken = taken_at at_end content } → position.taken ≤ 65536
    → HasStack bucket (record { content = content; taken = taken_at at_end content } ∷ below)
edge_room at_end bucket content position below stack e fits =
    retaken bucket content 0 (taken_at at_end content) below stack (edge_bound at_end content)
    (subst (λ (n : ℕ). n ≤ 65536) (ap (λ (f : Frame). f.taken) e) fits)

-- the same stack, as it is shown otherwise
pub moved_stack : (old now : BucketView) (a d : Content) (under below : List Frame) → now ≡ old → d ≡ a → below ≡ under
    → HasStack old (record { content = a; taken = 0 } ∷ under) → HasStack now (record { content = d; taken = 0 } ∷ below)
moved_stack old now a d under below e f g stack = subst (λ (k : BucketView). HasStack k (record { content = d; taken = 0 } ∷ below)) (sym e) (rw (f, g) stack)

-- the stack when its top page was taken from it, and when there was none
pub popped_stack : (pages : BucketPages) (old items : List Position) (top : Position) → old ≡ items ++ option_to_list (Some top)
    → HasTrail (trail_on pages old)
    → HasStack (pages_bucket pages) (frame_of top ∷ frames_of items)
popped_stack pages old items top e stack = subst (HasStack (pages_bucket pages)) (frames_pop old items top e) stack

pub popped_none : (pages : BucketPages) (old items : List Position) → old ≡ items ++ [] → HasTrail (trail_on pages old)
    → HasStack (pages_bucket pages) (frames_of items)
popped_none pages old items e stack = subst (λ (ps : List Position). HasStack (pages_bucket pages) (frames_of ps)) (e ∙ append-nil items) stack

-- an empty stack is one of each bucket
pub empty_stack : (trail : Trail) → IsOfSoundTree trail.pages → trail_frames trail ≡ [] → HasTrail trail
empty_stack trail is none = subst (HasStack (trail_bucket trail)) (sym none) (∥∥₁_map is (λ s. (s, tt)))

-- a stack that was kept is still one of the bucket
pub kept_stack : (old new : Trail) (items : List Position) → IsMoved old new → items ≡ old.positions → HasTrail old
    → HasStack (trail_bucket new) (frames_of items)
kept_stack old new items same e stack = rw (same.file, same.at, e) stack

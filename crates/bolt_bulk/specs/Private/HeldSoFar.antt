-- The greatest number of items that a pass has held at one time so far, by what is open of the layout. An item of an open run counts as it
-- does on the page that the run becomes (`held_in` of bolt_layout); `inner` is the number for the page under way further in.
use Rattle.std.specs.Prelude.{ℕ, ◌+◌, max, List, [], ◌∷◌, length}
use Rattle.bolt_layout.specs.Laid.{Laid}
use Rattle.bolt_bulk.specs.Private.OpenRuns.{BucketFrame, Open, Upper}

-- the items of a run are held while `inner` items at the most are held further in
abbrev pub held_on : {E : Type 0} → List (Laid E) → (inner : ℕ) → ℕ
held_on [] inner = inner
held_on (item ∷ run) inner = max item.held (1 + held_on run inner)

-- the runs above a bucket's leaf, the lowest first
abbrev pub held_over : List Upper → (inner : ℕ) → ℕ
held_over [] inner = inner
held_over (upper ∷ uppers) inner = held_over uppers (held_on upper.run inner)

abbrev pub held_open : Open → (inner : ℕ) → ℕ
held_open state inner = held_over state.uppers (held_on state.run inner)

-- the buckets that wait, the innermost first
abbrev pub held_frames : List BucketFrame → (inner : ℕ) → ℕ
held_frames [] inner = inner
held_frames (frame ∷ frames) inner = held_frames frames (held_open frame.state inner)

abbrev pub held_so_far : List BucketFrame → Open → ℕ
held_so_far frames state = held_frames frames (held_open state 0)

-- how many items the runs above a bucket's leaf hold now
abbrev pub length_over : List Upper → ℕ
length_over [] = 0
length_over (upper ∷ uppers) = length_over uppers + length upper.run

abbrev pub length_open : Open → ℕ
length_open state = length_over state.uppers + length state.run

abbrev pub length_frames : List BucketFrame → ℕ
length_frames [] = 0
length_frames (frame ∷ frames) = length_frames frames + length_open frame.state

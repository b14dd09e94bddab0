-- The open runs of a bucket whose pages are written in one forward pass: a run of leaf items, and above it one run of pages for each level.
-- A run closes before the first page of what no longer joins it is written, so an upper run may be empty: then the page that is under way
-- below begins the next run.
use Rattle.std.specs.Prelude.{ℕ, suc, ◌+◌, Bool, ◌||◌, ◌&&◌, nat_lt, nat_le, List, [], ◌∷◌, ◌++◌, length, Option, None, if◌then◌else◌}
use Rattle.bolt_format.specs.{Elements.BranchElement, Elements.LeafElement, Pages.PageView}
use Rattle.bolt_layout.specs.{Layout.first_page, Cut.max_items, Cut.run_size, Laid.Laid, Laid.Placed, Laid.elements_of, Laid.numbers_of}
use Rattle.bolt_layout.specs.{Laid.pages_of, Laid.size_of, Limits.is_out, Limits.one_less}
use Rattle.bolt_layout.specs.Levels.{branch_page_view, leaf_page_view, page_over, run_overflow}
use Rattle.bolt_tree.specs.Tree.{Tree}
use Rattle.bolt_bulk.specs.{Private.RowLimits.bucket_limit, declared.limits.BucketLimits.BucketLimits}

-- an item of this size joins the run
abbrev pub has_room : {E : Type 0} → ℕ → ℕ → List (Laid E) → ℕ → Bool
has_room page_size least run size = nat_lt (length run) least || (nat_le (run_size size_of run + size) page_size && nat_lt (length run) max_items)

-- the size of a branch item with this key
abbrev pub key_size : List ℕ → ℕ
key_size key = 16 + length key

-- A run of pages above, how many runs may still begin in its row (None if any number may), and how many runs of the row have closed.
pub record Upper : Type 0 where
  pub run : List (Laid BranchElement)
  pub allowed : Option ℕ
  pub closed : ℕ

-- A page of the run has closed, and one with an item of this size comes next. The run stays open for that one if it has room, or if no
-- run may begin in its row: then that one is the last of the row, or any further run may begin.
abbrev pub stays_open : ℕ → Upper → ℕ → Bool
stays_open page_size upper size = has_room page_size 2 upper.run size || is_out upper.allowed

abbrev pub pushed_on : Upper → Laid BranchElement → Upper
pushed_on upper q = record { run = upper.run ++ q ∷ []; allowed = upper.allowed; closed = upper.closed }

abbrev pub kept_upper : ℕ → Upper → ℕ → Upper
kept_upper page_size upper size =
    record { run = upper.run; allowed = if has_room page_size 2 upper.run size then upper.allowed else None; closed = upper.closed }

abbrev pub begun_after : Upper → Upper
begun_after upper = record { run = []; allowed = one_less upper.allowed; closed = suc upper.closed }

-- what an open run says of its row at the bucket's end, when it takes the page that is under way: how many runs the row has, and how many
-- items the last one has
abbrev pub upper_end : Upper → ℕ × ℕ
upper_end upper = (suc upper.closed, suc (length upper.run))

-- the pages in upper runs that were written, the outermost first
abbrev pub put_in : List Upper → List (Laid BranchElement)
put_in [] = []
put_in (upper ∷ uppers) = put_in uppers ++ upper.run

abbrev pub numbers_in : List Upper → ℕ
numbers_in uppers = numbers_of (put_in uppers)

-- A page q has closed, and the next page has this first key. Each upper run takes the page that closed below it, and closes if the next page
-- doesn't join it. A new run at the top has the first page of its row; after it `new` runs may begin there, or any number if that is None.
abbrev pub climb : ℕ → (new : Option ℕ) → List ℕ → Laid BranchElement → List Upper → List Upper
climb page_size new key q [] = record { run = q ∷ []; allowed = new; closed = 0 } ∷ []
climb page_size new key q (upper ∷ uppers) =
    let stays = kept_upper page_size (pushed_on upper q) (key_size key) ∷ uppers in
    let closes = begun_after upper ∷ climb page_size new key (page_over branch_page_view page_size (upper.run ++ q ∷ [])) uppers in
    if stays_open page_size (pushed_on upper q) (key_size key) then stays else closes

-- the page over a run itself, apart from those below it
abbrev pub own_page : {E : Type 0} → (ℕ → List E → PageView) → ℕ → List (Laid E) → ℕ → Placed
own_page view page_size run number = record { number = number + numbers_of run; view = view (run_overflow page_size run) (elements_of run number) }

-- the pages that this writes, if the bucket's pages begin at `number`
abbrev pub climb_puts : ℕ → List ℕ → Laid BranchElement → List Upper → ℕ → List Placed
climb_puts page_size key q [] number = []
climb_puts page_size key q (upper ∷ uppers) number =
    let closed = own_page branch_page_view page_size (upper.run ++ q ∷ []) (number + numbers_in uppers) in
    let more = closed ∷ climb_puts page_size key (page_over branch_page_view page_size (upper.run ++ q ∷ [])) uppers number in
    if stays_open page_size (pushed_on upper q) (key_size key) then [] else more

-- at the end each run closes in turn, up to the root page
abbrev pub close : ℕ → Laid BranchElement → List Upper → Laid BranchElement
close page_size q [] = q
close page_size q (upper ∷ uppers) = close page_size (page_over branch_page_view page_size (upper.run ++ q ∷ [])) uppers

abbrev pub close_puts : ℕ → Laid BranchElement → List Upper → ℕ → List Placed
close_puts page_size q [] number = []
close_puts page_size q (upper ∷ uppers) number =
    own_page branch_page_view page_size (upper.run ++ q ∷ []) (number + numbers_in uppers)
    ∷ close_puts page_size (page_over branch_page_view page_size (upper.run ++ q ∷ [])) uppers number

-- What a bucket is known by before its pages are written: its number in the order of openings, the limits of its rows, and all its leaf pages.
pub record Known : Type 0 where
  pub number : ℕ
  pub limits : BucketLimits
  pub leaves : List (Laid BranchElement)

-- A bucket that is open: its upper runs and the run of leaf items.
pub record Open : Type 0 where
  pub uppers : List Upper
  pub run : List (Laid LeafElement)
  pub known : Known

abbrev pub nothing_open : Known → Open
nothing_open known = record { uppers = []; run = []; known = known }

-- the pages of an open bucket that were written, if they begin at `number`; and the number of the next one
abbrev pub pages_put : Open → ℕ → List Placed
pages_put state number = pages_of (put_in state.uppers) number ++ pages_of state.run (number + numbers_in state.uppers)

abbrev pub next_number : Open → ℕ → ℕ
next_number state number = number + numbers_in state.uppers + numbers_of state.run

-- Room for the next item, by its key and size: it is there, or the run closes before any page of the item is written.
abbrev pub making_room : ℕ → Open → List ℕ → ℕ → Open
making_room page_size state key size = record {
  uppers =
      let above = climb page_size (bucket_limit state.known.limits (length state.uppers)) key (page_over leaf_page_view page_size state.run) state.uppers in
      if has_room page_size 1 state.run size then state.uppers else above;
  run = if has_room page_size 1 state.run size then state.run else [];
  known = state.known;
}

abbrev pub room_puts : ℕ → Open → List ℕ → ℕ → ℕ → List Placed
room_puts page_size state key size number =
    let closed =
    own_page leaf_page_view page_size state.run (number + numbers_in state.uppers)
    ∷ climb_puts page_size key (page_over leaf_page_view page_size state.run) state.uppers number in
    if has_room page_size 1 state.run size then [] else closed

abbrev pub pushing : Open → Laid LeafElement → Open
pushing state item = record { uppers = state.uppers; run = state.run ++ item ∷ []; known = state.known }

abbrev pub taking : ℕ → Open → Laid LeafElement → Open
taking page_size state item = pushing (making_room page_size state item.key item.size) item

-- the end of the bucket
abbrev pub end_of : ℕ → Open → Laid BranchElement
end_of page_size state = close page_size (page_over leaf_page_view page_size state.run) state.uppers

abbrev pub end_puts : ℕ → Open → ℕ → List Placed
end_puts page_size state number =
    own_page leaf_page_view page_size state.run (number + numbers_in state.uppers)
    ∷ close_puts page_size (page_over leaf_page_view page_size state.run) state.uppers number

-- A bucket that waits for one within it, of this key and sequence; what comes after that one; and its state, which has room for it.
pub record BucketFrame : Type 0 where
  pub state : Open
  pub key : List ℕ
  pub sequence : ℕ
  pub after : Tree

-- the buckets that wait, the innermost first: where the pages of the bucket within them begin, and the pages that they have written
abbrev pub base_in : List BucketFrame → ℕ
base_in [] = first_page
base_in (frame ∷ frames) = next_number frame.state (base_in frames)

abbrev pub frames_put : List BucketFrame → List Placed
frames_put [] = []
frames_put (frame ∷ frames) = frames_put frames ++ pages_put frame.state (base_in frames)

-- all pages that were written
abbrev pub all_put : List BucketFrame → Open → List Placed
all_put frames state = frames_put frames ++ pages_put state (base_in frames)

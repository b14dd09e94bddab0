-- Where a pass is in the tree that it follows, as the code keeps it, and what a step of it leaves.
use Rattle.std.specs.Prelude.{◌≡◌, ◌<◌, ◌≤◌, ℕ, suc, ◌+◌, ◌/◌, Bool, true, false, List, [], ◌∷◌, ◌++◌, length, map, reverse, Option, Some, None}
use Rattle.std.specs.Prelude.{Result, IfErr, OnOk}
use Rattle.std.specs.List.{AllByRecursion}
use Rattle.bolt_format.specs.{ElementPlaces.leaf_view, Elements.BranchElement, Elements.LeafElement, declared.element.Leaf.Leaf, Wrote.Wrote}
use Rattle.bolt_format.specs.{declared.sink.Sink.Ghosts}
use Rattle.bolt_tree.specs.{Listing.Member, Tree.Tree, Tree.end, Tree.with_bucket, Tree.with_value}
use Rattle.bolt_layout.specs.{Items.is_inline, Items.items_of, Items.root_of, Laid.Laid, Laid.Placed, Layout.layout_high_water, Layout.layout_pages}
use Rattle.bolt_layout.specs.{Layout.placed_bytes}
use Rattle.bolt_layout.specs.Limits.{HaveRightLimits, limit_at, limits_from_ends}
use Rattle.bolt_layout.specs.{Openings.AreRight, Openings.leaf_pages, Openings.limits_for, Openings.opened_by, Openings.opened_in}
use Rattle.bolt_layout.specs.{Openings.row_ends_of, declared.Layout.TheVariants.Plain}
use Rattle.bolt_layout.specs.declared.Layout.{Layout}
use Rattle.bolt_bulk.specs.{declared.limits.Limits.Limits, Private.FormatLimits.longest_key, Private.Coming.IsPass, Private.RowLimits.limit_in}
use Rattle.bolt_bulk.specs.{Private.HeldCounts.AreCounted, Private.HeldCounts.items_around, Private.HeldSoFar.held_so_far, Private.Parents.Parent}
use Rattle.bolt_bulk.specs.{Private.Parents.left_in}
use Rattle.bolt_bulk.specs.{Private.OpenBuckets.IsOpenBucket, Private.OpenBuckets.bucket_runs, Private.BucketRuns.AreOpenRuns}
use Rattle.bolt_bulk.specs.{Private.OpenRuns.BucketFrame, Private.OpenRuns.Known, Private.OpenRuns.Open, Private.OpenRuns.all_put}
use Rattle.bolt_bulk.specs.{Private.OpenRuns.base_in, Private.RunViews.BucketRunsView}
use Rattle.bolt_bulk.specs.{Private.TakenItems.entries_size, Private.WaitingBuckets.IsWaiting, declared.page_setup.PageSetup.PageSetup}
use Rattle.bolt_bulk.specs.{declared.bulk_fault.BulkFault.BulkFault}
use Rattle.bolt_bulk.specs.{declared.pass.Pass.Pass, declared.pending_bucket.PendingBucket.PendingBucket}
use Rattle.bolt_bulk.specs.{declared.waiting_bucket.WaitingBucket.WaitingBucket}
use Rattle.bolt_bulk.specs.{declared.noted_limits.NotedLimits.NotedLimits, BulkEndings.bulk_ending}
use Rattle.bolt_check.specs.Counts.{saturated}
use Rattle.bolt_bulk.specs.declared.bulk_fault.BulkFault.TheVariants as fault

-- entries that are values, in front of a tree
abbrev pub onto : List LeafElement → Tree → Tree
onto [] tree = tree
onto (e ∷ entries) tree = with_value e.key e.value (onto entries tree)

abbrev pub parent_of : BucketFrame → Parent
parent_of frame = record { key = frame.key; after = frame.after }

-- the waiting buckets of the code, the innermost first, are the frames
abbrev pub AreWaiting : List WaitingBucket → List BucketFrame → Type 0
AreWaiting [] [] = Unit {0}
AreWaiting [] (frame ∷ frames) = ⊥
AreWaiting (waiting ∷ others) [] = ⊥
AreWaiting (waiting ∷ others) (frame ∷ frames) =
    AreOpenRuns (bucket_runs waiting.bucket (base_in (frame ∷ frames))) frame.state (base_in frames)
    × (waiting.key.now ≡ frame.key) × (waiting.sequence ≡ frame.sequence) × AreWaiting others frames

-- A bucket that may be inline is the next entry of the open one: it is entered, but not opened yet.
abbrev pub IsPending : Option PendingBucket → List Leaf → (outer : List Parent) → (rest : Tree) → (parents : List Parent) → (left : Tree) → Type 0
IsPending None entries outer rest parents left = (parents ≡ outer) × (rest ≡ left)
IsPending (Some pending) entries outer rest parents left = (after : Tree)
    × (parents ≡ record { key = pending.key.now; after = after } ∷ outer)
    × (rest ≡ with_bucket pending.key.now pending.sequence (onto (map leaf_view entries) left) after)

-- what is asked of a pass: the layout of a tree, and whether it notes the limits of its rows
pub record Wanted : Type 0 where
  pub which : Layout
  pub tree : Tree
  pub notes : Bool

-- the limits of a bucket's rows, as a pass looks them up by the bucket's number
abbrev pub limits_with : Limits → (bucket level : ℕ) → Option ℕ
limits_with limits bucket level = limit_in limits (saturated bucket) level

abbrev pub limits_by : Pass → (bucket level : ℕ) → Option ℕ
limits_by pass = limits_with pass.limits.now

-- limits are right for all buckets of a tree, of which the root bucket is number 0
pub record FitLimits (which : Layout) (tree : Tree) (page_size : ℕ) (limits : ℕ → ℕ → Option ℕ) : Type 0 where
  pub root : HaveRightLimits which page_size (limits 0) (leaf_pages page_size (items_of which page_size tree))
  pub others : AreRight which page_size limits 1 tree

-- What a bucket with these leaf pages, which is opened as number n, says of its rows. It has no more leaf pages than the layout has pages.
pub record Notes (wanted : Wanted) (page_size n : ℕ) (leaves : List (Laid BranchElement)) : Type 0 where
  pub noted : wanted.which ≡ Plain → (level : ℕ)
      → limits_for page_size wanted.tree n level ≡ limit_at (limits_from_ends false (row_ends_of page_size leaves)) level
  pub few : length leaves ≤ layout_high_water wanted.which page_size wanted.tree

-- What is known of the buckets of a tree that are still to come, if the first of them that has a root page is opened as number n.
pub record IsComing (wanted : Wanted) (page_size : ℕ) (limits : ℕ → ℕ → Option ℕ) (n : ℕ) (inside : Tree) : Type 0 where
  pub right : HaveRightLimits wanted.which page_size (limits n) (leaf_pages page_size (items_of wanted.which page_size inside))
  pub notes : Notes wanted page_size n (leaf_pages page_size (items_of wanted.which page_size inside))

abbrev pub AreComing : (wanted : Wanted) → (page_size : ℕ) → (limits : ℕ → ℕ → Option ℕ) → (n : ℕ) → Tree → Type 0
AreComing wanted page_size limits n end = Unit {0}
AreComing wanted page_size limits n (with_value key value after) = AreComing wanted page_size limits n after
AreComing wanted page_size limits n (with_bucket key sequence inside after) =
    (is_inline page_size inside (items_of wanted.which page_size inside) ≡ false
    → IsComing wanted page_size limits n inside × AreComing wanted page_size limits (suc n) inside)
    × AreComing wanted page_size limits (n + opened_by wanted.which page_size inside) after

-- what is known of the buckets that come after the waiting buckets, up to the last of all
abbrev pub AreComingAround : (wanted : Wanted) → (page_size : ℕ) → (limits : ℕ → ℕ → Option ℕ) → (n : ℕ) → List BucketFrame → Type 0
AreComingAround wanted page_size limits n [] = n ≡ suc (opened_in wanted.which page_size wanted.tree)
AreComingAround wanted page_size limits n (frame ∷ frames) =
    AreComing wanted page_size limits n frame.after × AreComingAround wanted page_size limits (n + opened_in wanted.which page_size frame.after) frames

pub record IsToCome (wanted : Wanted) (page_size : ℕ) (limits : ℕ → ℕ → Option ℕ) (n : ℕ) (left : Tree) (frames : List BucketFrame) : Type 0 where
  pub inside : AreComing wanted page_size limits n left
  pub around : AreComingAround wanted page_size limits (n + opened_in wanted.which page_size left) frames

-- The open buckets, the innermost first, each have a lower number than the one before it.
pub record IsNumberedBucket (wanted : Wanted) (page_size below : ℕ) (known : Known) : Type 0 where
  pub earlier : known.number < below
  pub number_is : known.limits.bucket ≡ saturated known.number
  pub notes : Notes wanted page_size known.number known.leaves

abbrev pub AreNumbered : (wanted : Wanted) → (page_size below : ℕ) → List Known → Type 0
AreNumbered wanted page_size below [] = Unit {0}
AreNumbered wanted page_size below (known ∷ others) = IsNumberedBucket wanted page_size below known × AreNumbered wanted page_size known.number others

-- The limits of the buckets that have ended are those that follow from the plain layout. The open buckets have none yet, and nor have those
-- that come later.
pub record IsLimitTable (page_size : ℕ) (tree : Tree) (limits : Limits) (opened : ℕ) (buckets : List Known) : Type 0 where
  pub still_open : AllByRecursion (λ (known : Known). (level : ℕ) → limit_in limits known.number level ≡ None) buckets
  pub later : (n level : ℕ) → opened ≤ n → limit_in limits n level ≡ None
  pub ended : (n level : ℕ) → n < opened → AllByRecursion (λ (known : Known). n ≡ known.number → ⊥) buckets
      → limit_in limits n level ≡ limits_for page_size tree n level

-- A pass over the plain layout that notes limits has noted these, unless there are more page numbers than the code counts.
pub record HasNoted (wanted : Wanted) (page_size : ℕ) (noted : NotedLimits) (opened : ℕ) (buckets : List Known) : Type 0 where
  pub numbered : AreNumbered wanted page_size opened buckets
  pub asked : noted.notes ≡ wanted.notes
  pub table : wanted.notes ≡ true → wanted.which ≡ Plain → layout_high_water wanted.which page_size wanted.tree ≤ 18446744073709551615
      → IsLimitTable page_size wanted.tree noted.limits opened buckets

abbrev pub open_in : Open → List BucketFrame → List Known
open_in state frames = state.known ∷ map (λ (frame : BucketFrame). frame.state.known) frames

-- Where the pass is in the layout.
pub record PassIsOn (which : Layout) (page_size : ℕ) (tree : Tree) (frames : List BucketFrame) (state : Open) (items : List (Laid LeafElement))
    (runs : BucketRunsView) (put : List Placed) : Type 0 where
  pub under : IsPass which page_size frames state items (root_of which page_size tree)
  pub kept : AreOpenRuns runs state (base_in frames)
  pub put_is : put ≡ all_put frames state

-- The pass has written these pages, the next one has this number, and these entries of the innermost bucket are left.
pub record PassIsAt (wanted : Wanted) (pass : Pass) (next : ℕ) (parents : List Parent) (left : Tree) (put : List Placed) : Type 0 where
  pub frames : List BucketFrame
  pub state : Open
  pub rest : Tree
  pub on : PassIsOn wanted.which pass.setup.page_size wanted.tree frames state (items_of wanted.which pass.setup.page_size rest)
      (bucket_runs pass.bucket next) put
  pub waits : AreWaiting (reverse pass.waiting.items) frames
  pub pends : IsPending pass.pending pass.entries.items (map parent_of frames) rest parents left
  pub held : pass.most ≡ saturated (held_so_far frames state)
  pub opened : ℕ
  pub opened_is : pass.opened ≡ saturated opened
  pub coming : IsToCome wanted pass.setup.page_size (limits_by pass) opened rest frames
  pub noted : HasNoted wanted pass.setup.page_size pass.noted opened (open_in state frames)

-- What is known of it without the tree. A bucket that may be inline has values alone, which take at most a quarter of a page.
pub record IsSmall (page_size : ℕ) (pending : PendingBucket) (entries : List Leaf) : Type 0 where
  pub key : length pending.key.now ≤ longest_key
  pub sized : pending.size ≡ entries_size (map leaf_view entries)
  pub small : pending.size ≤ page_size / 4
  pub few : length entries ≤ 65534
  pub keys : AllByRecursion (λ (entry : Leaf). length entry.key.now ≤ longest_key) entries
  pub values : AllByRecursion (λ (entry : Leaf). entry.is_bucket ≡ false) entries

abbrev pub IsPendingSmall : (page_size : ℕ) → Option PendingBucket → List Leaf → Type 0
IsPendingSmall page_size None entries = entries ≡ []
IsPendingSmall page_size (Some pending) entries = IsSmall page_size pending entries

pub record IsReady (pass : Pass) : Type 0 where
  pub bucket : IsOpenBucket pass.bucket
  pub waiting : AllByRecursion (IsWaiting pass.setup.page_size) pass.waiting.items
  pub pending : IsPendingSmall pass.setup.page_size pass.pending pass.entries.items
  pub counted : AreCounted 0 pass.waiting.items
  pub around : pass.around ≡ saturated (items_around pass.waiting.items)

-- how many buckets are around what is left
abbrev pub pending_depth : Option PendingBucket → ℕ
pending_depth None = 0
pending_depth (Some pending) = 1

abbrev pub pass_depth : Pass → ℕ
pass_depth pass = suc (length pass.waiting.items) + pending_depth pass.pending

-- a bucket with these entries has a root page
abbrev pub HasRoot : Layout → (page_size : ℕ) → Tree → Type 0
HasRoot which page_size inside = is_inline page_size inside (items_of which page_size inside) ≡ false

-- the pages of `front` come before other pages of the layout
pub record StandsBefore (front whole : List Placed) : Type 0 where
  pub rest : List Placed
  pub parts : whole ≡ front ++ rest
  pub some : 1 ≤ length rest

-- A step writes further pages, after which others of the layout come, or a prefix of their bytes if it fails. If it returns TooLarge, the
-- layout is too large.
pub record Steps {S A : Type 0} (wanted : Wanted) (sink : Ghosts S) (old new : S) (setup : PageSetup) (put : List Placed) (At : List Placed → Type 0)
    (result : Result A BulkFault) : Type 0 where
  pub more : List Placed
  pub puts : Wrote sink old new (placed_bytes setup.page_size more) (bulk_ending result)
  pub at : OnOk result (At (put ++ more))
  pub before : StandsBefore (put ++ more) (layout_pages wanted.which setup.page_size wanted.tree)
  pub large : IfErr result (λ e. e ≡ fault.TooLarge → setup.greatest_high_water < layout_high_water wanted.which setup.page_size wanted.tree)

-- no path of the next member is longer
abbrev pub IsNoDeeper : ℕ → List Member → Type 0
IsNoDeeper depth [] = Unit {0}
IsNoDeeper depth (member ∷ members) = length member.0 ≤ depth

-- the pass is where these members are left
pub record HasLeft (wanted : Wanted) (pass : Pass) (next : ℕ) (members : List Member) (put : List Placed) : Type 0 where
  pub parents : List Parent
  pub left : Tree
  pub at : PassIsAt wanted pass next parents left put
  pub members_are : left_in parents left ≡ members

-- a pass goes on with the same setup, in at most this many buckets
pub record GoesOn (before after : Pass) (depth : ℕ) : Type 0 where
  pub setup : after.setup ≡ before.setup
  pub ready : IsReady after
  pub depth_is : pass_depth after ≤ depth

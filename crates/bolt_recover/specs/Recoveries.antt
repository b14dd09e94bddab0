-- What a recovery shows: the file that it reads, the part of the recovered listing that is left, and the losses so far.
use Rattle.std.specs.Prelude.{◌≡◌, ℕ, Bool, List, [], ◌++◌, Option, length, map, take, ⊤}
use Rattle.std.specs.Option.{option_map}
use Rattle.bolt_format.specs.declared.meta.Meta.{Meta}
use Rattle.bolt_check.specs.{Claims.claims_file, Claims.claims_visited, Claims.is_claimed, Counts.counted}
use Rattle.bolt_tree.specs.{Listing.Member, Paths.Path, ShownEntries.item_view, Walks.GivesNext, declared.entry.Item.Item}
use Rattle.bolt_recover.specs.{PageGaps.ForGaps, PageGaps.PageGapView, PageGaps.page_gap_view, Losses.AreLosses, Losses.LossView}
use Rattle.bolt_recover.specs.{PageWays.ForPageWays, Private.Frames.members_left, Private.Frames.steps_path, Recovered.ForRecovered}
use Rattle.bolt_recover.specs.{ShownLosses.loss_view}
use Rattle.bolt_recover.specs.declared.recovery.Recovery.{Recovery}

unfoldable pub recovery_file : Recovery → List ℕ
recovery_file recovery = claims_file recovery.steps.claims

unfoldable pub recovery_meta : Recovery → Meta
recovery_meta recovery = recovery.meta

-- The part of the recovered listing that is left. (There is one listing, so it is the same of each.)
unfoldable pub recovery_left : Recovery → List Member → List Member
recovery_left recovery listing = members_left recovery.steps

-- how many members a recovery has still to return
unfoldable pub recovery_work : Recovery → ℕ
recovery_work recovery = length (members_left recovery.steps)

-- the path of the last item that a recovery returned
unfoldable pub recovery_path : Recovery → Path
recovery_path recovery = steps_path recovery.steps

-- how many pages a recovery has visited so far, and how many were visited before it began
unfoldable pub recovery_visited : Recovery → ℕ
recovery_visited recovery = claims_visited recovery.steps.claims

unfoldable pub recovery_begun : Recovery → ℕ
recovery_begun recovery = recovery.begun

-- whether page n is claimed so far
unfoldable pub recovery_claimed : Recovery → ℕ → Bool
recovery_claimed recovery = is_claimed recovery.steps.claims

-- the losses that a recovery has reported so far
unfoldable pub recovery_losses : Recovery → List LossView
recovery_losses recovery = map loss_view recovery.steps.losses.items

-- the gaps that a recovery has reported so far
unfoldable pub recovery_gaps : Recovery → List PageGapView
recovery_gaps recovery = map page_gap_view recovery.steps.gaps.items

-- all that a recovery shows, to be unfolded together
unfoldable pub recovery_viewers : ⊤
unfolding recovery_begun recovery_claimed recovery_file recovery_gaps recovery_left recovery_losses recovery_meta recovery_path recovery_visited recovery_work
recovery_viewers = tt

-- The first member of the recovered listing that was left is given, with its path, and the others are left; or none was left, and none is.
abbrev pub GivesRecovered : Recovery → Recovery → Option Item → Type 0
GivesRecovered old new given =
    ForRecovered (recovery_file old) (recovery_meta old)
    (λ listing. GivesNext (recovery_left old listing) (recovery_left new listing) (recovery_path new) (option_map item_view given))

-- the same of the recovered listing is left as before
abbrev pub LeavesRecovered : Recovery → Recovery → Type 0
LeavesRecovered old new = ForRecovered (recovery_file old) (recovery_meta old) (λ listing. recovery_left new listing ≡ recovery_left old listing)

-- nothing of the recovered listing is left
abbrev pub LeavesNone : Recovery → Recovery → Type 0
LeavesNone old new = ForRecovered (recovery_file old) (recovery_meta old) (λ listing. recovery_left new listing ≡ [])

-- the first of these members are dropped, or none
abbrev pub DropsFirst : List Member → List Member → Type 0
DropsFirst old new = (dropped : List Member) × (old ≡ dropped ++ new)

-- the first members of the recovered listing are dropped, or none, and the others are left
abbrev pub LeavesRest : Recovery → Recovery → Type 0
LeavesRest old new = ForRecovered (recovery_file old) (recovery_meta old) (λ listing. DropsFirst (recovery_left old listing) (recovery_left new listing))

-- each way to a page number was visited once
abbrev pub HasVisitedAll : Recovery → Recovery → Type 0
HasVisitedAll old new = ForPageWays (recovery_file old) (recovery_meta old) (λ ways. recovery_visited new ≡ counted (recovery_begun old) ways)

-- What is promised of the losses of a file is promised for each list of them; there is exactly one (`laws`).
abbrev pub ForLosses : List ℕ → Meta → (List LossView → Type 0) → Type 0
ForLosses file meta P = (losses : List LossView) → AreLosses file meta losses → P losses

-- all losses are reported
abbrev pub HasReportedAll : Recovery → Recovery → Type 0
HasReportedAll old new = ForLosses (recovery_file old) (recovery_meta old) (λ losses. recovery_losses new ≡ losses)

-- all gaps are reported
abbrev pub HasReportedGaps : Recovery → Recovery → Type 0
HasReportedGaps old new = ForGaps (recovery_file old) (recovery_meta old) (λ gaps. recovery_gaps new ≡ gaps)

-- the reported losses are the first of all losses
abbrev pub AreFirst : List LossView → List LossView → Type 0
AreFirst reported losses = reported ≡ take (length reported) losses

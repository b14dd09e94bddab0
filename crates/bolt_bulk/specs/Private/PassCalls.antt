-- What each call of a pass does, wherever in the tree the pass is.
use Rattle.std.specs.Prelude.{◌≡◌, ℕ, Bool, List, [], ◌∷◌, map, Result, OnOk}
use Rattle.bolt_format.specs.{ElementPlaces.leaf_view, declared.sink.Sink.Ghosts}
use Rattle.bolt_tree.specs.{Listing.Member, Tree.Tree, Tree.end, Tree.listing_of, Tree.with_bucket, Tree.with_value}
use Rattle.bolt_layout.specs.{Laid.Placed, Layout.first_page}
use Rattle.bolt_bulk.specs.{Private.Endings.EndsPass, Private.Parents.Parent}
use Rattle.bolt_bulk.specs.Private.Passes.{FitLimits, HasLeft, HasRoot, PassIsAt, IsNoDeeper, limits_with, onto, Steps, Wanted}
use Rattle.bolt_bulk.specs.{declared.bulk_fault.BulkFault.BulkFault, declared.limits.Limits.Limits, declared.pass.PassEnd.PassEnd}
use Rattle.bolt_bulk.specs.{declared.page_writer.PageWriter.PageWriter, declared.pass.Pass.Pass}

-- what a pass knows at its beginning, if these limits of rows are right
abbrev pub BeginsAll : Limits → (notes : Bool) → (page_size : ℕ) → Pass → Type 0
BeginsAll limits notes page_size pass = (wanted : Wanted) → wanted.notes ≡ notes
    → FitLimits wanted.which wanted.tree page_size (limits_with limits) → HasLeft wanted pass first_page (listing_of wanted.tree) []

-- the next entry is a value, and is taken
abbrev pub TakesValue : {S A : Type 0} → Ghosts S → (old new : PageWriter S) → (before after : Pass) → (key value : List ℕ) → Result A BulkFault → Type 0
TakesValue sink old new before after key value result =
    (wanted : Wanted) (rest : Tree) (parents : List Parent) (put : List Placed) → PassIsAt wanted before old.next parents (with_value key value rest) put
    → Steps wanted sink old.sink.now new.sink.now before.setup put (PassIsAt wanted after new.next parents rest) result

-- a value of the bucket that may be inline is kept, and nothing is written
abbrev pub KeepsValue : {A : Type 0} → (before after : Pass) → (key value : List ℕ) → Result A BulkFault → Type 0
KeepsValue before after key value result =
    (wanted : Wanted) (next : ℕ) (rest : Tree) (parents : List Parent) (put : List Placed) → PassIsAt wanted before next parents (with_value key value rest) put
    → OnOk result (PassIsAt wanted after next parents rest put)

-- the next entry is a bucket, which may be inline
abbrev pub BeginsBucket : (before after : Pass) → (key : List ℕ) → (sequence : ℕ) → Type 0
BeginsBucket before after key sequence =
    (wanted : Wanted) (next : ℕ) (inside rest : Tree) (parents : List Parent) (put : List Placed)
    → PassIsAt wanted before next parents (with_bucket key sequence inside rest) put
    → PassIsAt wanted after next (record { key = key; after = rest } ∷ parents) inside put

-- the bucket that might have been inline has a root page, and is opened
abbrev pub OpensPending : {S A : Type 0} → Ghosts S → (old new : PageWriter S) → (before after : Pass) → Result A BulkFault → Type 0
OpensPending sink old new before after result =
    (wanted : Wanted) (left : Tree) (parents : List Parent) (put : List Placed) → PassIsAt wanted before old.next parents left put
    → HasRoot wanted.which before.setup.page_size (onto (map leaf_view before.entries.items) left)
    → Steps wanted sink old.sink.now new.sink.now before.setup put (PassIsAt wanted after new.next parents left) result

-- the next entry is a bucket, and is entered
abbrev pub EntersBucket : {S A : Type 0} → Ghosts S → (old new : PageWriter S) → (before after : Pass) → (key : List ℕ) → (sequence : ℕ)
    → Result A BulkFault → Type 0
EntersBucket sink old new before after key sequence result =
    (wanted : Wanted) (inside rest : Tree) (parents : List Parent) (put : List Placed)
    → PassIsAt wanted before old.next parents (with_bucket key sequence inside rest) put
    → Steps wanted sink old.sink.now new.sink.now before.setup put (PassIsAt wanted after new.next (record { key = key; after = rest } ∷ parents) inside) result

-- the innermost bucket has no more entries, and is left
abbrev pub LeavesBucket : {S A : Type 0} → Ghosts S → (old new : PageWriter S) → (before after : Pass) → Result A BulkFault → Type 0
LeavesBucket sink old new before after result =
    (wanted : Wanted) (parent : Parent) (parents : List Parent) (put : List Placed) → PassIsAt wanted before old.next (parent ∷ parents) end put
    → Steps wanted sink old.sink.now new.sink.now before.setup put (PassIsAt wanted after new.next parents parent.after) result

-- no further member is in a bucket deeper than this, and those buckets are left
abbrev pub LeavesTo : {S A : Type 0} → Ghosts S → (old new : PageWriter S) → (before after : Pass) → (depth : ℕ) → Result A BulkFault → Type 0
LeavesTo sink old new before after depth result =
    (wanted : Wanted) (members : List Member) (put : List Placed) → HasLeft wanted before old.next members put → IsNoDeeper depth members
    → Steps wanted sink old.sink.now new.sink.now before.setup put (HasLeft wanted after new.next members) result

-- the next member is taken
abbrev pub TakesMember : {S A : Type 0} → Ghosts S → (old new : PageWriter S) → (before after : Pass) → Member → Result A BulkFault → Type 0
TakesMember sink old new before after member result =
    (wanted : Wanted) (members : List Member) (put : List Placed) → HasLeft wanted before old.next (member ∷ members) put
    → Steps wanted sink old.sink.now new.sink.now before.setup put (HasLeft wanted after new.next members) result

-- no member is left, and the root bucket ends
abbrev pub EndsAll : {S : Type 0} → Ghosts S → (old new : PageWriter S) → Pass → Result PassEnd BulkFault → Type 0
EndsAll sink old new pass result =
    (wanted : Wanted) (put : List Placed) → HasLeft wanted pass old.next [] put → EndsPass wanted sink old.sink.now new.sink.now pass.setup put result

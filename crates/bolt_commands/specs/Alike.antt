-- Commands that do the same: docs/COMMANDS.md, "Recovery".
use Rattle.std.specs.Prelude.{◌≡◌, ◌≢◌, ◌↔◌, ◌⊎◌, ◌*◌, ◌<◌, ◌^◌, ℕ, Bool, true, false, Err, List, [], Option, length}
use Rattle.bolt_check.specs.Sound.{HasSoundTrees}
use Rattle.bolt_format.specs.{Metas.HasBothMetas, declared.meta.Meta.Meta, declared.sink.Sink.Ghosts}
use Rattle.bolt_repair.specs.{Readable.readable, Readable.unread, Repaired.MakesMeta, Repairs.meta_path, Repairs.store_path}
use Rattle.bolt_recover.specs.Losses.{parts}
use Rattle.bolt_text.specs.declared.forms.ListForm.{ListForm}
use Rattle.bolt_tree.specs.{Entries.Item, Entries.Value, InBuckets.members_in, Listing.IsListing, Listing.Member, Merges.merge, Paths.Path}
use Rattle.bolt_commands.specs.{Answers.Answer, Answers.JobEnding, CopyAnswers.copy_page_size, CopyAnswers.hash_refusal, FilesRead.HoldsIn}
use Rattle.bolt_commands.specs.{JobAnswers.DoesJob, JobAnswers.MakesCopy, JobAnswers.MakesRepair, JobAnswers.WritesCopy, JobAnswers.WritesNone}
use Rattle.bolt_commands.specs.{KeyAnswers.IsBucketsShown, KeyAnswers.IsKeysShown, KeyAnswers.IsValueShown, ListAnswers.IsListedAnswer}
use Rattle.bolt_commands.specs.{RepairAnswers.repair_report}
use Rattle.bolt_commands.specs.{FileFaults.AreCopyFaults, SnapshotAnswers.bad_hash, declared.file_faults.FileFaults.FileFaults}
use Rattle.bolt_commands.specs.{declared.failure.Failure.Failure, declared.failure.Failure.TheVariants.Memory}
use Rattle.bolt_commands.specs.{declared.failure.Failure.TheVariants.NoBucket, declared.failure.Failure.TheVariants.NotABucket}
use Rattle.bolt_job.specs.{CopyKinds.is_snapshot, MetaChoices.IsMetaOf, declared.choices.CopyKind.CopyKind}
use Rattle.bolt_job.specs.declared.bucket_commands.{BucketsJob.BucketsJob, GetJob.GetJob, KeysJob.KeysJob}
use Rattle.bolt_job.specs.declared.choices.BucketsShown.TheVariants.{Names}
use Rattle.bolt_job.specs.{declared.job.Job.Job, declared.choices.Extent.TheVariants.FoundPages}
use Rattle.bolt_job.specs.{declared.choices.Extent.Extent, declared.choices.MetaChoice.MetaChoice, declared.choices.PageSize.PageSize}
use Rattle.bolt_job.specs.declared.choices.MetaChoice.TheVariants.{Active}

-- a job does the same on one file as on the other
abbrev pub DoesAlike : {O T : Type 0} (out : Ghosts O) (target : Ghosts T) → Job → (one other : List ℕ) → Type 0
DoesAlike {O} {T} out target job one other = (out_old out_new : O) (target_old target_new : T) (ending : JobEnding)
    → DoesJob out out_old out_new target target_old target_new one job ending
    ↔ DoesJob out out_old out_new target target_old target_new other job ending

-- ---- what is read of a file with sound trees

-- no newer state can be hidden: the meta is named or assumed, or both metas are valid
abbrev pub HidesNoState : List ℕ → MetaChoice → Type 0
HidesNoState file choice = (choice ≢ Active) ⊎ HasBothMetas file

-- A property holds of a file under two choices of the same meta, with sound trees under it. The first choice hides no newer state. The second isn't
-- one under which the accounts count.
abbrev pub UnderSoundTrees : (List ℕ → (wanted named : MetaChoice) → Type 0) → Type 0
UnderSoundTrees P = (file : List ℕ) (meta : Meta) → HasSoundTrees file meta → (wanted named : MetaChoice) → IsMetaOf file wanted meta → IsMetaOf file named meta
    → HidesNoState file wanted → named ≢ Active → P file wanted named

-- a property holds of a file with sound trees under the meta that a choice names
abbrev pub ForSoundTrees : (List ℕ → Meta → MetaChoice → Type 0) → Type 0
ForSoundTrees P = (file : List ℕ) (meta : Meta) → HasSoundTrees file meta → (choice : MetaChoice) → IsMetaOf file choice meta → P file meta choice

-- A property holds of a file with sound trees under one choice of the meta, if no page number has more than sixteen digits.
abbrev pub OfSoundTrees : (List ℕ → (wanted named : MetaChoice) → Type 0) → Type 0
OfSoundTrees P =
    (file : List ℕ) (meta : Meta) → HasSoundTrees file meta → (choice : MetaChoice) → IsMetaOf file choice meta → length file < 10 ^ 16 * meta.page_size
    → P file choice choice

-- `list` prints the same to one extent under one choice as to the other under the other
abbrev pub ListsAlike : (one other : Extent) → List ℕ → (wanted named : MetaChoice) → Type 0
ListsAlike one other file wanted named = (form : ListForm) (path from : Path) (answer : Answer)
    → IsListedAnswer one file wanted form path from answer ↔ IsListedAnswer other file named form path from answer

-- `compact` does the same to one extent under one choice as to the other under the other, if both extents refuse a wrong hash, or neither
abbrev pub CopiesAlike : {O T : Type 0} (out : Ghosts O) (target : Ghosts T) → (one other : Extent) → List ℕ → (wanted named : MetaChoice) → Type 0
CopiesAlike {O} {T} out target one other file wanted named =
    (out_old out_new : O) (target_old target_new : T) (size : Option PageSize) (kind : CopyKind) (ending : JobEnding)
    → hash_refusal one (bad_hash (is_snapshot kind) file) ≡ hash_refusal other (bad_hash (is_snapshot kind) file)
    → MakesCopy out out_old out_new target target_old target_new file wanted size kind one ending
    ↔ MakesCopy out out_old out_new target target_old target_new file named size kind other ending

-- `keys`, `buckets` and `get` print with `--recover` what they print without it; of the first two, unless memory runs out
abbrev pub KeysAlike : List ℕ → (wanted named : MetaChoice) → Type 0
KeysAlike file wanted named = (job : KeysJob) (answer : Answer) → answer.ending ≢ Err Memory
    → IsKeysShown true file wanted job answer ↔ IsKeysShown false file named job answer

abbrev pub BucketsAlike : List ℕ → (wanted named : MetaChoice) → Type 0
BucketsAlike file wanted named = (job : BucketsJob) (answer : Answer) → answer.ending ≢ Err Memory
    → IsBucketsShown (Names true) file wanted job answer ↔ IsBucketsShown (Names false) file named job answer

abbrev pub GetsAlike : List ℕ → (wanted named : MetaChoice) → Type 0
GetsAlike file wanted named = (job : GetJob) (answer : Answer) → IsValueShown true file wanted job answer ↔ IsValueShown false file named job answer

-- ---- `etcd-repair`

-- Nothing is written: `key` is a value in the root bucket, or nothing there, or memory ran out.
abbrev pub IsUnrepairable : List ℕ → Meta → Failure → Type 0
IsUnrepairable file meta why =
    ((why ≡ NotABucket) × ((value : List ℕ) × HoldsIn file meta store_path (Value value)))
    ⊎ (((why ≡ NoBucket) × ((item : Item) → HoldsIn file meta store_path item → ⊥)) ⊎ (why ≡ Memory))

-- what etcd can read of a listing, with an empty bucket `meta` if it is made
abbrev pub read_listing : (is_made : Bool) → List Member → List Member
read_listing is_made listing = merge (readable listing) (members_in is_made meta_path [])

-- Nothing goes back or stays out: The copy is that of what etcd can read of the file's own listing, with a bucket `meta`.
abbrev pub RepairsNothing : {O T : Type 0} (out : Ghosts O) (target : Ghosts T) → List ℕ → Meta → MetaChoice → Type 0
RepairsNothing {O} {T} out target file meta choice =
    (out_old out_new : O) (target_old target_new : T) (size : Option PageSize) (kind : CopyKind) (ending : JobEnding)
    → MakesRepair out out_old out_new target target_old target_new file choice size kind false ending
    → ∥ ((listing : List Member) × IsListing file meta listing × (is_made : Bool) × MakesMeta listing is_made × (faults : FileFaults)
    × AreCopyFaults FoundPages kind file choice faults
    × WritesCopy out out_old out_new target target_old target_new kind (copy_page_size size meta) (read_listing is_made listing) meta.root_sequence
    (repair_report faults (parts []) (unread listing) 0 0 (length file)) ending) ∥₁
    ⊎ ((why : Failure) × IsUnrepairable file meta why × WritesNone out out_old out_new target target_old target_new why ending)

-- What the functions of a command that writes a copy promise of its job.
use Rattle.std.specs.Prelude.{◌≡◌, ◌⊎◌, ℕ, List, Bool, Option, Result, Err, OnOk, map}
use Rattle.bolt_bulk.specs.{declared.blueprint.Blueprint.Blueprint, declared.bulk_fault.BulkFault.BulkFault}
use Rattle.bolt_format.specs.{declared.meta.Meta.Meta, declared.sink.Sink.Ghosts}
use Rattle.bolt_layout.specs.Copies.{layout_of_listing}
use Rattle.bolt_recover.specs.{Losses.LostView, LostAndFound.all_lost, declared.lost_and_found.LostAndFound.LostAndFound}
use Rattle.bolt_report.specs.FoundLines.{found_view}
use Rattle.bolt_tree.specs.Listing.{Member}
use Rattle.bolt_commands.specs.{CopyAnswers.copy_page_size, CopyEnds.EndsCopy, FilesRead.IsReadTo, FilesRead.IsJoinedWith}
use Rattle.bolt_commands.specs.{FilesRead.IsUnjoinedUnder, FilesRead.IsUnreadTo}
use Rattle.bolt_commands.specs.{CopyLayouts.layout_for, Failures.copy_failure, GoodCopies.IsGoodCopy}
use Rattle.bolt_commands.specs.{Private.Endings.failing}
use Rattle.bolt_commands.specs.{Private.Contents.contents_found, Private.Contents.contents_lost, Private.Contents.contents_meta}
use Rattle.bolt_commands.specs.{declared.failure.Failure.Failure}
use Rattle.bolt_commands.specs.{declared.opening.Contents.Contents}
use Rattle.bolt_job.specs.{declared.choices.CopyKind.CopyKind, declared.choices.PageSize.PageSize, CopyKinds.is_snapshot}
use Rattle.bolt_job.specs.{declared.writing_commands.CompactJob.CompactJob}

-- the blueprint of a copy of this kind and this page size, if one is asked for, and if the file has this meta
pub record IsAskedBlueprint (kind : CopyKind) (size : Option PageSize) (meta : Meta) (blueprint : Blueprint) : Type 0 where
  pub layout : blueprint.layout ≡ layout_for kind
  pub page_size : blueprint.page_size ≡ copy_page_size size meta
  pub sequence : blueprint.sequence ≡ meta.root_sequence

-- the layout of a listing by this blueprint
abbrev pub blueprint_layout : Blueprint → List Member → List ℕ
blueprint_layout blueprint listing = layout_of_listing blueprint.layout blueprint.page_size listing blueprint.sequence

-- a property holds of each listing that the members have, and of its layout by a blueprint
abbrev pub ForLayout : {M W : Type 0} → (M → W → Type 0) → (W → List Member) → M → Blueprint → (List Member → List ℕ → Type 0) → Type 0
ForLayout {W} reads listing members blueprint P = (whole : W) → reads members whole → P (listing whole) (blueprint_layout blueprint (listing whole))

-- a layout is that of a listing that the members have, by a blueprint
abbrev pub IsLayoutOf : {M W : Type 0} → (M → W → Type 0) → (W → List Member) → M → Blueprint → List ℕ → Type 0
IsLayoutOf {W} reads listing members blueprint layout = (whole : W) × reads members whole × (layout ≡ blueprint_layout blueprint (listing whole))

-- the target accepted the whole copy of the listing with this layout, and it is good; or it stopped short, and the fault says why
pub record CopiesTo {T : Type 0} (target : Ghosts T) (old new : T) (layout : List ℕ) (listing : List Member) (snapshot : Bool)
    (result : Result ℕ BulkFault) : Type 0 where
  pub ends : EndsCopy target old new layout snapshot result
  pub good : OnOk result ∥ IsGoodCopy snapshot layout listing ∥₁

-- the layout that is asked for of a listing, if the file has this meta
abbrev pub job_layout : CompactJob → Meta → List Member → List ℕ
job_layout job meta listing = layout_of_listing (layout_for job.kind) (copy_page_size job.page_size meta) listing meta.root_sequence

-- the copy of a listing, and its length or the failure
abbrev pub CopiesListing : {T : Type 0} (target : Ghosts T) (old new : T) (layout : List ℕ) → (listing : List Member) → (snapshot : Bool)
    → Result ℕ Failure → Type 0
CopiesListing target old new layout listing snapshot result =
    (made : Result ℕ BulkFault) × CopiesTo target old new layout listing snapshot made × (result ≡ failing copy_failure made)

-- The copy of what is read was made; if it is whole, all that is lost is known then. Or it isn't read, and the target isn't touched.
abbrev pub CopiesRead : {T : Type 0} (target : Ghosts T) (old new : T) → CompactJob → List ℕ → (before after : Contents) → Result ℕ Failure → Type 0
CopiesRead target old new job file before after result =
    ((listing : List Member) × (lost : LostView)
    × IsReadTo job.extent file job.meta (contents_meta before) listing lost (map found_view (contents_found before)) × OnOk result (contents_lost after ≡ lost)
    × CopiesListing target old new (job_layout job (contents_meta before) listing) listing (is_snapshot job.kind) result)
    ⊎ ((why : Failure) × IsUnreadTo job.extent file job.meta why × (new ≡ old) × (result ≡ Err why))

-- The copy of a searched file was made by a blueprint. Or the file isn't read, and the target isn't touched.
abbrev pub CopiesJoined : {T : Type 0} (target : Ghosts T) (old new : T) → CompactJob → List ℕ → LostAndFound → Blueprint → Result ℕ Failure → Type 0
CopiesJoined target old new job file searched blueprint result =
    ((listing : List Member) × IsJoinedWith file searched.meta listing (all_lost searched) (map found_view searched.found.items)
    × CopiesListing target old new (blueprint_layout blueprint listing) listing (is_snapshot job.kind) result)
    ⊎ ((why : Failure) × IsUnjoinedUnder file job.meta why × (new ≡ old) × (result ≡ Err why))

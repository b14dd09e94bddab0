-- The copy of a listing, and what is then reported of it.
use Rattle.std.proofs.Common.{◌≡◌, ◌∙◌, ℕ, List, Bool, Option, None, Some, Result, Ok, Err, inl, inr, length, map, refl, subst}
use Rattle.bolt_commands.proofs.Vocabulary.{Answer, AreCopyFaults, BulkFault, CopiesTo, DoesJob, WritesAnswer, JobEnding, EndsCopy, Failure, FileFaults}
use Rattle.bolt_commands.proofs.Vocabulary.{Ghosts, Member, WritesLayout, copy_failure, copy_page_size, CopiesListing, CopiesRead, IsOpened}
use Rattle.bolt_commands.proofs.Vocabulary.{IsReadTo, copy_report, hash_refusal, LostView, OnOk, Contents, found_view, is_snapshot, contents_found}
use Rattle.bolt_commands.proofs.Vocabulary.{contents_lost, contents_meta, HasGoodCopies, IsAskedBlueprint, Meta, layout_for, layout_of_listing}
use Rattle.bolt_commands.proofs.Vocabulary.{blueprint_layout, failing, ∥∥₁_map}
use Rattle.bolt_commands.proofs.OpenedReads.{refused_read}
use Rattle.bolt_commands.specs.declared.failure.Failure.TheVariants.{Hash}
use Rattle.bolt_etcd.specs.declared.check.snapshot.SnapshotFault.{SnapshotFault}
use Rattle.bolt_bulk.specs.declared.blueprint.Blueprint.{Blueprint}
use Rattle.bolt_job.specs.{declared.choices.CopyKind.CopyKind, declared.choices.PageSize.PageSize, declared.job.Job.TheVariants.Compact}
use Rattle.bolt_job.specs.declared.writing_commands.CompactJob.{CompactJob}

-- a copy that is whole is good
pub copy_good : {T : Type 0} {target : Ghosts T} {old new : T} (listing : List Member) (blueprint : Blueprint) (snapshot : Bool) (result : Result ℕ BulkFault)
    → EndsCopy target old new (blueprint_layout blueprint listing) snapshot result → ∥ HasGoodCopies listing blueprint.sequence ∥₁
    → CopiesTo target old new (blueprint_layout blueprint listing) listing snapshot result
copy_good listing blueprint snapshot (Ok count) ends good =
    record {
      ends = ends;
      good = ∥∥₁_map good (λ (g : HasGoodCopies listing blueprint.sequence). g blueprint.layout snapshot blueprint.page_size blueprint.accepted ends.small);
    }
copy_good listing blueprint snapshot (Err fault) ends good = record { ends = ends; good = tt }

-- the copy of the blueprint that is asked for
pub copy_asked : {T : Type 0} {target : Ghosts T} {old new : T} {listing : List Member} {snapshot : Bool} {result : Result ℕ BulkFault}
    {kind : CopyKind} {size : Option PageSize} {meta : Meta} {blueprint : Blueprint}
    → IsAskedBlueprint kind size meta blueprint → CopiesTo target old new (blueprint_layout blueprint listing) listing snapshot result
    → CopiesTo target old new (layout_of_listing (layout_for kind) (copy_page_size size meta) listing meta.root_sequence) listing snapshot result
copy_asked asked copy = rw (asked.layout, asked.page_size, asked.sequence) at copy

-- of what is read, which if the copy is whole is known with what is lost
pub copy_read : {T : Type 0} {target : Ghosts T} {old new : T} (job : CompactJob) (file : List ℕ) (before after : Contents) {blueprint : Blueprint}
    {listing : List Member} (lost : LostView)
    → IsReadTo job.extent file job.meta (contents_meta before) listing lost (map found_view (contents_found before))
    → IsAskedBlueprint job.kind job.page_size (contents_meta before) blueprint
    → (made : Result ℕ BulkFault) → CopiesTo target old new (blueprint_layout blueprint listing) listing (is_snapshot job.kind) made
    → OnOk made (contents_lost after ≡ lost)
    → (result : Result ℕ Failure) → result ≡ failing copy_failure made → CopiesRead target old new job file before after result
copy_read job file before after lost read asked (Ok count) copy known result is = inl (_, _, read, rw is known, (Ok count, copy_asked asked copy, is))
copy_read job file before after lost read asked (Err fault) copy known result is = inl (_, _, read, rw is tt, (Err fault, copy_asked asked copy, is))

-- it is whole and reported, or it isn't whole and nothing is
pub copy_written : {O T : Type 0} (out : Ghosts O) {out_old out_new : O} {target : Ghosts T} {old new : T} {layout : List ℕ} {listing : List Member}
    {snapshot : Bool} (answer : ℕ → Answer)
    (count : ℕ) (ending : JobEnding) → CopiesTo target old new layout listing snapshot (Ok count)
    → WritesAnswer out out_old out_new (answer count) ending
    → WritesLayout out out_old out_new target old new snapshot listing layout answer ending
copy_written out {out_old} {out_new} answer count ending copy does =
    let whole = copy.ends in
    inl (whole.small, copy.good, whole.all, whole.sound, subst (λ (n : ℕ). WritesAnswer out out_old out_new (answer n) ending) whole.long does)

pub copy_stopped : {O T : Type 0} (out : Ghosts O) (out_old : O) {target : Ghosts T} {old new : T} {layout : List ℕ} {listing : List Member}
    {snapshot : Bool} (answer : ℕ → Answer)
    (fault : BulkFault) (ending : JobEnding) → CopiesTo target old new layout listing snapshot (Err fault) → ending ≡ Err (copy_failure fault)
    → WritesLayout out out_old out_old target old new snapshot listing layout answer ending
copy_stopped out out_old answer fault ending copy is = inr (copy_failure fault, copy.ends, refl, is)

-- the copy of a listing, if its length or the failure is known
module _ {O T : Type 0} (out : Ghosts O) (out_old : O) {target : Ghosts T} {old new : T} {layout : List ℕ} {listing : List Member} {snapshot : Bool}
    (answer : ℕ → Answer) (ending : JobEnding) where
  pub listing_failed : (why : Failure) → CopiesListing target old new layout listing snapshot (Err why) → ending ≡ Err why
      → WritesLayout out out_old out_old target old new snapshot listing layout answer ending
  listing_failed why (Err fault, copy, same) ends = copy_stopped out out_old answer fault ending copy (ends ∙ same)
  listing_failed why (Ok count, copy, same) ends = absurd (cc)

  pub listing_done : {out_new : O} (count : ℕ) → CopiesListing target old new layout listing snapshot (Ok count)
      → WritesAnswer out out_old out_new (answer count) ending
      → WritesLayout out out_old out_new target old new snapshot listing layout answer ending
  listing_done count (Ok made, copy, same) does = let number : count ≡ made = (cc) in copy_written out answer made ending copy (rw number at does)
  listing_done count (Err fault, copy, same) does = absurd (cc)

-- ---- `compact`

-- its hash is wrong
pub compact_refused : {O T : Type 0} (out : Ghosts O) (out_old : O) (target : Ghosts T) (old : T) (job : CompactJob) (file : List ℕ) (o : Contents)
    → IsOpened job.extent file job.meta o
    → (faults : FileFaults) → AreCopyFaults job.extent job.kind file job.meta faults → (fault : SnapshotFault)
    → hash_refusal job.extent faults.hash ≡ Some fault
    → DoesJob out out_old out_old target old old file (Compact job) (Err (Hash fault))
compact_refused out out_old target old job file o to faults are fault is =
    let (meta, listing, lost, found, read) = refused_read job.extent file job.meta o to _ fault is in
    inl (meta, listing, lost, found, read, faults, are, rw is (refl, refl, refl))

module _ {O T : Type 0} (out : Ghosts O) (out_old : O) {target : Ghosts T} {old new : T} (job : CompactJob) (file : List ℕ) (before after : Contents)
    (faults : FileFaults) (are : AreCopyFaults job.extent job.kind file job.meta faults) (right : hash_refusal job.extent faults.hash ≡ None)
    (ending : JobEnding) where
  pub compact_failed : (why : Failure) → CopiesRead target old new job file before after (Err why) → ending ≡ Err why
      → DoesJob out out_old out_old target old new file (Compact job) ending
  compact_failed why read ends = elim read [
    | inl (listing, lost, is, known, copy) ↦
        inl (
          _,
          listing,
          lost,
          _,
          is,
          faults,
          are,
          rw right (listing_failed out out_old (copy_report faults lost (map found_view (contents_found before)) (length file)) ending why copy ends),
        )
    | inr (reason, unread, untouched, same) ↦ inr (reason, unread, (refl, untouched, ends ∙ same))
  ]

  pub compact_done : {out_new : O} (count : ℕ) → CopiesRead target old new job file before after (Ok count)
      → WritesAnswer out out_old out_new
      (copy_report faults (contents_lost after) (map found_view (contents_found before)) (length file) count) ending
      → DoesJob out out_old out_new target old new file (Compact job) ending
  compact_done count read does = elim read [
    | inl (listing, lost, is, known, copy) ↦
        let told : contents_lost after ≡ lost = known in
        inl (
          _,
          listing,
          lost,
          _,
          is,
          faults,
          are,
          rw right (listing_done out out_old (copy_report faults lost (map found_view (contents_found before)) (length file)) ending count copy
              (rw told at does)),
        )
    | inr (reason, unread, untouched, same) ↦ absurd (cc)
  ]

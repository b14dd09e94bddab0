-- What a job does: what standard output and the target accept, and how it ends. What is printed is an `Is..Answer` for given inputs, and an
-- `Is..Print` for a job and its file.
use Rattle.std.specs.Prelude.{◌≡◌, ◌<◌, ◌⊎◌, ℕ, List, [], ◌∷◌, Bool, length, Option, Some, None, Err}
use Rattle.std.specs.Io.KnownBytes.{Appends}
use Rattle.bolt_bulk.specs.Compacting.{too_many}
use Rattle.bolt_layout.specs.Copies.{layout_of_listing}
use Rattle.bolt_format.specs.{declared.meta.Meta.Meta, declared.sink.Sink.Ghosts}
use Rattle.bolt_load.specs.{LineFaults.IsListingText, LineFaults.IsLoadFault, declared.load_fault.LoadFault.LoadFault}
use Rattle.bolt_load.specs.{declared.load_fault.LineFault.TheVariants.CutOff}
use Rattle.bolt_text.specs.LineMembers.{text_members}
use Rattle.bolt_recover.specs.Losses.{LostView}
use Rattle.bolt_report.specs.FoundLines.{FoundView}
use Rattle.bolt_tree.specs.Listing.{Member}
use Rattle.bolt_job.specs.{CopyKinds.is_snapshot, declared.choices.CopyKind.CopyKind, declared.choices.Extent.Extent}
use Rattle.bolt_job.specs.{declared.choices.Extent.TheVariants.FoundPages, declared.job.Job.Job, declared.choices.MetaChoice.MetaChoice}
use Rattle.bolt_job.specs.{declared.choices.MetaChoice.TheVariants.Active, declared.choices.PageSize.PageSize}
use Rattle.bolt_commands.specs.{CopyLayouts.layout_for, Failures.load_failure, FileFaults.AreCopyFaults, GoodCopies.IsGoodCopy, SnapshotAnswers.copy_of}
use Rattle.bolt_commands.specs.{declared.failure.Failure.Failure}
use Rattle.bolt_commands.specs.{declared.file_faults.FileFaults.FileFaults, Answers.Answer, Answers.JobEnding, Answers.WritesAnswer, Answers.done}
use Rattle.bolt_commands.specs.{CheckAnswers.IsCheckAnswer}
use Rattle.bolt_commands.specs.CopyAnswers.{StopsShort, copy_page_size, copy_report, hash_refusal, lengths_line}
use Rattle.bolt_commands.specs.EtcdAnswers.{IsEtcdCheckPrint, IsEtcdGetPrint, IsEtcdKeysPrint, IsEtcdRevisionsPrint, IsEtcdStatusPrint}
use Rattle.bolt_commands.specs.{FilesRead.IsReadAnswer, FilesRead.IsReadTo, FilesRead.IsUnreadTo, KeyAnswers.IsBucketsPrint, KeyAnswers.IsGetPrint}
use Rattle.bolt_commands.specs.{KeyAnswers.IsKeysPrint, ListAnswers.IsListPrint}
use Rattle.bolt_commands.specs.{PageAnswers.IsInfoAnswer, PageAnswers.IsPageAnswer, PageAnswers.IsPagesAnswer, RepairAnswers.IsRepairedUnder}
use Rattle.bolt_commands.specs.{RepairAnswers.IsUnrepairableUnder, RepairAnswers.repair_report}
use Rattle.bolt_commands.specs.{StatesAnswers.IsStatesPrint, StatsAnswers.IsStatsPrint}
use Rattle.bolt_commands.specs.declared.failure.Failure.TheVariants as failure
use Rattle.bolt_etcd.specs.{Wire.UnreadEntries.UnreadView, declared.check.snapshot.SnapshotFault.SnapshotFault}
use Rattle.bolt_job.specs.declared.job.Job.TheVariants as job

-- standard output and the target, each from its state `old` to `new`
module _ {O T : Type 0} (out : Ghosts O) (out_old out_new : O) (target : Ghosts T) (target_old target_new : T) where
  -- standard output accepts the text of the answer, and the target isn't touched
  abbrev pub Prints : (Answer → Type 0) → JobEnding → Type 0
  Prints IsWanted ending = (answer : Answer) × IsWanted answer × WritesAnswer out out_old out_new answer ending × (target_new ≡ target_old)

  -- The target accepted the whole copy without a failure, which is the layout and, in a snapshot, its hash. The layout has fewer than 2^63
  -- bytes, and what the target accepted is a good copy of this listing. Then standard output is to accept the text of the answer to its
  -- length.
  abbrev pub CopiesWhole : (snapshot : Bool) → (listing : List Member) → (layout : List ℕ) → (ℕ → Answer) → JobEnding → Type 0
  CopiesWhole snapshot listing layout answer ending =
      let copy = copy_of snapshot layout in
      (length layout < too_many) × ∥ IsGoodCopy snapshot layout listing ∥₁
      × Appends (target.taken target_old) (target.taken target_new) copy × (target.failed target_new ≡ target.failed target_old)
      × WritesAnswer out out_old out_new (answer (length copy)) ending

  -- the target stopped short, standard output isn't touched, and the job ends with the failure
  abbrev pub CopiesInPart : (snapshot : Bool) → (layout : List ℕ) → JobEnding → Type 0
  CopiesInPart snapshot layout ending =
      (failure : Failure) × StopsShort target target_old target_new layout (copy_of snapshot layout) failure × (out_new ≡ out_old)
      × (ending ≡ Err failure)

  -- the copy with this layout is written, or a part of it
  abbrev pub WritesLayout : (snapshot : Bool) → (listing : List Member) → (layout : List ℕ) → (ℕ → Answer) → JobEnding → Type 0
  WritesLayout snapshot listing layout answer ending = CopiesWhole snapshot listing layout answer ending ⊎ CopiesInPart snapshot layout ending

  -- that of a listing: the copy of this kind, at this page size and with this sequence of the root bucket
  abbrev pub WritesCopy : CopyKind → (page_size : ℕ) → (listing : List Member) → (sequence : ℕ) → (ℕ → Answer) → JobEnding → Type 0
  WritesCopy kind page_size listing sequence answer ending =
      WritesLayout (is_snapshot kind) listing (layout_of_listing (layout_for kind) page_size listing sequence) answer ending

  -- nothing is written, for this reason
  abbrev pub WritesNone : Failure → JobEnding → Type 0
  WritesNone why ending = (out_new ≡ out_old) × (target_new ≡ target_old) × (ending ≡ Err why)

  -- a file with a wrong hash is refused for it; otherwise it is copied
  abbrev pub CopiesUnless : Option SnapshotFault → (JobEnding → Type 0) → JobEnding → Type 0
  CopiesUnless (Some fault) Copies ending = WritesNone (failure.Hash fault) ending
  CopiesUnless None Copies ending = Copies ending

  -- `compact` to any extent: The target accepts the layout that is asked for of what is read, at the copy's page size, and for a snapshot then
  -- its hash: a good copy of that listing. Then it is reported if the file has a hash that isn't right, if the newest state may be lost, what is
  -- lost and what is found. Or the file isn't read, and neither is touched.
  abbrev pub MakesCopy : List ℕ → MetaChoice → Option PageSize → CopyKind → Extent → JobEnding → Type 0
  MakesCopy file choice size kind extent ending =
      ((meta : Meta) × (listing : List Member) × (lost : LostView) × (found : List FoundView) × IsReadTo extent file choice meta listing lost found
      × (faults : FileFaults) × AreCopyFaults extent kind file choice faults × CopiesUnless (hash_refusal extent faults.hash)
      (WritesCopy kind (copy_page_size size meta) listing meta.root_sequence (copy_report faults lost found (length file))) ending)
      ⊎ ((why : Failure) × IsUnreadTo extent file choice why × WritesNone why ending)

  -- the copy of the repaired listing, and what is reported of it
  abbrev pub WritesRepaired : List ℕ → MetaChoice → Option PageSize → CopyKind → (search : Bool) → JobEnding → Type 0
  WritesRepaired file choice size kind search ending =
      (meta : Meta) × (listing : List Member) × (lost : LostView) × (unread_views : List UnreadView) × (back left_out : ℕ)
      × IsRepairedUnder file choice search meta listing lost unread_views back left_out
      × (faults : FileFaults) × AreCopyFaults FoundPages kind file choice faults
      × WritesCopy kind (copy_page_size size meta) listing meta.root_sequence (repair_report faults lost unread_views back left_out (length file)) ending

  -- `etcd-repair`: The target accepts the layout that is asked for of the repaired listing, at the copy's page size, and for a snapshot then its
  -- hash: a good copy of that listing. Then it is reported if the file has a hash that isn't right, if the newest state may be lost, what is lost,
  -- what isn't copied, which revisions may be missing, and how many go back. Or there is no repaired listing, or memory ran out, and neither is
  -- touched.
  abbrev pub MakesRepair : List ℕ → MetaChoice → Option PageSize → CopyKind → (search : Bool) → JobEnding → Type 0
  MakesRepair file choice size kind search ending =
      ∥ WritesRepaired file choice size kind search ending ∥₁ ⊎ ((why : Failure) × IsUnrepairableUnder file choice search why × WritesNone why ending)

  -- `load`: The target accepts the layout that is asked for of the listing that the lines of the file tell, with this root sequence, and for a
  -- snapshot then its hash: a good copy of that listing. Or a line isn't right, or memory ran out, and neither is touched.
  abbrev pub Loads : List ℕ → (page_size sequence : ℕ) → CopyKind → JobEnding → Type 0
  Loads file page_size sequence kind ending =
      (IsListingText file
      × WritesCopy kind page_size (text_members file) sequence (λ copy. done (lengths_line (length file) copy)) ending)
      ⊎ ((fault : LoadFault) × IsLoadFault file fault × WritesNone (load_failure fault) ending)

  -- nothing is written, and the job ends with this failure or for want of memory
  abbrev pub StopsAt : Failure → JobEnding → Type 0
  StopsAt why ending = (out_new ≡ out_old) × (target_new ≡ target_old) × ((ending ≡ Err why) ⊎ (ending ≡ Err failure.Memory))

  -- `load` of the text of this listing, which has no line that isn't right; a text without a line is cut off
  abbrev pub LoadsListing : List Member → List ℕ → (page_size sequence : ℕ) → CopyKind → JobEnding → Type 0
  LoadsListing [] file page_size sequence kind ending = StopsAt (failure.Line 1 CutOff) ending
  LoadsListing (member ∷ listing) file page_size sequence kind ending =
      WritesCopy kind page_size (member ∷ listing) sequence (λ copy. done (lengths_line (length file) copy)) ending ⊎ StopsAt failure.Memory ending

  -- what a job does, and how it ends
  abbrev pub DoesJob : List ℕ → Job → JobEnding → Type 0
  DoesJob file (job.Info j) = Prints (IsInfoAnswer file j.slot j.form)
  DoesJob file (job.Page j) = Prints (IsPageAnswer file j.meta j.id)
  DoesJob file (job.Pages j) = Prints (IsReadAnswer file Active (IsPagesAnswer file j.map))
  DoesJob file (job.Check j) = Prints (IsCheckAnswer j.extent j.snapshot j.for_bbolt file j.meta)
  DoesJob file (job.States j) = Prints (IsStatesPrint j file)
  DoesJob file (job.Buckets j) = Prints (IsBucketsPrint j file)
  DoesJob file (job.Stats j) = Prints (IsStatsPrint j file)
  DoesJob file (job.Keys j) = Prints (IsKeysPrint j file)
  DoesJob file (job.Get j) = Prints (IsGetPrint j file)
  DoesJob file (job.List j) = Prints (IsListPrint j file)
  DoesJob file (job.Compact j) = MakesCopy file j.meta j.page_size j.kind j.extent
  DoesJob file (job.EtcdRevisions j) = Prints (IsEtcdRevisionsPrint j file)
  DoesJob file (job.EtcdKeys j) = Prints (IsEtcdKeysPrint j file)
  DoesJob file (job.EtcdGet j) = Prints (IsEtcdGetPrint j file)
  DoesJob file (job.EtcdCheck j) = Prints (IsEtcdCheckPrint j file)
  DoesJob file (job.EtcdStatus j) = Prints (IsEtcdStatusPrint j file)
  DoesJob file (job.EtcdRepair j) = MakesRepair file j.meta j.page_size j.kind j.search
  DoesJob file (job.Load j) = Loads file j.page_size.bytes j.sequence j.kind

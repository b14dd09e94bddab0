-- What a job does, whatever its standard output and its target are.
use Rattle.std.proofs.Common.{◌≡◌, ◌<◌, ◌∙◌, ap, inl, inr, ℕ, List, [], Option, None, Some, Bool, length, refl, subst, sym}
use Rattle.bolt_cli.proofs.Vocabulary.{Answer, CopiesUnless, CopyKind, WritesAnswer, DoesJob, JobEnding, Extent, Ghosts, Job, MakesCopy, Member}
use Rattle.bolt_cli.proofs.Vocabulary.{MetaChoice, PageSize, ShowsJob, WritesCopy, WritesRepaired, copy_page_size, copy_report, done, buffered_of}
use Rattle.bolt_cli.proofs.Vocabulary.{buffered_sink, hash_refusal, lengths_line, repair_report, target_name}
use Rattle.bolt_cli.proofs.Vocabulary.{text_members, ∥∥₁_map}
use Rattle.bolt_job.specs.declared.job.Job.TheVariants as job

module _ {O T : Type 0} (out : Ghosts O) (out_old out_new : O) (target : Ghosts T) (target_old target_new : T) where
  -- a job without an OUT does the same, whatever its target is
  pub shown : (file : List ℕ) (j : Job) (ending : JobEnding) → target_name j ≡ None
      → DoesJob out out_old out_new target target_old target_new file j ending
      → ShowsJob out out_old out_new file j ending
  shown file (job.Compact j) ending none does = absurd (cc)
  shown file (job.Load j) ending none does = absurd (cc)
  shown file (job.EtcdRepair j) ending none does = absurd (cc)
  shown file j ending none (answer, is, does, same) = (answer, is, does, refl)

-- a job does the same on a sink that is seen as what it holds
module _ {O T : Type 0} (out : Ghosts O) (target : Ghosts T) (out_old out_new : O) (target_old target_new : T) {text : List ℕ} {failures : ℕ}
    (was_empty : out.taken out_old ≡ Some []) (was_sound : out.failed out_old ≡ 0)
    (holds : out.taken out_new ≡ Some text) (fails : out.failed out_new ≡ failures) where
  does_buffered : (answer : Answer) (ending : JobEnding) → WritesAnswer out out_old out_new answer ending
      → WritesAnswer buffered_sink (buffered_of [] 0) (buffered_of text failures) answer ending
  does_buffered answer ending (inl (put, same, is)) = inl (rw holds at (rw was_empty at put), sym fails ∙ same ∙ was_sound, is)
  does_buffered answer ending (inr (less, part, is)) = inr (
    subst (λ n. 0 < n) fails less,
    record { front = part.front; rest = part.rest; parts = part.parts; taken = rw holds at (rw was_empty at part.taken) },
    is,
  )

  untouched : out_new ≡ out_old → buffered_of text failures ≡ buffered_of [] 0
  untouched same =
      let empty : text ≡ [] = (let both : Some text ≡ Some [] = sym holds ∙ ap out.taken same ∙ was_empty in cc) in
      let sound : failures ≡ 0 = sym fails ∙ ap out.failed same ∙ was_sound in
      ap (λ t. buffered_of t failures) empty ∙ ap (buffered_of []) sound

  written : (kind : CopyKind) (page_size : ℕ) (listing : List Member) (sequence : ℕ) (answer : ℕ → Answer) (ending : JobEnding)
      → WritesCopy out out_old out_new target target_old target_new kind page_size listing sequence answer ending
      → WritesCopy buffered_sink (buffered_of [] 0) (buffered_of text failures) target target_old target_new kind page_size listing sequence answer
      ending
  written kind page_size listing sequence answer ending (inl (small, good, put, sound, does)) =
      inl (small, good, put, sound, does_buffered _ ending does)
  written kind page_size listing sequence answer ending (inr (failure, stops, same, is)) = inr (failure, stops, untouched same, is)

  module _ (kind : CopyKind) (page_size : ℕ) (listing : List Member) (sequence : ℕ) (answer : ℕ → Answer) (ending : JobEnding) where
    unless : (hash : _)
        → CopiesUnless out out_old out_new target target_old target_new hash
        (WritesCopy out out_old out_new target target_old target_new kind page_size listing sequence answer) ending
        → CopiesUnless buffered_sink (buffered_of [] 0) (buffered_of text failures) target target_old target_new hash
        (WritesCopy buffered_sink (buffered_of [] 0) (buffered_of text failures) target target_old target_new kind page_size listing sequence answer)
        ending
    unless (Some fault) (same, untouched_target, is) = (untouched same, untouched_target, is)
    unless None writes = written kind page_size listing sequence answer ending writes

  copied : (file : List ℕ) (choice : MetaChoice) (size : Option PageSize) (kind : CopyKind) (extent : Extent) (ending : JobEnding)
      → MakesCopy out out_old out_new target target_old target_new file choice size kind extent ending
      → MakesCopy buffered_sink (buffered_of [] 0) (buffered_of text failures) target target_old target_new file choice size kind extent ending
  copied file choice size kind extent ending (inl (meta, listing, lost, found, read, faults, are, copies)) = inl (
    meta,
    listing,
    lost,
    found,
    read,
    faults,
    are,
    unless kind (copy_page_size size meta) listing meta.root_sequence (copy_report faults lost found (length file)) ending
        (hash_refusal extent faults.hash) copies,
  )
  copied file choice size kind extent ending (inr (why, unread, (same, untouched_target, is))) =
      inr (why, unread, (untouched same, untouched_target, is))

  repaired : (file : List ℕ) (choice : MetaChoice) (size : Option PageSize) (kind : CopyKind) (search : Bool) (ending : JobEnding)
      → WritesRepaired out out_old out_new target target_old target_new file choice size kind search ending
      → WritesRepaired buffered_sink (buffered_of [] 0) (buffered_of text failures) target target_old target_new file choice size kind search ending
  repaired file choice size kind search ending (meta, listing, lost, unread_views, back, left_out, is, faults, are, writes) = (
    meta,
    listing,
    lost,
    unread_views,
    back,
    left_out,
    is,
    faults,
    are,
    written kind (copy_page_size size meta) listing meta.root_sequence (repair_report faults lost unread_views back left_out (length file)) ending writes,
  )

  pub buffered_job : (file : List ℕ) (j : Job) (ending : JobEnding)
      → DoesJob out out_old out_new target target_old target_new file j ending
      → DoesJob buffered_sink (buffered_of [] 0) (buffered_of text failures) target target_old target_new file j ending
  buffered_job file (job.Compact j) ending does = copied file j.meta j.page_size j.kind j.extent ending does
  buffered_job file (job.Load j) ending does = elim does [
    | inl (right, writes) ↦
        inl (right, written j.kind j.page_size.bytes (text_members file) j.sequence (λ copy. done (lengths_line (length file) copy)) ending writes)
    | inr (fault, is, (same, target, ends)) ↦ inr (fault, is, (untouched same, target, ends))
  ]
  buffered_job file (job.EtcdRepair j) ending does = elim does [
    | inl made ↦ inl (∥∥₁_map made (repaired file j.meta j.page_size j.kind j.search ending))
    | inr (why, is, (same, target, ends)) ↦ inr (why, is, (untouched same, target, ends))
  ]
  buffered_job file j ending (answer, is, does, same) = (answer, is, does_buffered answer ending does, same)

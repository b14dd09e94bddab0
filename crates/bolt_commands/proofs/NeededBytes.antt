-- A job that shows nothing but metas does the same on any two files with the same metas.
use Rattle.std.proofs.Common.{◌≡◌, ◌↔◌, inl, inr, ℕ, List, Option, None, Some, true}
use Rattle.bolt_commands.proofs.Vocabulary.{Answer, DoesJob, JobEnding, FigureForm, Ghosts, HasMetaFault, HasSlotFault, IsActive, IsInSlot, IsInfoAnswer}
use Rattle.bolt_commands.proofs.Vocabulary.{Job, Meta, MetaFault, Slot}
use Rattle.bolt_job.specs.Jobs.{needs_metas_alone}
use Rattle.bolt_job.specs.declared.job.Job.TheVariants as job

-- the metas of two files, and the faults of their first, are the same
pub record SameMetas (file other : List ℕ) : Type 0 where
  pub chosen : (slot : Slot) (meta : Meta) → IsActive file slot meta ↔ IsActive other slot meta
  pub slot : (slot : Slot) (meta : Meta) → IsInSlot file slot meta ↔ IsInSlot other slot meta
  pub fault : (fault : MetaFault) → HasMetaFault file 0 fault ↔ HasMetaFault other 0 fault
  pub slot_fault : (slot : Slot) (fault : MetaFault) → HasSlotFault file slot fault ↔ HasSlotFault other slot fault

answer_there : (file other : List ℕ) (wanted : Option Slot) (form : FigureForm) (answer : Answer) → SameMetas file other
    → IsInfoAnswer file wanted form answer
    → IsInfoAnswer other wanted form answer
answer_there file other None form answer s (inl (slot, meta, chosen, is)) = inl (slot, meta, (s.chosen slot meta).0 chosen, is)
answer_there file other (Some named) form answer s (inl (slot, meta, (same, lies), is)) = inl (slot, meta, (same, (s.slot named meta).0 lies), is)
answer_there file other None form answer s (inr (fault, (has, none), is)) =
    inr (fault, ((s.fault fault).0 has, λ slot meta valid. none slot meta ((s.slot slot meta).1 valid)), is)
answer_there file other (Some named) form answer s (inr (fault, (has, none), is)) =
    inr (fault, ((s.slot_fault named fault).0 has, λ meta valid. none meta ((s.slot named meta).1 valid)), is)

back : (file other : List ℕ) → SameMetas file other → SameMetas other file
back file other s = record {
  chosen = λ slot meta. ((s.chosen slot meta).1, (s.chosen slot meta).0);
  slot = λ slot meta. ((s.slot slot meta).1, (s.slot slot meta).0);
  fault = λ fault. ((s.fault fault).1, (s.fault fault).0);
  slot_fault = λ slot fault. ((s.slot_fault slot fault).1, (s.slot_fault slot fault).0);
}

module _ {O T : Type 0} (out : Ghosts O) (target : Ghosts T) (part file : List ℕ) (same : SameMetas part file) where
  pub enough : (j : Job) → needs_metas_alone j ≡ true → (out_old out_new : O) (target_old target_new : T) (ending : JobEnding)
      → DoesJob out out_old out_new target target_old target_new part j ending
      ↔ DoesJob out out_old out_new target target_old target_new file j ending
  enough (job.Info j) is out_old out_new target_old target_new ending = (
    (λ h. (h.0, answer_there part file j.slot j.form h.0 same h.1, h.2, h.3)),
    (λ h. (h.0, answer_there file part j.slot j.form h.0 (back part file same) h.1, h.2, h.3)),
  )
  enough j is out_old out_new target_old target_new ending = absurd (cc)

-- A file that is checked, by a search of its trees or by a recovery that lost nothing.
use Rattle.std.proofs.Common.{◌≡◌, ◌∙◌, ◌∷◌, List, [], ℕ, Result, Ok, Err, refl, subst, sym, true}
use Rattle.std.specs.Prelude.{IfErr, IfOk, IsTrue, OnOk}
use Rattle.bolt_check.specs.{CheckedFiles.bytes_of, CheckedFiles.meta_of, Sound.HasRightAccounts, Sound.HasSoundTrees, Sound.IsRefusedFor}
use Rattle.bolt_check.specs.declared.check_fault.CheckFault.TheVariants as check
use Rattle.bolt_check.specs.declared.checked.Checked.{Checked}
use Rattle.bolt_format.specs.{Metas.IsInSlot, declared.meta.Slot.Slot}
use Rattle.bolt_job.specs.declared.choices.MetaChoice.TheVariants.{Active, Assumed, InSlot}
use Rattle.bolt_recover.proofs.Exports.{has_losses}
use Rattle.bolt_recover.specs.{Lost.IsAllLost, Losses.AreLosses}
use Rattle.bolt_commands.proofs.Vocabulary.{CheckFault, ForLosses, IsMetaOf, IsReadUnder, IsRefusedUnder, LossView, LostView, Meta, MetaChoice}
use Rattle.bolt_commands.proofs.Vocabulary.{everything, false≢true, is_nothing, parts}
use Rattle.bolt_commands.specs.{FilesRead.counts_accounts, Private.Contents.IsCheckOf}

pub checked_so : (file : List ℕ) (choice : MetaChoice) (checked : Result Checked CheckFault) → IfOk checked (λ c. bytes_of c ≡ file)
    → IfOk checked (λ c. IsReadUnder file choice (meta_of c)) → IfErr checked (IsRefusedUnder file choice)
    → IsCheckOf file choice checked
checked_so file choice (Ok checked) bytes under refused = record { bytes = bytes; under = under }
checked_so file choice (Err fault) bytes under refused = refused

-- the meta that is active stands in a slot
pub slot_of : (file : List ℕ) (choice : MetaChoice) (meta : Meta) → IsMetaOf file choice meta → IsTrue (counts_accounts choice)
    → (slot : Slot) × IsInSlot file slot meta
slot_of file Active meta (slot, active) counts = (slot, active.valid)
slot_of file (InSlot slot) meta under counts = absurd (false≢true counts)
slot_of file (Assumed assumed) meta under counts = absurd (false≢true counts)

refused_so : (file : List ℕ) (choice : MetaChoice) (meta : Meta) (fault : CheckFault) → IsMetaOf file choice meta
    → IsRefusedFor file meta (counts_accounts choice) fault
    → IsRefusedUnder file choice fault
refused_so file choice meta (check.Open fault) under refused = absurd refused
refused_so file choice meta (check.Structure x) under refused = (meta, under, refused)
refused_so file Active meta (check.Accounts reported) under refused = (refl, (meta, under, refused))
refused_so file (InSlot slot) meta (check.Accounts reported) under refused = absurd refused
refused_so file (Assumed assumed) meta (check.Accounts reported) under refused = absurd refused
refused_so file choice meta check.Memory under refused = tt

-- by a recovery that lost nothing
pub kept_so : (file : List ℕ) (choice : MetaChoice) (meta : Meta) (checked : Result Checked CheckFault) → IsMetaOf file choice meta
    → HasSoundTrees file meta
    → IfOk checked (λ c. bytes_of c ≡ file) → IfOk checked (λ c. meta_of c ≡ meta)
    → OnOk checked (IsTrue (counts_accounts choice) → HasRightAccounts file meta)
    → IfErr checked (IsRefusedFor file meta (counts_accounts choice))
    → IsCheckOf file choice checked
kept_so file choice meta (Ok checked) under trees bytes same right refused = record { bytes = bytes; under = rw same (under, trees, right) }
kept_so file choice meta (Err fault) under trees bytes same right refused = refused_so file choice meta fault under refused

nothing_in : (losses : List LossView) → is_nothing (parts losses) ≡ true → losses ≡ []
nothing_in [] none = refl
nothing_in (loss ∷ losses) none = absurd (false≢true none)

-- of which all losses are known
pub whole_recovered : (file : List ℕ) (meta : Meta) (losses : List LossView) → is_nothing (parts losses) ≡ true
    → ForLosses file meta (λ all. losses ≡ all)
    → AreLosses file meta []
whole_recovered file meta losses none known =
    let (all, are) = has_losses file meta in subst (AreLosses file meta) (sym (known all are) ∙ nothing_in losses none) are

pub whole_searched : (file : List ℕ) (meta : Meta) (lost : LostView) → is_nothing lost ≡ true → IsAllLost file meta lost → AreLosses file meta []
whole_searched file meta (everything x) none is = absurd (false≢true none)
whole_searched file meta (parts losses) none (keeps, all) = whole_recovered file meta losses none all

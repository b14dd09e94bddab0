-- The copy of the repaired listing, and what is then reported of it.
use Rattle.std.proofs.Common.{◌≡◌, ℕ, List, Bool, Option, Result, Err, Ok, inl, inr, length, refl, subst, sym}
use Rattle.bolt_commands.proofs.Vocabulary.{Answer, CopiesListing, WritesAnswer, JobEnding, Failure, Ghosts, IsAskedBlueprint, IsSearchOf, LostAndFound}
use Rattle.bolt_commands.proofs.Vocabulary.{Member, Meta, MetaChoice, PageSize, AreCopyFaults, FileFaults, all_lost, copy_page_size}
use Rattle.bolt_commands.proofs.Vocabulary.{is_snapshot, layout_for, layout_of_listing, ∥∥₁_map}
use Rattle.bolt_commands.proofs.CopyAnswers.{copy_asked, listing_done, listing_failed}
use Rattle.bolt_bulk.specs.declared.blueprint.Blueprint.{Blueprint}
use Rattle.bolt_job.specs.{declared.choices.CopyKind.CopyKind, declared.choices.Extent.TheVariants.FoundPages}
use Rattle.bolt_repair.specs.{FullRepairs.IsFullRepair, RepairedMembers.IsRepairOf, RepairedMembers.repair_file, RepairedMembers.repair_meta}
use Rattle.bolt_repair.specs.{RepairedMembers.repair_search, RepairedMerges.repair_back, RepairedMerges.repair_made, RepairedMerges.repair_unread}
use Rattle.bolt_repair.specs.{Repaired.IsRepaired, Repaired.repaired_listing, declared.repair.Repair.Repair}
use Rattle.bolt_repair.specs.declared.repair_fault.RepairFault.TheVariants.{Memory}
use Rattle.bolt_commands.specs.{JobAnswers.WritesCopy, JobAnswers.WritesRepaired, Private.Contents.IsUnsearched, Private.Repairing.CopiesTheRepaired}
use Rattle.bolt_commands.specs.{RepairAnswers.IsRepairedUnder, RepairAnswers.IsUnrepairableUnder, RepairAnswers.repair_report}

-- a file that isn't searched isn't repaired
pub unsearched_unrepaired : (file : List ℕ) (choice : MetaChoice) (why : Failure) → IsUnsearched file choice why → (search : Bool)
    → IsUnrepairableUnder file choice search why
unsearched_unrepaired file choice why (inl none) search = inr none
unsearched_unrepaired file choice why (inr (meta, under, is)) search = inl (meta, Memory, under, tt, is)

-- The repair of a file that was searched.
module _ {file : List ℕ} {choice : MetaChoice} {searched : LostAndFound} (facts : IsSearchOf file choice searched) {search : Bool} {repair : Repair}
    (found : IsRepairOf file searched.meta search repair) where
  module _ (full : IsFullRepair file searched.meta search (repair_back repair) (repair_made repair) repair.left_out) where
    abbrev the_repaired : List Member
    the_repaired = repaired_listing full.repair.recovered (repair_made repair) (repair_back repair)

    is_repaired : IsRepaired (repair_file repair) (repair_meta repair) (repair_search repair) the_repaired
    is_repaired =
        let is : IsRepaired file searched.meta search the_repaired =
        record { back = repair_back repair; made = repair_made repair; repair = full.repair; repaired = refl } in
        subst (λ (f : List ℕ). IsRepaired f (repair_meta repair) (repair_search repair) the_repaired) (sym found.same_file)
        (subst (λ (m : Meta). IsRepaired file m (repair_search repair) the_repaired) (sym found.same_meta)
        (subst (λ (asked : Bool). IsRepaired file searched.meta asked the_repaired) (sym found.same_search) is))

    is_repaired_under : (back : ℕ) → back ≡ length (repair_back repair)
        → IsRepairedUnder file choice search searched.meta the_repaired (all_lost searched) (repair_unread repair) back repair.left_out
    is_repaired_under back counts = record {
      under = facts.under;
      loses = facts.lost;
      entries = repair_back repair;
      made = repair_made repair;
      repairs = full;
      lists = refl;
      leaves = found.leaves full.repair.recovered full.repair.recovers;
      counts = counts;
      store = λ none. found.store none full.repair.recovered full.repair.recovers;
    }

  abbrev report : FileFaults → (back copy : ℕ) → Answer
  report faults back copy = repair_report faults (all_lost searched) (repair_unread repair) back repair.left_out (length file) copy

  -- its copy is whole and reported, or it isn't whole and nothing is
  module _ {O T : Type 0} (out : Ghosts O) (out_old : O) {target : Ghosts T} {old new : T} {kind : CopyKind} {size : Option PageSize}
      {blueprint : Blueprint} (asked : IsAskedBlueprint kind size searched.meta blueprint)
      {faults : FileFaults} (are : AreCopyFaults FoundPages kind file choice faults) (ending : JobEnding) where
    -- the copy of the blueprint that is asked for
    copied_as_asked : (full : _) (result : Result ℕ Failure) → CopiesTheRepaired target old new repair blueprint (is_snapshot kind) result
        → CopiesListing target old new (layout_of_listing (layout_for kind) (copy_page_size size searched.meta) (the_repaired full) searched.meta.root_sequence)
        (the_repaired full) (is_snapshot kind) result
    copied_as_asked full result copies = let (made, copy, same) = copies (the_repaired full) (is_repaired full) in (made, copy_asked asked copy, same)

    writes_repaired : (out_new : O) (back : ℕ) → back ≡ length (repair_back repair)
        → ((full : _) → WritesCopy out out_old out_new target old new kind (copy_page_size size searched.meta) (the_repaired full) searched.meta.root_sequence
        (report faults back) ending)
        → ∥ WritesRepaired out out_old out_new target old new file choice size kind search ending ∥₁
    writes_repaired out_new back counts writes = ∥∥₁_map found.full (λ full. (
      searched.meta,
      the_repaired full,
      all_lost searched,
      repair_unread repair,
      back,
      repair.left_out,
      is_repaired_under full back counts,
      faults,
      are,
      writes full,
    ))

    pub repair_failed : (why : Failure) → CopiesTheRepaired target old new repair blueprint (is_snapshot kind) (Err why) → ending ≡ Err why
        → ∥ WritesRepaired out out_old out_old target old new file choice size kind search ending ∥₁
    repair_failed why copies ends =
        writes_repaired out_old _ refl (λ full. listing_failed out out_old (report faults _) ending why (copied_as_asked full (Err why) copies) ends)

    pub repair_done : {out_new : O} (back count : ℕ) → back ≡ length (repair_back repair)
        → CopiesTheRepaired target old new repair blueprint (is_snapshot kind) (Ok count)
        → WritesAnswer out out_old out_new (report faults back count) ending
        → ∥ WritesRepaired out out_old out_new target old new file choice size kind search ending ∥₁
    repair_done {out_new} back count counts copies does =
        writes_repaired out_new back counts (λ full. listing_done out out_old (report faults back) ending count (copied_as_asked full (Ok count) copies) does)

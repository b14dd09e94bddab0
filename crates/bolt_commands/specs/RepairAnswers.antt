-- What `etcd-repair` answers: docs/COMMANDS.md, "etcd-repair".
use Rattle.std.specs.Prelude.{◌≡◌, ◌⊎◌, ℕ, Bool, List, [], ◌∷◌, ◌++◌, is_some, codes, decimal, length, Ok}
use Rattle.bolt_format.specs.{declared.meta.Meta.Meta, declared.meta.MetaFault.MetaFault}
use Rattle.bolt_recover.specs.{Losses.LostView, Lost.IsAllLost}
use Rattle.bolt_repair.specs.{FullRepairs.IsFullRepair, RepairRefusals.IsRepairRefusal, Repaired.HasStore, Repaired.repaired_listing}
use Rattle.bolt_repair.specs.{declared.repair_fault.RepairFault.RepairFault}
use Rattle.bolt_report.specs.{FoundLines.lost_text, UnreadLines.unread_text}
use Rattle.bolt_etcd.specs.Wire.UnreadEntries.{UnreadView}
use Rattle.bolt_repair.specs.{Bounds.repair_bound, Readable.unread, Repaired.Made, declared.bound.Bound.Bound}
use Rattle.bolt_repair.specs.declared.bound.Bound.TheVariants as bound
use Rattle.bolt_tree.specs.{Entries.EntryView, Listing.Member}
use Rattle.bolt_commands.specs.{Failures.repair_failure, FileFaults.fault_lines, declared.failure.Failure.Failure}
use Rattle.bolt_commands.specs.{declared.file_faults.FileFaults.FileFaults, Answers.Answer}
use Rattle.bolt_commands.specs.CopyAnswers.{copy_status, lengths_line}
use Rattle.bolt_job.specs.{MetaChoices.HasNoMetaOf, MetaChoices.IsMetaOf, declared.choices.MetaChoice.MetaChoice}
use Rattle.bolt_commands.specs.declared.failure.Failure.TheVariants as failure

-- The repaired listing of a file under the meta that is chosen, with pages looked for in any case or only if
-- something is lost, what is lost of it, which entries aren't copied, how many revisions go back, and how
-- many stay out. If none goes back, the bucket is there.
pub record IsRepairedUnder (file : List ℕ) (choice : MetaChoice) (search : Bool) (meta : Meta) (listing : List Member) (lost : LostView)
    (unread_views : List UnreadView) (back left_out : ℕ) : Type 0 where
  pub under : IsMetaOf file choice meta
  pub loses : IsAllLost file meta lost
  pub entries : List EntryView
  pub made : Made
  pub repairs : IsFullRepair file meta search entries made left_out
  pub lists : listing ≡ repaired_listing repairs.repair.recovered made entries
  pub leaves : unread_views ≡ unread repairs.repair.recovered
  pub counts : back ≡ length entries
  pub store : entries ≡ [] → HasStore repairs.repair.recovered

-- why there is none
abbrev pub IsUnrepairableUnder : List ℕ → MetaChoice → (search : Bool) → Failure → Type 0
IsUnrepairableUnder file choice search why =
    ((meta : Meta) × (fault : RepairFault) × IsMetaOf file choice meta × IsRepairRefusal file meta search fault × (why ≡ repair_failure fault))
    ⊎ ((fault : MetaFault) × HasNoMetaOf file choice fault × (why ≡ failure.Open fault))

-- the line with the numbers of revisions that go back, and of those that stay out
abbrev pub counts_line : (back left_out : ℕ) → List ℕ
counts_line back left_out = (decimal back ++ codes " revisions put back, ") ++ (decimal left_out ++ codes " left out\n")

-- the line that says which revisions the copy may lack
abbrev pub bound_line : Bound → List ℕ
bound_line bound.Nothing = []
bound_line (bound.UpTo main) = codes "revisions up to " ++ (decimal main ++ codes " may be missing\n")
bound_line bound.Any = codes "any revision may be missing\n"

-- the status of a repair: that of a copy, and 1 if an entry isn't copied
abbrev pub repair_status : FileFaults → LostView → List UnreadView → ℕ
repair_status faults lost [] = copy_status faults lost
repair_status faults lost (other ∷ unread_views) = 1

-- what is reported of a repair: what is wrong with its file apart from the pages, each loss, each entry that isn't copied, which revisions the copy
-- may lack, how many go back, and the lengths of the file and of the copy
abbrev pub repair_report : FileFaults → LostView → List UnreadView → (back left_out source copy : ℕ) → Answer
repair_report faults lost unread_views back left_out source copy = record {
  out = fault_lines faults ++ (lost_text lost [] ++ (unread_text unread_views ++ ((bound_line (repair_bound lost unread_views (is_some faults.other))
      ++ counts_line back left_out) ++ lengths_line source copy)));
  ending = Ok (repair_status faults lost unread_views);
}

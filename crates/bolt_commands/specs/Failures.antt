-- Why a job isn't done, and what is reported of it: docs/COMMANDS.md, "What a run writes".
use Rattle.std.specs.Prelude.{◌≡◌, List, ◌++◌, ℕ, Some, codes, decimal, option_map, slice_get}
use Rattle.bolt_bulk.specs.declared.bulk_fault.BulkFault.{BulkFault}
use Rattle.bolt_bulk.specs.declared.bulk_fault.BulkFault.TheVariants as bulk
use Rattle.bolt_check.specs.{declared.check_fault.CheckFault.CheckFault, ShownFindings.findings_in}
use Rattle.bolt_check.specs.declared.check_fault.CheckFault.TheVariants as check
use Rattle.bolt_load.specs.{LoadFaultWords.line_fault_words, declared.load_fault.LoadFault.LoadFault}
use Rattle.bolt_load.specs.declared.load_fault.LoadFault.TheVariants as load
use Rattle.bolt_recover.specs.declared.join_fault.JoinFault.{JoinFault}
use Rattle.bolt_recover.specs.declared.join_fault.JoinFault.TheVariants as join
use Rattle.bolt_repair.specs.declared.repair_fault.RepairFault.{RepairFault}
use Rattle.bolt_repair.specs.declared.repair_fault.RepairFault.TheVariants as repair
use Rattle.bolt_report.specs.FaultWords.{finding_text, meta_fault_text, page_fault_text, snapshot_fault_text}
use Rattle.bolt_text.specs.declared.report_fault.ReportFault.{ReportFault}
use Rattle.bolt_text.specs.declared.report_fault.ReportFault.TheVariants as report
use Rattle.bolt_commands.specs.{Shortfalls.shortfall_text, declared.failure.Failure.Failure}
use Rattle.bolt_commands.specs.declared.failure.Failure.TheVariants.{BucketMaybeLost, Compacted, Exists, File, Hash, KeyMaybeLost, Line, Lacking}
use Rattle.bolt_commands.specs.declared.failure.Failure.TheVariants.{Memory, Open, NoBucket, NoKey, NoState, NotABucket, NotRevisions, Page, TooLarge}
use Rattle.bolt_commands.specs.declared.failure.Failure.TheVariants.{TooManyPages, Write}

abbrev pub failure_text : Failure → List ℕ
failure_text (Open fault) = meta_fault_text fault
failure_text (File finding) = codes "file refused: " ++ finding_text finding
failure_text (Page fault) = page_fault_text fault
failure_text NoBucket = codes "bucket not found\n"
failure_text NoKey = codes "key not found\n"
failure_text NoState = codes "no state found\n"
failure_text (BucketMaybeLost lacking) = codes "bucket not found; " ++ shortfall_text lacking
failure_text (KeyMaybeLost lacking) = codes "key not found; " ++ shortfall_text lacking
failure_text Memory = codes "out of memory\n"
failure_text TooLarge = codes "layout too large\n"
failure_text TooManyPages = codes "too many pages\n"
failure_text Write = codes "write failed\n"
failure_text (Hash fault) = snapshot_fault_text fault
failure_text Exists = codes "lost+found exists\n"
failure_text NotABucket = codes "key is not a bucket\n"
failure_text (NotRevisions count) = codes "not revisions: " ++ (decimal count ++ codes "\n")
failure_text Compacted = codes "revision compacted\n"
failure_text (Lacking lacking) = shortfall_text lacking
failure_text (Line number fault) = codes "line " ++ ((decimal number ++ codes ": ") ++ (line_fault_words fault ++ codes "\n"))

-- a failure is one line on standard error
abbrev pub failure_line : Failure → List ℕ
failure_line failure = codes "error: " ++ failure_text failure

-- the failure if a text wasn't written
abbrev pub report_failure : ReportFault → Failure
report_failure report.Sink = Write
report_failure report.NoMemory = Memory
report_failure (report.Page fault) = Page fault

-- the failure if a copy wasn't written whole
abbrev pub copy_failure : BulkFault → Failure
copy_failure bulk.Memory = Memory
copy_failure bulk.TooLarge = TooLarge
copy_failure bulk.Sink = Write

-- the failure if a file isn't read as the text of a listing
abbrev pub load_failure : LoadFault → Failure
load_failure load.Memory = Memory
load_failure (load.Line number fault) = Line number fault

-- the failure if there is no joined listing
abbrev pub join_failure : JoinFault → Failure
join_failure (join.Rootless x) = File x
join_failure join.Exists = Exists
join_failure join.TooManyPages = TooManyPages
join_failure join.Memory = Memory

-- the failure if a file isn't repaired
abbrev pub repair_failure : RepairFault → Failure
repair_failure (repair.Rootless x) = File x
repair_failure repair.NoBucket = NoBucket
repair_failure repair.NotABucket = NotABucket
repair_failure repair.Memory = Memory

-- the failure of a job whose file is refused; of the findings of the accounts the first is reported
abbrev pub IsFailureOf : CheckFault → Failure → Type 0
IsFailureOf (check.Open fault) failure = failure ≡ Open fault
IsFailureOf (check.Structure x) failure = failure ≡ File x
IsFailureOf (check.Accounts findings) failure = option_map File (slice_get (findings_in findings) 0) ≡ Some failure
IsFailureOf check.Memory failure = failure ≡ Memory

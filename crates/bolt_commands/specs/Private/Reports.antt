-- What a job that makes a copy reports.
use Rattle.std.specs.Prelude.{ℕ, List, [], ◌++◌, map, Option, Some, None, Ok}
use Rattle.bolt_etcd.specs.Wire.UnreadEntries.{shown_unread}
use Rattle.bolt_recover.specs.ShownLosses.{lost_view}
use Rattle.bolt_report.specs.{FoundLines.found_view, FoundLines.lost_text, UnreadLines.unread_text}
use Rattle.bolt_commands.specs.{Answers.Answer, CopyAnswers.lengths_line, FileFaults.fault_lines, RepairAnswers.bound_line, RepairAnswers.counts_line}
use Rattle.bolt_commands.specs.{RepairAnswers.repair_status, declared.copies.CopyReport.CopyReport, declared.repair_counts.RepairCounts.RepairCounts}

-- the lines of what is counted of a repair
abbrev pub counts_text : Option RepairCounts → List ℕ
counts_text None = []
counts_text (Some counts) = bound_line counts.bound ++ counts_line counts.back counts.left_out

-- what is written of a report, if the copy has this length
abbrev pub report_text : CopyReport → (copy : ℕ) → List ℕ
report_text r copy =
    fault_lines r.faults ++ (lost_text (lost_view r.lost) (map found_view r.found.now) ++ (unread_text (map shown_unread r.unread.now)
    ++ (counts_text r.counts ++ lengths_line r.source copy)))

abbrev pub report_answer : CopyReport → (copy : ℕ) → Answer
report_answer r copy =
    record { out = report_text r copy; ending = Ok (repair_status r.faults (lost_view r.lost) (map shown_unread r.unread.now)) }

-- What bbolt fails on: docs/COMMANDS.md, "Errors".
use Rattle.std.specs.Prelude.{◌+◌, List, ℕ, ◌++◌, codes, flat_map, length}
use Rattle.bolt_check.specs.declared.bbolt_file.FileFinding.{FileFinding}
use Rattle.bolt_check.specs.declared.bbolt_file.FileFinding.TheVariants.{LargeTxid, NotMetaPage, NotTaken, PastEnd}
use Rattle.bolt_check.specs.declared.finding.Finding.{Finding}
use Rattle.bolt_report.specs.{FaultWords.count_line, FaultWords.finding_text, FaultWords.pages_sentence, MetaLines.meta_sentence, MetaLines.slot_number}
use Rattle.bolt_text.specs.Lines.{line}

-- the lines of findings on a file as a whole: on the meta of a slot, or on pages in a row
abbrev pub file_finding_text : FileFinding → List ℕ
file_finding_text (NotTaken slot) = line (meta_sentence slot (codes "not taken by bbolt"))
file_finding_text (LargeTxid slot) = line (meta_sentence slot (codes "txid too large for bbolt"))
file_finding_text (NotMetaPage slot) = line (pages_sentence (slot_number slot) (slot_number slot) (codes "not a meta page for bbolt"))
file_finding_text (PastEnd first last) = line (pages_sentence first last (codes "past the end of the file"))

-- the line of each finding of the file as a whole, that of each on its ways, and how many there are
abbrev pub bbolt_findings_text : List FileFinding → List Finding → List ℕ
bbolt_findings_text of_file on_ways =
    flat_map file_finding_text of_file ++ (flat_map finding_text on_ways ++ count_line (length of_file + length on_ways))

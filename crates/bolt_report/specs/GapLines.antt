-- The lines of gaps, after those of findings or losses: docs/COMMANDS.md, "Gaps".
use Rattle.std.specs.Prelude.{◌+◌, ℕ, List, ◌++◌, codes, decimal, flat_map, length}
use Rattle.bolt_check.specs.declared.finding.Finding.{Finding}
use Rattle.bolt_format.specs.Gaps.{GapView, after, before}
use Rattle.bolt_recover.specs.PageGaps.{PageGapView}
use Rattle.bolt_report.specs.FaultWords.{count_line, finding_text}
use Rattle.bolt_text.specs.{Lines.line, NamedPaths.named_key}

-- the end of a gap's line: on which side of which element it is
abbrev pub gap_end : GapView → List ℕ
gap_end (before key) = codes ": gap before " ++ line (named_key key)
gap_end (after key) = codes ": gap after " ++ line (named_key key)

unfoldable pub gap_line : PageGapView → List ℕ
gap_line found = codes "page " ++ (decimal found.page ++ gap_end found.gap)

abbrev pub gaps_text : List PageGapView → List ℕ
gaps_text gaps = flat_map gap_line gaps

-- the line of each finding and of each gap, and then how many errors there are with those before
abbrev pub findings_text : (earlier : ℕ) → List Finding → List PageGapView → List ℕ
findings_text earlier findings gaps =
    flat_map finding_text findings ++ (gaps_text gaps ++ count_line (earlier + length findings + length gaps))

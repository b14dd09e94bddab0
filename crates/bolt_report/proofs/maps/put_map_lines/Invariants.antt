use Rattle.std.proofs.Common.{length}
use Rattle.bolt_report.proofs.{Words.div_ceil, Words.ForRoles, Words.line_at, Words.range_with_len, Words.roles_checked, PageTableLemmas.rows_in}
use Rattle.bolt_text.proofs.Exports.{WroteLines}
use Rattle.bolt_report.proofs.maps.put_map_lines.Given as goal

-- the lines before this one were written
abbrev pub invariant-loop-line : goal.invariant-loop-line
invariant-loop-line g l =
    ForRoles (roles_checked l.table)
    (λ roles. WroteLines g.S.Sink l.initial.sink l.sink (line_at roles (length (rows_in (roles_checked l.table))))
    (range_with_len 0 (div_ceil (length (rows_in (roles_checked l.table))) 64)) l.line)

use Rattle.std.proofs.Common.{◌≡◌, ◌-◌, ◌≤◌, length, map}
use Rattle.bolt_report.proofs.Words.{ForRoles, page_mark, range_with_len, roles_checked}
use Rattle.bolt_report.proofs.maps.page_marks.Given as goal

-- the characters of the pages before this one were added
abbrev pub invariant-loop-id : goal.invariant-loop-id
invariant-loop-id l = record {
  short : length l.marks.items ≤ l.id - l.first;
  marks : ForRoles (roles_checked l.table) (λ roles. l.marks.items ≡ map (λ n. page_mark (roles n)) (range_with_len l.first (l.id - l.first)));
}

use Rattle.std.proofs.Common.{◌≡◌, ◌≤◌, ◌↔◌, List}
use Rattle.bolt_recover.specs.RecoveredMembers.{recovered_left, recovered_path, recovered_work}
use Rattle.bolt_tree.specs.Listing.{Member}
use Rattle.bolt_repair.specs.Stripped.{PassesOver, ReadsRecovered, strip}
use Rattle.bolt_repair.proofs.readable_members.next_readable.Given as goal

-- what was passed over isn't left
abbrev pub invariant-rest : goal.invariant-rest
invariant-rest l = record {
  reads : (whole : List Member) → ReadsRecovered l.recovered whole ↔ ReadsRecovered l.fn.recovered whole;
  left : (whole : List Member) → ReadsRecovered l.fn.recovered whole
      → strip l.is_near (recovered_left l.recovered whole) ≡ strip l.is_near (recovered_left l.fn.recovered whole);
  passed : PassesOver l.is_near l.fn.has_passed l.has_passed (recovered_path l.fn.recovered) (recovered_path l.recovered);
  work : recovered_work l.recovered ≤ recovered_work l.fn.recovered;
}

abbrev pub decreases-rest : goal.decreases-rest
decreases-rest l = recovered_work l.recovered

use Rattle.std.proofs.Common.{◌≡◌, ◌<◌, ◌^◌, drop, length}
use Rattle.bolt_check.specs.Counts.{counted}
use Rattle.bolt_repair.specs.Candidates.{under_revision_keys, found_elements}
use Rattle.bolt_repair.proofs.candidates.count_candidates.Given as goal

-- those so far and those of the pages from here on are all
abbrev pub invariant-rest : goal.invariant-rest
invariant-rest l = record {
  fits : l.n < 2 ^ 64;
  all : counted l.n (length (under_revision_keys (found_elements (drop l.page-index l.found))))
      ≡ counted 0 (length (under_revision_keys (found_elements l.found)));
}

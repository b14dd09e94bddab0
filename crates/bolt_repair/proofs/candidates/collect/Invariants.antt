use Rattle.std.proofs.Common.{◌≡◌, ◌++◌, drop, map}
use Rattle.bolt_etcd.specs.Wire.ShownRevisions.{entry_of}
use Rattle.bolt_repair.specs.Candidates.{candidates_in, found_elements}
use Rattle.bolt_repair.proofs.candidates.collect.Given as goal

-- those so far and those of the pages from here on are all
abbrev pub invariant-rest : goal.invariant-rest
invariant-rest l = map entry_of l.candidates.items ++ candidates_in (found_elements (drop l.page-index l.found)) ≡ candidates_in (found_elements l.found)

use Rattle.std.proofs.Common.{◌≡◌, false, take}
use Rattle.std.specs.List.{All}
use Rattle.bolt_etcd.specs.{Store.Newest.is_until, Wire.ShownRevisions.shown_revision}
use Rattle.bolt_repair.proofs.repair.has_old.Given as goal

-- none so far is old
abbrev pub invariant-loop-revision : goal.invariant-loop-revision
invariant-loop-revision l = All (λ r. is_until l.compacted (shown_revision r) ≡ false) (take l.revision-index l.revisions)

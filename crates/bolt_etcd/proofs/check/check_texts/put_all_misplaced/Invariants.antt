use Rattle.std.proofs.Common.{drop, map}
use Rattle.bolt_etcd.specs.{Check.CheckLines.misplaced_line, Check.Misplaced.misplaced, Wire.ShownRevisions.shown_revision}
use Rattle.bolt_etcd.proofs.ListedTexts.{Listed}
use Rattle.bolt_etcd.proofs.check.check_texts.put_all_misplaced.Given as goal

-- the lines of those that are ahead are still to be written, and the others were counted
abbrev pub invariant-rest : goal.invariant-rest
invariant-rest g l = Listed g.S.Sink l.initial.sink l.sink (map misplaced_line (misplaced (map shown_revision l.revisions)))
    (map misplaced_line (misplaced (map shown_revision (drop l.revision-index l.revisions)))) l.number

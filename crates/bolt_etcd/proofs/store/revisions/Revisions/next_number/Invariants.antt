use Rattle.bolt_etcd.specs.{Wire.Numbered.numbered_of, Store.RevisionsLeft.number_ahead}
use Rattle.bolt_etcd.proofs.PassSteps.{GoesBy}
use Rattle.bolt_etcd.proofs.store.revisions.Revisions.next_number.Given as goal

abbrev pub invariant-rest : goal.invariant-rest
invariant-rest l = GoesBy numbered_of l.fn.self l.self

abbrev pub decreases-rest : goal.decreases-rest
decreases-rest l = number_ahead l.self

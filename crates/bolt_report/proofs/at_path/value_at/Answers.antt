use Rattle.std.proofs.Common.{ap}
use Rattle.bolt_report.proofs.LookUps.{bucket_apart, value_elsewhere, value_there}
use Rattle.bolt_tree.specs.ShownEntries.{item_view}
use Rattle.bolt_report.proofs.at_path.value_at.Goals as goal
use Rattle.bolt_report.proofs.at_path.value_at.Goals.{in_default-via-in-Value+else-eq, in_default-via-in_default}

pub returns-in-Value-clause-some : goal.returns-in-Value-clause-some
returns-in-Value-clause-some c =
    value_there c.args.path.now c.args.wanted.now c.eq.result c.eq.ensures (item_view c.args.item.now) c.in-Value.value.now c.if-eq.true
    (ap item_view c.in-Value.is)

pub returns-in_default-clause-none : goal.returns-in_default-clause-none
returns-in_default-clause-none c = λ value is. elim c.in_default.branch [
  | in_default-via-in-Value+else-eq w ↦
      value_elsewhere c.args.path.now c.args.wanted.now w.eq.result w.eq.ensures (item_view c.args.item.now) value w.if-eq.false is
  | in_default-via-in_default w ↦ bucket_apart _ _ _ value (rw (ap item_view w.in_default.is) at is)
]

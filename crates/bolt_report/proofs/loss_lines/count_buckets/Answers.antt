use Rattle.std.proofs.Common.{arith}
use Rattle.bolt_report.proofs.{Words.leaf_view, FoundLemmas.counts_none, FoundLemmas.counts_one, loss_lines.count_buckets.Goals.then-element}
use Rattle.bolt_report.proofs.{loss_lines.count_buckets.Goals.else-element}
use Rattle.bolt_format.specs.TreePages.{leaves_on}
use Rattle.bolt_report.proofs.loss_lines.count_buckets.Goals as goal

pub loop-i-preserved : goal.loop-i-preserved
loop-i-preserved c =
    let elements = leaves_on c.args.page.now in
    let before = c.loop-i.invariant in
    elim c.if-element.branch [
      | then-element w ↦ (
        rw w.count-is (counts_one elements c.loop-i.i (leaf_view c.element.result) c.element.ensures.element c.loop-i.count w.if-element.true before.0),
        omega (arith, w.count-is, before.1),
      )
      | else-element w ↦ (
        rw w.count-is (counts_none elements c.loop-i.i (leaf_view c.element.result) c.element.ensures.element c.loop-i.count w.if-element.false before.0),
        omega (arith, w.count-is, before.1),
      )
    ]

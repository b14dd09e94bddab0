use Rattle.std.proofs.Common.{codes}
use Rattle.bolt_report.proofs.{Words.Wrote-same, Words.Wrote-then, FigureTexts.sized_item}
use Rattle.bolt_text.proofs.Exports.{Wrote-fault, Wrote-passed, Wrote-sink, short_fault, short_passed, short_same, short_then}
use Rattle.bolt_report.proofs.size_lines.put_object.Goals as goal

pub returns-in_err-put_members-clause-written : goal.returns-in_err-put_members-clause-written
returns-in_err-put_members-clause-written g c =
    Wrote-same (sized_item c.args.stats.now c.args.items.now.form c.args.name.now c.requires)
    (Wrote-sink _ _ c.in_err-put_members.ensures c.from_residual.ensures.1)

pub returns-in_err-put-clause-written : goal.returns-in_err-put-clause-written
returns-in_err-put-clause-written g c =
    Wrote-same (sized_item c.args.stats.now c.args.items.now.form c.args.name.now c.requires)
    (Wrote-then c.in_ok-put_members.ensures (Wrote-fault (codes "}\n") _ _ c.in_err-put.ensures.written c.from_residual-in_err-put.ensures.1))

pub returns-in_err-put-2-clause-written : goal.returns-in_err-put-2-clause-written
returns-in_err-put-2-clause-written g c =
    Wrote-same (sized_item c.args.stats.now c.args.items.now.form c.args.name.now c.requires)
    (Wrote-then c.in_ok-put_members.ensures
    (Wrote-then c.in_ok-put.ensures.written (Wrote-passed _ c.in_err-put-2.ensures c.from_residual-in_err-put-2.ensures.1)))

pub returns-clause-written : goal.returns-clause-written
returns-clause-written g c =
    Wrote-same (sized_item c.args.stats.now c.args.items.now.form c.args.name.now c.requires)
    (Wrote-then c.in_ok-put_members.ensures (Wrote-then c.in_ok-put.ensures.written c.in_ok-put-2.ensures))

pub returns-in_err-put_members-clause-short : goal.returns-in_err-put_members-clause-short
returns-in_err-put_members-clause-short g c = short_passed _ c.from_residual.ensures.1

pub returns-in_err-put-clause-short : goal.returns-in_err-put-clause-short
returns-in_err-put-clause-short g c =
    short_same (sized_item c.args.stats.now c.args.items.now.form c.args.name.now c.requires)
    (short_then c.in_ok-put_members.ensures (short_fault (codes "}\n") _ _ c.in_err-put.ensures.short c.from_residual-in_err-put.ensures.1))

pub returns-in_err-put-2-clause-short : goal.returns-in_err-put-2-clause-short
returns-in_err-put-2-clause-short g c = short_passed _ c.from_residual-in_err-put-2.ensures.1

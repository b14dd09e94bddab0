-- The last part is the key if those before it are the bucket's path.
use Rattle.std.proofs.Common.{sym}
use Rattle.bolt_report.proofs.{NameTexts.key_none, NameTexts.key_split, name_lines.key_in.Goals.in_default-via-in-Some+else-eq}
use Rattle.bolt_report.proofs.{name_lines.key_in.Goals.in_default-via-in_default}
use Rattle.bolt_report.proofs.name_lines.key_in.Goals as goal

pub returns-in-Some : goal.returns-in-Some
returns-in-Some c =
    let split = key_split c.args.bucket.now c.args.path.now c.in-Some.parents.now c.in-Some.key.now c.in-Some.ensures.cases.0 c.eq.result c.eq.ensures in
    sym (rw c.if-eq.true at split)

pub returns-in_default : goal.returns-in_default
returns-in_default c = elim c.in_default.branch [
  | in_default-via-in-Some+else-eq w ↦
      let split = key_split c.args.bucket.now c.args.path.now w.in-Some.parents.now w.in-Some.key.now w.in-Some.ensures.cases.0 w.eq.result w.eq.ensures in
      sym (rw w.if-eq.false at split)
  | in_default-via-in_default w ↦ sym (key_none c.args.bucket.now c.args.path.now w.in_default.ensures.cases)
]

-- The text up to a line that is wrong has the lines before it.
use Rattle.std.proofs.Common.{arith, ◌≡◌, ℕ, List, [], Option, sym, subst, true}
use Rattle.std.proofs.lemmas.Grind.{common_steps}
use Rattle.std.specs.Prelude.{IfNone}
use Rattle.bolt_lemmas.proofs.Exports.{is_absent}
use Rattle.bolt_load.proofs.DecodedLines.{HasDecoded, all_decoded, all_shaped, front_decoded, front_shaped, head_is, line_decoded, none_decoded}
use Rattle.bolt_load.proofs.DecodedLines.{stops}
use Rattle.bolt_load.proofs.Words.{is_some}
use Rattle.bolt_load.proofs.decode.decode.Goals as goal

-- what is said of no fault is said of none
if_some : {A : Type 0} (P : Type 0) (fault : Option A) → is_some fault ≡ true → IfNone fault P
if_some P fault some = grind arith

pub loop-line-init : goal.loop-line-init
loop-line-init c = subst (λ (bytes : List ℕ). HasDecoded c.args.text.now c.args.text.now bytes) (sym c.new-bytes.ensures.items) (none_decoded c.args.text.now)

pub returns-then-is_some-clause-decoded : goal.returns-then-is_some-clause-decoded
returns-then-is_some-clause-decoded c =
    let is =
    head_is c.args.text.now c.loop-line.rest.now c.loop-line.bytes.items c.add_line.new.bytes.items c.loop-line.invariant c.in-Some.line.now
    c.in-Some.after.now c.in-Some.ensures in
    front_decoded c.args.text.now c.loop-line.rest.now c.loop-line.bytes.items c.add_line.new.bytes.items c.loop-line.invariant c.in-Some.line.now
    c.in-Some.after.now c.in-Some.ensures _ is c.in_ok-fault.ensures.added

pub returns-then-is_some-clause-shaped : goal.returns-then-is_some-clause-shaped
returns-then-is_some-clause-shaped c =
    let is =
    head_is c.args.text.now c.loop-line.rest.now c.loop-line.bytes.items c.add_line.new.bytes.items c.loop-line.invariant c.in-Some.line.now
    c.in-Some.after.now c.in-Some.ensures in
    front_shaped c.args.text.now c.loop-line.rest.now c.loop-line.bytes.items c.add_line.new.bytes.items c.loop-line.invariant c.in-Some.line.now
    c.in-Some.after.now c.in-Some.ensures _ is

pub returns-then-is_some-clause-stopped : goal.returns-then-is_some-clause-stopped
returns-then-is_some-clause-stopped c =
    let is =
    head_is c.args.text.now c.loop-line.rest.now c.loop-line.bytes.items c.add_line.new.bytes.items c.loop-line.invariant c.in-Some.line.now
    c.in-Some.after.now c.in-Some.ensures in
    stops c.args.text.now c.loop-line.rest.now c.loop-line.bytes.items c.add_line.new.bytes.items c.loop-line.invariant c.in-Some.line.now
    c.in-Some.after.now c.in-Some.ensures _ is c.in_ok-fault.fault c.in_ok-fault.ensures.fault

pub loop-line-preserved : goal.loop-line-preserved
loop-line-preserved c = grind (arith, common_steps, is_absent, line_decoded)

pub returns-clause-decoded : goal.returns-clause-decoded
returns-clause-decoded c = all_decoded c.args.text.now c.loop-line.rest.now c.loop-line.bytes.items [] c.loop-line.invariant c.in_default.ensures

pub returns-clause-shaped : goal.returns-clause-shaped
returns-clause-shaped c = all_shaped c.args.text.now c.loop-line.rest.now c.loop-line.bytes.items [] c.loop-line.invariant c.in_default.ensures

pub returns-then-is_some-clause-all : goal.returns-then-is_some-clause-all
returns-then-is_some-clause-all c = if_some _ c.in_ok-fault.fault (sym c.if-is_some.ensures)

-- A path is one if all of its parts are.
use Rattle.std.proofs.Common.{arith, ◌≡◌, Bool, subst}
use Rattle.std.proofs.{lemmas.Grind.common_steps, lemmas.Result.on_ok_weaker}
use Rattle.bolt_lemmas.proofs.Exports.{is_absent}
use Rattle.bolt_load.proofs.Words.{is_some, option_map, part_in}
use Rattle.bolt_load.proofs.PathLemmas.{bad_part, part_added, path_added, path_good}
use Rattle.std.specs.Prelude.{IfOk}
use Rattle.bolt_load.proofs.decode.decode_path.Goals as goal

pub returns-then-not-branch-clause-good : goal.returns-then-not-branch-clause-good
returns-then-not-branch-clause-good c = grind (arith, common_steps, bad_part, is_absent, part_in, is_some, option_map)

pub returns-then-not-branch-clause-added : goal.returns-then-not-branch-clause-added
returns-then-not-branch-clause-added c = grind (arith, common_steps, bad_part, is_absent, part_in)

pub loop-part-preserved : goal.loop-part-preserved
loop-part-preserved c = grind (arith, common_steps, part_added)

pub returns-clause-good : goal.returns-clause-good
returns-clause-good c =
    subst (λ (b : Bool). IfOk c.decode_part-2.result (λ good. good ≡ b))
    (path_good c.args.word.now c.loop-part.rest.now c.args.bytes.now.items c.loop-part.bytes.items c.decode_part-2.new.bytes.items c.loop-part.invariant
    c.in_default.ensures)
    c.decode_part-2.ensures.good

pub returns-clause-added : goal.returns-clause-added
returns-clause-added c =
    on_ok_weaker c.decode_part-2.result
    (path_added c.args.word.now c.loop-part.rest.now c.args.bytes.now.items c.loop-part.bytes.items c.decode_part-2.new.bytes.items c.loop-part.invariant
    c.in_default.ensures)
    c.decode_part-2.ensures.added

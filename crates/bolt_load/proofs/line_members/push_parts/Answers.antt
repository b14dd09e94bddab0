-- Each part has half as many bytes as digits.
use Rattle.std.proofs.Common.{arith, ◌∙◌, ap}
use Rattle.std.proofs.lemmas.Grind.{common_steps}
use Rattle.bolt_load.proofs.{Words.map-append, Words.path_of, PushedParts.all_pushed, PushedParts.last_fits, PushedParts.none_pushed}
use Rattle.bolt_load.proofs.{PushedParts.part_fits, PushedParts.part_pushed}
use Rattle.bolt_load.proofs.line_members.push_parts.Goals as goal

pub loop-part-init : goal.loop-part-init
loop-part-init c = none_pushed c.args.word.now c.args.bytes.now (path_of c.args.path.now.items) c.requires

pub split_at-requires : goal.split_at-requires
split_at-requires c =
    part_fits c.args.word.now c.loop-part.word_left.now c.args.bytes.now c.loop-part.bytes_left.now (path_of c.args.path.now.items)
    (path_of c.loop-part.path.items) c.loop-part.invariant c.in-Some.part.now c.in-Some.after.now c.in-Some.ensures

pub loop-part-preserved : goal.loop-part-preserved
loop-part-preserved c = grind (arith, common_steps, part_pushed, path_of)

pub split_at-requires-2 : goal.split_at-requires-2
split_at-requires-2 c =
    last_fits c.args.word.now c.loop-part.word_left.now c.args.bytes.now c.loop-part.bytes_left.now (path_of c.args.path.now.items)
    (path_of c.loop-part.path.items) c.loop-part.invariant c.in_default.ensures

pub returns : goal.returns
returns c =
    all_pushed c.args.word.now c.loop-part.word_left.now c.args.bytes.now c.loop-part.bytes_left.now (path_of c.args.path.now.items)
    (path_of c.loop-part.path.items) c.loop-part.invariant c.in_default.ensures
    c.split_at-2.result.0.now c.split_at-2.result.1.now (path_of c.push-2.new.self.items) c.split_at-2.ensures.front c.split_at-2.ensures.back
    (ap path_of c.in_ok-push-2.ensures.items ∙ map-append _ _ _)

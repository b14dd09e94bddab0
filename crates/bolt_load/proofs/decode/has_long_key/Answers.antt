-- One part after another is tested.
use Rattle.bolt_load.proofs.PathLemmas.{long_end, long_here, short_here}
use Rattle.bolt_load.proofs.decode.has_long_key.Goals as goal

pub returns-then-part-gt-MAX_KEY_LEN : goal.returns-then-part-gt-MAX_KEY_LEN
returns-then-part-gt-MAX_KEY_LEN c =
    long_here c.args.word.now c.loop-part.rest.now c.loop-part.invariant c.in-Some.part.now c.in-Some.after.now c.in-Some.ensures c.if-part-gt-MAX_KEY_LEN.true

pub loop-part-preserved : goal.loop-part-preserved
loop-part-preserved c =
    short_here c.args.word.now c.loop-part.rest.now c.loop-part.invariant c.in-Some.part.now c.in-Some.after.now c.in-Some.ensures
    c.if-part-gt-MAX_KEY_LEN.false

pub returns : goal.returns
returns c = long_end c.args.word.now c.loop-part.rest.now c.loop-part.invariant c.in_default.ensures

-- The layout isn't whole; or it is, and its hash isn't; or both are.
use Rattle.std.proofs.Common.{arith, true}
use Rattle.bolt_commands.proofs.SnapshotCopies.{hash_stops, hash_whole, layout_stops}
use Rattle.bolt_commands.proofs.hashed_copy.put_hash.Goals as goal

pub returns-in_err-done-clause-copied : goal.returns-in_err-done-clause-copied
returns-in_err-done-clause-copied g c = λ begun layout copies since.
    layout_stops g.T.Sink begun c.args.target.now layout true c.args.copied c.from_residual.result c.in_err-done.field-0.0
    c.in_err-done.was copies c.from_residual.ensures.1

pub returns-in_err-put-clause-copied : goal.returns-in_err-put-clause-copied
returns-in_err-put-clause-copied g c = λ begun layout copies since.
    hash_stops g.T.Sink begun c.args.target.now layout c.args.copied c.in_ok-done.done c.in_ok-done.was copies c.args.hash
    c.finalize.result c.finalize.ensures since
    c.put.new.self c.from_residual-in_err-put.result c.from_residual-in_err-put.ensures.1 c.in_err-put.ensures.short c.in_err-put.ensures.keeps
    c.in_err-put.ensures.failure

pub returns-clause-copied : goal.returns-clause-copied
returns-clause-copied g c = λ begun layout copies since.
    hash_whole g.T.Sink begun c.args.target.now layout c.args.copied c.in_ok-done.done c.in_ok-done.was copies c.args.hash
    c.finalize.result c.finalize.ensures since
    c.put.new.self c.saturating_add.result c.in_ok-put.ensures.all (λ some. absurd (cc (c.in_ok-put.ensures.refuses some))) c.in_ok-put.ensures.sound
    (λ few. omega (arith, few, c.saturating_add.ensures))

use Rattle.std.proofs.Common.{◌≡◌, ◌∙◌, ◌+◌, ◌-◌, suc, ap, arith, replicate, sym}
use Rattle.std.proofs.{lemmas.Grind.replicate_next, lemmas.List.replicate-append-replicate}
use Rattle.bolt_text.proofs.GatherLemmas.{Gathers-return, Gathers-same, Gathers-then}
use Rattle.bolt_text.proofs.pieces.put_spaces.Goals as goal

pub returns-in_err-put_bytes : goal.returns-in_err-put_bytes
returns-in_err-put_bytes g c =
    let rest = c.args.count - c.loop-i._i - 1 in
    let all : c.loop-i._i + suc rest ≡ c.args.count = omega (arith, c.loop-i-test.true) in
    Gathers-same (replicate-append-replicate c.loop-i._i (suc rest) 0x20 ∙ ap (λ n. replicate n 0x20) all)
    (Gathers-then c.loop-i.invariant (Gathers-return (replicate rest 0x20) _ c.in_err-put_bytes.ensures c.from_residual.ensures.0))

pub loop-i-preserved : goal.loop-i-preserved
loop-i-preserved g c = Gathers-same (sym (replicate_next c.loop-i._i 0x20)) (Gathers-then c.loop-i.invariant c.in_ok-put_bytes.ensures)

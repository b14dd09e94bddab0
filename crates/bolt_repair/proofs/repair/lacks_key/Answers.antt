use Rattle.std.proofs.Common.{◌∙◌, Bor, ap, map, not}
use Rattle.bolt_check.specs.Keys.{Key}
use Rattle.bolt_repair.specs.Candidates.{among}
use Rattle.bolt_repair.proofs.KeysAmong.{among_is}
use Rattle.bolt_repair.proofs.repair.lacks_key.Goals as goal

pub returns : goal.returns
returns c =
    let keys = map (λ (key : Bor Key). key.now) c.args.keys.now in
    ap not (among_is _ _ c.has_key.result c.has_key.ensures) ∙ ap (λ (key : Key). not (among keys key)) c.stored_key.ensures.entry

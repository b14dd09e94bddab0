use Rattle.std.proofs.Common.{◌≡◌, ◌∙◌, List, [], ℕ, ◌++◌, ap, arith, inl, refl, sym}
use Rattle.std.proofs.lemmas.Option.{same_Some}
use Rattle.bolt_cli.specs.Names.{shown_lines}
use Rattle.bolt_cli.proofs.Telling.{DoesDeeds-one}
use Rattle.bolt_cli.proofs.faults.refuse_usage.Goals as goal

pub returns : goal.returns
returns g c =
    let sound : c.put_escaped_lines.new.lines.failures ≡ 0 = omega (arith, c.failures.ensures, c.if-failures-gt0.false) in
    let empty : c.new-shown.result.items.items ≡ [] = same_Some _ _ c.new-shown.ensures.taken in
    let bytes : c.put_escaped_lines.new.lines.items.items ≡ c.bytes.result.now = same_Some _ _ c.bytes.ensures in
    DoesDeeds-one _ c.say.ensures
    (inl (sym bytes ∙ (c.put_escaped_lines.ensures sound).1 ∙ ap (λ (front : List ℕ). front ++ shown_lines c.args.text.now) empty, refl))

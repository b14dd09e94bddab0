use Rattle.std.proofs.Common.{◌≡◌, ◌∙◌, ◌++◌, ◌∷◌, [], Option, None, ap, arith, length}
use Rattle.bolt_recover.proofs.{Words.claims_file, Words.claims_meta, Words.OpenPage, Words.option_to_list, Words.steps_path, Skipping.skipped}
use Rattle.bolt_recover.proofs.{StepLemmas.Innermost, StepLemmas.inner}
use Rattle.bolt_recover.proofs.steps.Steps.skip_values.Goals.{In-Some}
use Rattle.bolt_recover.proofs.steps.Steps.skip_values.Goals as goal

-- nothing was ahead, and the innermost page was the last one
nothing_ahead : (c : In-Some) → c.args.self.now.ahead ≡ None
nothing_ahead c = grind (arith, c.if-is_some.false, c.is_some.ensures)

pages_were : (c : In-Some) → c.args.self.now.open.items ≡ c.pop.new.self.items ++ c.in-Some.top ∷ []
pages_were c = c.pop.ensures.items ∙ ap (λ (o : Option OpenPage). c.pop.new.self.items ++ option_to_list o) c.in-Some.is

innermost_page : (c : In-Some)
    → Innermost (claims_file c.args.self.now.claims) (claims_meta c.args.self.now.claims) 0 c.pop.new.self.items c.in-Some.top
    (length (steps_path c.args.self.now))
innermost_page c = inner c.args.self.now c.pop.new.self.items c.in-Some.top c.requires (nothing_ahead c) (pages_were c)

pub after_values-next-requires : goal.after_values-next-requires
after_values-next-requires c =
    let good = (innermost_page (goal.at.after_values-next-requires c).In-Some).good in
    let count = good.count in
    let taken = good.taken in
    omega (arith, count, taken)

pub returns : goal.returns
returns c =
    let here = (goal.at.returns c).In-Some in
    let count = (innermost_page here).good.count in
    let within = c.after_values-next.ensures.within in
    skipped c.args.self.now c.pop.new.self.items c.in-Some.top c.push_reserved.new.self c.after_values-next.result c.requires (nothing_ahead here)
    (pages_were here)
    c.after_values-next.ensures.from (omega (arith, count, within)) c.after_values-next.ensures.values c.push_reserved.ensures.items

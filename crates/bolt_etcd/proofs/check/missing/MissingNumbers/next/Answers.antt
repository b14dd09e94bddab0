use Rattle.std.proofs.Common.{◌≤◌, Option, Some, None, length, sym, ap, ◌∙◌, arith}
use Rattle.std.specs.Option.{option_to_list}
use Rattle.bolt_lemmas.proofs.Exports.{if_given}
use Rattle.bolt_etcd.specs.{Private.MissingLeft.missing_number, Store.RevisionsLeft.number_ahead, declared.check.missing.Missing.Missing}
use Rattle.bolt_etcd.proofs.check.missing.MissingNumbers.next.Goals as goal

at_most_one : (o : Option Missing) → length (option_to_list o) ≤ 1
at_most_one None = omega arith
at_most_one (Some m) = omega arith

pub returns-in-Some-clause-fewer : goal.returns-in-Some-clause-fewer
unfolding missing_number
returns-in-Some-clause-fewer c = rw (c.take.ensures.after, sym c.take.ensures.value ∙ c.in-Some.is) (omega arith)

pub returns-then-is_some-clause-fewer : goal.returns-then-is_some-clause-fewer
unfolding missing_number
returns-then-is_some-clause-fewer c =
    let less = rw c.in-Some-next_number.is at c.next_number.ensures.fewer in
    let before = c.rest.invariant.behind in
    let one = at_most_one c.step-missing.new.self.pending in
    let same = ap number_ahead c.step-missing.ensures.pass in
    if_given c.step-missing.result (omega (arith, less, before, one, same))

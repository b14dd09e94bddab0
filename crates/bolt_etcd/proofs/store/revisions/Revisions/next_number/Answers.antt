use Rattle.std.proofs.Common.{Option, Some, ap, arith, refl, sym, ◌∙◌, ◌<◌}
use Rattle.std.specs.Option.{option_map}
use Rattle.std.specs.Prelude.{IfSome}
use Rattle.bolt_tree.specs.ShownEntries.{shown_entry}
use Rattle.bolt_etcd.specs.{Wire.Numbered.GivesNumber, Wire.Numbered.numbered_of, Store.RevisionsLeft.ahead_of, Store.RevisionsLeft.number_ahead}
use Rattle.bolt_etcd.specs.{declared.wire.revision_key.RevisionKey.RevisionKey}
use Rattle.bolt_etcd.proofs.{NumberSteps.none_numbered, NumberSteps.some_numbered, PassSteps.goes_by_one, PassSteps.one_shown}
use Rattle.bolt_etcd.proofs.RevisionSteps.{goes_none, number_falls}
use Rattle.bolt_etcd.proofs.store.revisions.Revisions.next_number.Goals as goal

pub rest-smaller : goal.rest-smaller
rest-smaller c =
    number_falls c.rest.self c.rest.self c.advance.new.self _ (goes_none c.rest.self) c.advance.ensures.first (shown_entry c.in-Some.entry)
    (ap (option_map shown_entry) c.in-Some.is)
    c.advance.ensures.checked c.advance.ensures.start

pub rest-preserved : goal.rest-preserved
rest-preserved c =
    goes_by_one numbered_of c.args.self.now c.rest.self c.advance.new.self _ c.rest.invariant c.advance.ensures.checked c.advance.ensures.start
    c.advance.ensures.first
    (shown_entry c.in-Some.entry) (ap (option_map shown_entry) c.in-Some.is)
    (none_numbered c.number_of-key.result _ (sym c.is_some.ensures ∙ c.if-is_some.false) c.number_of-key.ensures.key)
    (number_falls c.rest.self c.rest.self c.advance.new.self _ (goes_none c.rest.self) c.advance.ensures.first (shown_entry c.in-Some.entry)
    (ap (option_map shown_entry) c.in-Some.is) c.advance.ensures.checked c.advance.ensures.start)

pub returns-then-is_some-clause-given : goal.returns-then-is_some-clause-given
returns-then-is_some-clause-given c = λ entries are.
    some_numbered (λ (o : Option RevisionKey). GivesNumber (ahead_of c.args.self.now entries) (ahead_of c.advance.new.self entries) o) c.number_of-key.result _
    (sym c.is_some.ensures ∙ c.if-is_some.true) c.number_of-key.ensures.key (λ r found. (
      r,
      one_shown numbered_of c.args.self.now c.rest.self c.advance.new.self _ c.rest.invariant c.advance.ensures.checked c.advance.ensures.start
          c.advance.ensures.first
          (shown_entry c.in-Some.entry) (Some r) (ap (option_map shown_entry) c.in-Some.is) found entries are,
      refl,
    ))

pub returns-then-is_some-clause-fewer : goal.returns-then-is_some-clause-fewer
returns-then-is_some-clause-fewer c =
    let less : number_ahead c.advance.new.self < number_ahead c.rest.self =
    number_falls c.rest.self c.rest.self c.advance.new.self _ (goes_none c.rest.self) c.advance.ensures.first (shown_entry c.in-Some.entry)
    (ap (option_map shown_entry) c.in-Some.is) c.advance.ensures.checked c.advance.ensures.start in
    let before = c.rest.invariant.behind in
    let all : number_ahead c.advance.new.self < number_ahead c.args.self.now = omega (arith, less, before) in
    some_numbered (λ (o : Option RevisionKey). IfSome o (λ _. number_ahead c.advance.new.self < number_ahead c.args.self.now)) c.number_of-key.result _
    (sym c.is_some.ensures ∙ c.if-is_some.true) c.number_of-key.ensures.key (λ r found. all)

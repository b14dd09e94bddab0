use Rattle.std.proofs.Common.{Option, Some, ap, arith, sym, ◌∙◌, ◌<◌}
use Rattle.std.specs.Option.{option_map}
use Rattle.bolt_lemmas.proofs.Exports.{if_given}
use Rattle.bolt_tree.specs.ShownEntries.{shown_entry}
use Rattle.bolt_etcd.specs.{Wire.UnreadEntries.GivesUnread, Wire.UnreadEntries.UnreadView, Wire.UnreadEntries.unread_entry_of, Store.RevisionsLeft.ahead_of}
use Rattle.bolt_etcd.specs.{Store.RevisionsLeft.number_ahead}
use Rattle.bolt_etcd.proofs.{OtherSteps.none_other, OtherSteps.some_other, PassSteps.goes_by_one, PassSteps.one_shown}
use Rattle.bolt_etcd.proofs.RevisionSteps.{goes_none, number_falls}
use Rattle.bolt_etcd.proofs.store.revisions.Revisions.next_unread.Goals as goal

pub rest-smaller : goal.rest-smaller
rest-smaller c =
    number_falls c.rest.self c.rest.self c.advance.new.self _ (goes_none c.rest.self) c.advance.ensures.first (shown_entry c.in-Some.entry)
    (ap (option_map shown_entry) c.in-Some.is)
    c.advance.ensures.checked c.advance.ensures.start

pub rest-preserved : goal.rest-preserved
rest-preserved c = record {
  goes =
      goes_by_one unread_entry_of c.args.self.now c.rest.self c.advance.new.self _ c.rest.invariant.goes c.advance.ensures.checked c.advance.ensures.start
      c.advance.ensures.first
      (shown_entry c.in-Some.entry) (ap (option_map shown_entry) c.in-Some.is)
      (none_other c.of-other.result _ (sym c.is_some.ensures ∙ c.if-is_some.false) c.of-other.ensures)
      (number_falls c.rest.self c.rest.self c.advance.new.self _ (goes_none c.rest.self) c.advance.ensures.first (shown_entry c.in-Some.entry)
      (ap (option_map shown_entry) c.in-Some.is) c.advance.ensures.checked c.advance.ensures.start);
  unread = c.advance.ensures.unread ∙ c.rest.invariant.unread;
}

pub returns-then-is_some-clause-given : goal.returns-then-is_some-clause-given
returns-then-is_some-clause-given c = λ entries are.
    some_other (λ (o : Option UnreadView). GivesUnread (ahead_of c.args.self.now entries) (ahead_of c.advance.new.self entries) o) c.of-other.result _
    (sym c.is_some.ensures ∙ c.if-is_some.true) c.of-other.ensures (λ o found.
    one_shown unread_entry_of c.args.self.now c.rest.self c.advance.new.self _ c.rest.invariant.goes c.advance.ensures.checked c.advance.ensures.start
    c.advance.ensures.first
    (shown_entry c.in-Some.entry) (Some o) (ap (option_map shown_entry) c.in-Some.is) found entries are)

pub returns-then-is_some-clause-fewer : goal.returns-then-is_some-clause-fewer
returns-then-is_some-clause-fewer c =
    let less : number_ahead c.advance.new.self < number_ahead c.rest.self =
    number_falls c.rest.self c.rest.self c.advance.new.self _ (goes_none c.rest.self) c.advance.ensures.first (shown_entry c.in-Some.entry)
    (ap (option_map shown_entry) c.in-Some.is) c.advance.ensures.checked c.advance.ensures.start in
    let before = c.rest.invariant.goes.behind in
    let all : number_ahead c.advance.new.self < number_ahead c.args.self.now = omega (arith, less, before) in
    if_given c.of-other.result all

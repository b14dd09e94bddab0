use Rattle.std.proofs.Common.{◌∙◌, ap, ap₂, inr}
use Rattle.std.specs.Option.{option_map}
use Rattle.bolt_check.specs.Counts.{counted}
use Rattle.bolt_tree.specs.ShownEntries.{shown_entry}
use Rattle.bolt_etcd.proofs.RevisionSteps.{falls, goes_on, number_falls, opens_first, other_first, some_counts, some_given}
use Rattle.bolt_etcd.specs.{Store.RevisionsLeft.ahead_of, Store.RevisionsLeft.pass_unread, Wire.ShownRevisions.shown_revision}
use Rattle.bolt_etcd.proofs.store.revisions.Revisions.next.Goals as goal

pub rest-smaller : goal.rest-smaller
unfolding ahead_of
rest-smaller c =
    falls c.args.self.now c.rest.self c.advance.new.self _ c.rest.invariant.goes c.advance.ensures.first (shown_entry c.in-Some.entry)
    (ap (option_map shown_entry) c.in-Some.is)

pub rest-preserved : goal.rest-preserved
unfolding pass_unread
rest-preserved c = record {
  goes =
      goes_on c.args.self.now c.rest.self c.advance.new.self _ c.rest.invariant.goes c.advance.ensures.first (shown_entry c.in-Some.entry)
      c.saturating_add-self.result
      (ap (option_map shown_entry) c.in-Some.is) c.in_default-of.ensures.revision c.advance.ensures.checked c.advance.ensures.start
      (c.saturating_add-self.ensures ∙ ap₂ counted c.advance.ensures.unread c.count_unread.ensures);
  opens =
      inr (other_first c.args.self.now c.rest.self c.advance.new.self _ c.rest.invariant.goes c.advance.ensures.first c.rest.invariant.opens
      (shown_entry c.in-Some.entry)
      (ap (option_map shown_entry) c.in-Some.is) c.in_default-of.ensures.revision);
}

pub returns-in-Some-of-clause-given : goal.returns-in-Some-of-clause-given
returns-in-Some-of-clause-given c =
    some_given c.args.self.now c.rest.self c.advance.new.self _ c.rest.invariant.goes c.advance.ensures.first (shown_entry c.in-Some.entry)
    (shown_revision c.in-Some-of.revision)
    (ap (option_map shown_entry) c.in-Some.is) c.in-Some-of.ensures.revision

pub returns-in-Some-of-clause-counts : goal.returns-in-Some-of-clause-counts
returns-in-Some-of-clause-counts c =
    some_counts c.args.self.now c.rest.self c.advance.new.self _ c.rest.invariant.goes c.advance.ensures.first (shown_entry c.in-Some.entry)
    (shown_revision c.in-Some-of.revision)
    (ap (option_map shown_entry) c.in-Some.is) c.in-Some-of.ensures.revision c.advance.ensures.unread

pub returns-in-Some-of-clause-fewer : goal.returns-in-Some-of-clause-fewer
returns-in-Some-of-clause-fewer c =
    number_falls c.args.self.now c.rest.self c.advance.new.self _ c.rest.invariant.goes c.advance.ensures.first (shown_entry c.in-Some.entry)
    (ap (option_map shown_entry) c.in-Some.is) c.advance.ensures.checked c.advance.ensures.start

pub returns-in-Some-of-clause-opens : goal.returns-in-Some-of-clause-opens
returns-in-Some-of-clause-opens c = opens_first c.args.self.now c.rest.self _ c.rest.invariant.opens c.advance.ensures.opens

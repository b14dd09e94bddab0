use Rattle.std.proofs.Common.{◌≡◌, ◌∙◌, List, None, ap, arith, length, max, sym}
use Rattle.std.specs.{Option.option_map}
use Rattle.bolt_check.specs.Counts.{counted}
use Rattle.bolt_format.specs.Elements.{LeafElement}
use Rattle.bolt_tree.specs.{Entries.EntryView, Entries.entry_view, ShownEntries.shown_entry}
use Rattle.bolt_etcd.specs.{Store.CurrentKeys.nameless_with, Wire.Numbered.numbered, Wire.Numbered.numbered_of, Private.Passes.ShowsFirst}
use Rattle.bolt_etcd.specs.{Wire.Revisions.revision_of, Store.RevisionsLeft.ahead_of, Store.Statuses.newest_main, Store.Statuses.newest_with}
use Rattle.bolt_etcd.specs.{Store.Statuses.revisions_with, Store.Stores.revisions}
use Rattle.bolt_etcd.proofs.{RevisionSteps.goes_none, RevisionSteps.moved_to, RevisionSteps.number_falls}
use Rattle.bolt_etcd.proofs.CountedNumbers.{nameless_after, nameless_of_all, nameless_step, newest_step, revisions_fit, revisions_step}
use Rattle.bolt_etcd.proofs.store.status.Numbers.count.Goals as goal

pub rest-init : goal.rest-init
rest-init c =
    let pass = c.of-pass.ensures in
    let all = moved_to _ _ _ _ (λ entries. ahead_of c.of-pass.result entries ≡ entries) pass.checked pass.start pass.all in
    record {
      checked = pass.checked;
      start = pass.start;
      fits = omega arith;
      newest = λ entries are. ap (λ (es : List LeafElement). max 0 (newest_main (numbered es))) (all entries are) ∙ omega arith;
      revisions = λ entries are. ap (λ (es : List LeafElement). counted 0 (length (revisions es))) (all entries are);
      nameless =
          λ entries are. ap (λ (es : List LeafElement). nameless_after c.args.up_to None (numbered es)) (all entries are)
          ∙ nameless_of_all c.args.up_to (numbered entries);
    }

pub rest-smaller : goal.rest-smaller
rest-smaller c =
    number_falls c.rest.pass c.rest.pass c.advance.new.self _ (goes_none c.rest.pass) c.advance.ensures.first (shown_entry c.in-Some.entry)
    (ap (option_map shown_entry) c.in-Some.is)
    c.advance.ensures.checked c.advance.ensures.start

pub rest-preserved : goal.rest-preserved
rest-preserved c =
    let before = c.rest.invariant in
    let step =
    moved_to _ _ _ _ (λ entries. ShowsFirst (ahead_of c.rest.pass entries) (ahead_of c.advance.new.self entries) (option_map shown_entry c.advance.result))
    before.checked before.start c.advance.ensures.first in
    record {
      checked = c.advance.ensures.checked ∙ before.checked;
      start = c.advance.ensures.start ∙ before.start;
      fits = rw c.add.ensures.revisions (revisions_fit c.rest.numbers.revisions (revision_of (shown_entry c.in-Some.entry)) before.fits);
      newest = λ entries are.
          let (e, shown, split) = rw c.in-Some.is at (step entries are) in
          let left = numbered (ahead_of c.advance.new.self entries) in
          ap (λ n. max n (newest_main left)) (c.add.ensures.newest ∙ ap (λ (v : EntryView). newest_with (numbered_of v) c.rest.numbers.newest) shown)
          ∙ newest_step c.rest.numbers.newest (numbered_of (entry_view e)) left
          ∙ ap (λ (es : List LeafElement). max c.rest.numbers.newest (newest_main (numbered es))) (sym split) ∙ before.newest entries are;
      revisions = λ entries are.
          let (e, shown, split) = rw c.in-Some.is at (step entries are) in
          let left = revisions (ahead_of c.advance.new.self entries) in
          ap (λ n. counted n (length left)) (c.add.ensures.revisions ∙ ap (λ (v : EntryView). revisions_with (revision_of v) c.rest.numbers.revisions) shown)
          ∙ revisions_step c.rest.numbers.revisions (revision_of (entry_view e)) left
          ∙ ap (λ (es : List LeafElement). counted c.rest.numbers.revisions (length (revisions es))) (sym split) ∙ before.revisions entries are;
      nameless = λ entries are.
          let (e, shown, split) = rw c.in-Some.is at (step entries are) in
          let left = numbered (ahead_of c.advance.new.self entries) in
          let key = option_map (λ key. key.now) c.rest.numbers.nameless in
          ap (λ k. nameless_after c.args.up_to k left) (c.add.ensures.nameless ∙ ap (λ (v : EntryView). nameless_with c.args.up_to (numbered_of v) key) shown)
          ∙ nameless_step c.args.up_to key (numbered_of (entry_view e)) left
          ∙ ap (λ (es : List LeafElement). nameless_after c.args.up_to key (numbered es)) (sym split) ∙ before.nameless entries are;
    }

pub returns-clause-newest : goal.returns-clause-newest
returns-clause-newest c = λ entries are.
    let before = c.rest.invariant in
    let step =
    moved_to _ _ _ _ (λ entries. ShowsFirst (ahead_of c.rest.pass entries) (ahead_of c.advance.new.self entries) (option_map shown_entry c.advance.result))
    before.checked before.start c.advance.ensures.first in
    let (none, end) = rw c.in_default.is at (step entries are) in
    let last = ap (λ (es : List LeafElement). max c.rest.numbers.newest (newest_main (numbered es))) none in
    let all = before.newest entries are in
    omega (arith, last, all)

pub returns-clause-revisions : goal.returns-clause-revisions
returns-clause-revisions c = λ entries are.
    let before = c.rest.invariant in
    let step =
    moved_to _ _ _ _ (λ entries. ShowsFirst (ahead_of c.rest.pass entries) (ahead_of c.advance.new.self entries) (option_map shown_entry c.advance.result))
    before.checked before.start c.advance.ensures.first in
    let (none, end) = rw c.in_default.is at (step entries are) in
    let last = ap (λ (es : List LeafElement). counted c.rest.numbers.revisions (length (revisions es))) none in
    let all = before.revisions entries are in
    let fits = before.fits in
    omega (arith, last, all, fits)

pub returns-clause-nameless : goal.returns-clause-nameless
returns-clause-nameless c = λ entries are.
    let before = c.rest.invariant in
    let step =
    moved_to _ _ _ _ (λ entries. ShowsFirst (ahead_of c.rest.pass entries) (ahead_of c.advance.new.self entries) (option_map shown_entry c.advance.result))
    before.checked before.start c.advance.ensures.first in
    let (none, end) = rw c.in_default.is at (step entries are) in
    ap (λ (es : List LeafElement). nameless_after c.args.up_to (option_map (λ key. key.now) c.rest.numbers.nameless) (numbered es)) (sym none)
    ∙ before.nameless entries are

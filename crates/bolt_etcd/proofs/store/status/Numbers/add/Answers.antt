use Rattle.std.proofs.Common.{◌∙◌, ap, sym}
use Rattle.bolt_etcd.specs.Store.Statuses.{revisions_with}
use Rattle.bolt_tree.specs.ShownEntries.{shown_entry}
use Rattle.bolt_etcd.proofs.CountedNumbers.{no_revision, one_revision}
use Rattle.bolt_etcd.proofs.store.status.Numbers.add.Goals as goal

pub returns-in_default-clause-revisions : goal.returns-in_default-clause-revisions
returns-in_default-clause-revisions c =
    sym (ap (λ o. revisions_with o c.args.self.now.revisions) (no_revision (shown_entry c.args.entry.now) (rw c.in_default.is at c.of.ensures.is)))

pub returns-after-numbered-clause-revisions : goal.returns-after-numbered-clause-revisions
returns-after-numbered-clause-revisions c =
    let (r, shows) = c.in-Some.ensures.is in
    c.with_revision-self.ensures
    ∙ sym (one_revision (shown_entry c.args.entry.now) r c.in-Some.numbered.key c.in-Some.numbered.value.now shows.key shows.value c.args.self.now.revisions
    shows.found)

pub returns-else-main-up_to-clause-revisions : goal.returns-else-main-up_to-clause-revisions
returns-else-main-up_to-clause-revisions c =
    let (r, shows) = c.in-Some.ensures.is in
    c.with_revision-self.ensures
    ∙ sym (one_revision (shown_entry c.args.entry.now) r c.in-Some.numbered.key c.in-Some.numbered.value.now shows.key shows.value c.args.self.now.revisions
    shows.found)

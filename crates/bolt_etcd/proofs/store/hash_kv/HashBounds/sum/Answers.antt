use Rattle.std.proofs.Common.{◌≡◌, ◌∙◌, List, ap, filter, map, subst, sym, ℕ}
use Rattle.std.specs.Option.{option_map}
use Rattle.bolt_lemmas.specs.Order.{Rises}
use Rattle.bolt_format.specs.Elements.{LeafElement}
use Rattle.bolt_tree.specs.{Entries.EntryView, Entries.entry_cmp, ShownEntries.shown_entry}
use Rattle.bolt_etcd.specs.{Store.Crc32c.crc_begin, Store.Crc32c.crc_end, Store.Crc32c.crc_from, Store.Crc32c.crc_of, Store.CrcStates.crc_state}
use Rattle.bolt_etcd.specs.{Store.CurrentKeys.begins_with_key, Store.CurrentKeys.without_first, Store.HashKv.hash_kv, Store.HashKv.is_current_at}
use Rattle.bolt_etcd.specs.{Store.HashKv.passes}
use Rattle.bolt_etcd.specs.{Wire.Numbered.numbered, Private.Passes.ShowsFirst, Wire.Revisions.revision_of, Store.RevisionsLeft.ahead_of}
use Rattle.bolt_etcd.specs.{Wire.ShownRevisions.shown_revision, Store.Stores.revisions, Store.SumSteps.KnowsCurrent, Store.SumSteps.sum_with}
use Rattle.bolt_etcd.specs.Store.BucketNames.{key_bucket}
use Rattle.bolt_etcd.proofs.{CurrentOnes.any_current, CurrentOnes.is_first, RevisionSteps.goes_none, RevisionSteps.moved_to}
use Rattle.bolt_etcd.proofs.{RevisionSteps.number_falls}
use Rattle.bolt_etcd.proofs.SumOfEntries.{sum_step, summed_bytes, taken_both}
use Rattle.bolt_etcd.proofs.store.hash_kv.HashBounds.sum.Goals as goal

pub rest-init : goal.rest-init
rest-init c =
    let pass = c.of-pass.ensures in
    let all = moved_to _ _ _ _ (λ entries. ahead_of c.of-pass.result entries ≡ entries) pass.checked pass.start pass.all in
    record {
      checked = pass.checked;
      start = pass.start;
      rises = λ entries are. subst (Rises entry_cmp) (sym (all entries are)) are.rises;
      listed =
          λ entries are. c.requires.current entries are
          ∙ ap (λ (es : List LeafElement). filter (is_current_at c.args.self.up_to (revisions entries)) (revisions es)) (sym (all entries are));
      sum = λ entries are.
          let bytes = summed_bytes c.args.self.up_to c.args.self.compacted entries in
          ap (λ (es : List LeafElement). crc_from (crc_state c.update.new.self) (bytes es)) (all entries are)
          ∙ ap (λ (state : ℕ). crc_from state (bytes entries)) (c.update.ensures ∙ ap (λ (state : ℕ). crc_from state key_bucket) c.new-sum.ensures)
          ∙ sym (taken_both crc_begin key_bucket (bytes entries));
    }

pub rest-smaller : goal.rest-smaller
rest-smaller c =
    number_falls c.rest.pass c.rest.pass c.advance.new.self _ (goes_none c.rest.pass) c.advance.ensures.first (shown_entry c.in-Some.entry)
    (ap (option_map shown_entry) c.in-Some.is)
    c.advance.ensures.checked c.advance.ensures.start

pub rest-preserved : goal.rest-preserved
rest-preserved c =
    let before = c.rest.invariant in
    let step =
    moved_to _ _ _ _ (λ entries. ShowsFirst (ahead_of c.rest.pass entries) (ahead_of c.advance.new.self entries) (option_map shown_entry c.advance.result))
    before.checked before.start c.advance.ensures.first in
    record {
      checked = c.advance.ensures.checked ∙ before.checked;
      start = c.advance.ensures.start ∙ before.start;
      rises = λ entries are.
          let (e, shown, split) = rw c.in-Some.is at (step entries are) in
          (subst (Rises entry_cmp) split (before.rises entries are)).1;
      listed = λ entries are.
          let (e, shown, split) = rw c.in-Some.is at (step entries are) in
          let up = subst (Rises entry_cmp) split (before.rises entries are) in
          let listed =
          before.listed entries are ∙ ap (λ (es : List LeafElement). filter (is_current_at c.args.self.up_to (revisions entries)) (revisions es)) split in
          c.take_first-is_listed.ensures.left ∙ ap (λ (v : EntryView). without_first v.key (map shown_revision c.rest.listed.now)) shown
          ∙ (is_first (is_current_at c.args.self.up_to (revisions entries)) e _ up _ listed).1;
      sum = λ entries are.
          let (e, shown, split) = rw c.in-Some.is at (step entries are) in
          let up = subst (Rises entry_cmp) split (before.rises entries are) in
          let bytes = summed_bytes c.args.self.up_to c.args.self.compacted entries in
          let listed =
          before.listed entries are ∙ ap (λ (es : List LeafElement). filter (is_current_at c.args.self.up_to (revisions entries)) (revisions es)) split in
          let knows : KnowsCurrent c.args.self entries (shown_entry c.in-Some.entry) c.take_first-is_listed.result.0 c.has_current-any.result = record {
            nameless = c.requires.nameless entries are;
            listed = c.take_first-is_listed.ensures.has ∙ ap (λ (v : EntryView). begins_with_key v.key (map shown_revision c.rest.listed.now)) shown
                ∙ (is_first (is_current_at c.args.self.up_to (revisions entries)) e _ up _ listed).0
                ∙ ap (λ (v : EntryView). passes (is_current_at c.args.self.up_to (revisions entries)) (revision_of v)) (sym shown);
            any = c.has_current-any.ensures ∙ any_current c.args.self.up_to entries _ _ (c.requires.nameless entries are) (c.requires.current entries are);
          } in
          ap (λ (state : ℕ). crc_from state (bytes (ahead_of c.advance.new.self entries)))
          (c.add.ensures entries knows
          ∙ ap (λ (v : EntryView). sum_with c.args.self.up_to c.args.self.compacted (numbered entries) v (crc_state c.rest.sum)) shown)
          ∙ sum_step c.args.self.up_to c.args.self.compacted entries e (ahead_of c.advance.new.self entries) (crc_state c.rest.sum)
          ∙ ap (λ (es : List LeafElement). crc_from (crc_state c.rest.sum) (bytes es)) (sym split)
          ∙ before.sum entries are;
    }

pub returns : goal.returns
unfolding crc_of hash_kv
returns c = λ entries are.
    let before = c.rest.invariant in
    let step =
    moved_to _ _ _ _ (λ entries. ShowsFirst (ahead_of c.rest.pass entries) (ahead_of c.advance.new.self entries) (option_map shown_entry c.advance.result))
    before.checked before.start c.advance.ensures.first in
    let (none, end) = rw c.in_default.is at (step entries are) in
    let bytes = summed_bytes c.args.self.up_to c.args.self.compacted entries in
    c.finish.ensures ∙ ap crc_end (ap (λ (es : List LeafElement). crc_from (crc_state c.rest.sum) (bytes es)) (sym none) ∙ before.sum entries are)

use Rattle.std.proofs.Common.{ap, inl, inr, map, refl, subst, sym}
use Rattle.std.proofs.lemmas.List.{append-nil}
use Rattle.bolt_tree.specs.{Paths.Path, Paths.path_of, ShownEntries.item_view}
use Rattle.bolt_etcd.specs.Wire.ShownRevisions.{entry_of}
use Rattle.bolt_repair.specs.RecoveredStores.{NotesMember}
use Rattle.bolt_repair.proofs.NotedMembers.{bucket_there, compaction_noted, nothing_there, store_noted}
use Rattle.bolt_repair.proofs.ReadableLemmas.{noted_meta, noted_readable, noted_unread, readable_after}
use Rattle.bolt_repair.proofs.ReadablePaths.{compaction_no_meta, entry_no_meta, meta_below, none_below, not_unread, readable_compaction, readable_if}
use Rattle.bolt_repair.proofs.ReadablePaths.{readable_meta, readable_store, store_no_meta, unreadable_below}
use Rattle.bolt_repair.proofs.recovered_store.RecoveredStore.note.Goals as goal

pub returns-in-Store : goal.returns-in-Store
returns-in-Store c = λ before after s.
    let at = c.in-Store.ensures in
    let (reads, none) = readable_store _ (item_view c.args.item) at in
    noted_readable before (path_of c.args.path.now) (item_view c.args.item) _ _ _ s reads none (store_no_meta _ at) refl refl
    (λ t. store_noted _ _ _ (readable_after before (path_of c.args.path.now) (item_view c.args.item) after) _ _ _ _ _ t at)

pub returns-in-Meta : goal.returns-in-Meta
returns-in-Meta c = λ before after s.
    let at = c.in-Meta.ensures in
    let (reads, none) = readable_meta _ (item_view c.args.item) at in
    noted_meta before (path_of c.args.path.now) (item_view c.args.item) _ _ _ s reads none at refl refl
    (λ t. nothing_there _ _ _ (readable_after before (path_of c.args.path.now) (item_view c.args.item) after) _ _ _ _ _ t (λ e. store_no_meta _ e at)
    (λ key e. entry_no_meta _ key e at) (λ e. compaction_no_meta _ e at))

pub returns-in-Value : goal.returns-in-Value
returns-in-Value c = λ before after s.
    let at = c.in-Compaction.ensures in
    let (reads, none) = readable_compaction _ (item_view c.args.item) at in
    noted_readable before (path_of c.args.path.now) (item_view c.args.item) _ _ _ s reads none (compaction_no_meta _ at) refl refl
    (λ t. compaction_noted _ _ _ (readable_after before (path_of c.args.path.now) (item_view c.args.item) after) _ _ _ _ _ t c.in-Value.value.now
    (ap item_view c.in-Value.is) at)

pub returns-in_default : goal.returns-in_default
returns-in_default c = λ before after s.
    let at = c.in-Compaction.ensures in
    let (reads, none) = readable_compaction _ (item_view c.args.item) at in
    noted_readable before (path_of c.args.path.now) (item_view c.args.item) _ _ _ s reads none (compaction_no_meta _ at) refl refl
    (λ t. bucket_there _ _ _ (readable_after before (path_of c.args.path.now) (item_view c.args.item) after) _ _ _ _ _ t c.in_default.field-0
    (ap item_view c.in_default.is) at)

pub returns-in-Below : goal.returns-in-Below
returns-in-Below c = λ before after s.
    let path = path_of c.args.path.now in
    let item = item_view c.args.item in
    elim c.in-Below.is [
      | inl is ↦
          let below = rw is at c.store_path_of.ensures in
          noted_unread before path item _ _ _ s _ (unreadable_below path item below) (none_below path item below) (meta_below path below)
          (sym (append-nil _)) refl (λ t. t)
      | inr is ↦
          let (bucket, entry, compaction, meta, above) = rw is at c.store_path_of.ensures in
          let none = not_unread path item entry in
          noted_readable before path item _ _ _ s (readable_if path item none above) none meta refl refl
          (λ t. nothing_there _ path item (readable_after before path item after) _ _ _ _ _ t bucket entry compaction)
    ]

pub returns-in_ok-note_entry-in-InStore : goal.returns-in_ok-note_entry-in-InStore
returns-in_ok-note_entry-in-InStore c =
    subst (λ (path : Path). NotesMember (map entry_of c.args.candidates.now) (path, item_view c.args.item) c.args.self.now c.note_entry.new.self)
    (sym c.in-InStore.ensures)
    c.in_ok-note_entry-in-InStore.ensures

use Rattle.std.proofs.Common.{Bor, List, [], ap, map, subst, sym, ◌++◌, ◌∷◌, None, ℕ}
use Rattle.bolt_lemmas.proofs.Exports.{contains_none}
use Rattle.bolt_tree.specs.{Listing.Member, Paths.path_of, ShownEntries.item_view}
use Rattle.bolt_etcd.specs.{Wire.ShownRevisions.entry_of, Wire.ShownRevisions.shown_revision, declared.wire.revision.Revision.Revision}
use Rattle.bolt_etcd.specs.Wire.UnreadEntries.{shown_unread}
use Rattle.bolt_repair.specs.Repairs.{meta_path}
use Rattle.bolt_repair.specs.RecoveredStores.{IsRecoveredStore, IsStoreNoted}
use Rattle.bolt_repair.proofs.NotedMembers.{next_member, no_more, no_members_noted}
use Rattle.bolt_repair.proofs.recovered_store.RecoveredStore.of.Goals as goal

pub members-init : goal.members-init
members-init c =
    let now = λ (k : Bor (List ℕ)). k.now in
    let candidates = map entry_of c.args.candidates.now in
    record {
      reads = λ listing is. rw (c.in_ok-recovered.ensures.file, c.in_ok-recovered.ensures.meta) is;
      noted = λ listing is. (
        [],
        c.in_ok-recovered.ensures.all listing is,
        record {
          store =
              subst (λ (keys : List (Bor (List ℕ))). IsRecoveredStore [] candidates None None (map shown_revision c.in_ok-room.room.items) (map now keys))
              (sym c.new.ensures.items)
              (subst (λ (rs : List Revision). IsRecoveredStore [] candidates None None (map shown_revision rs) []) (sym c.in_ok-room.ensures.items)
              (no_members_noted candidates));
          unread = ap (map shown_unread) c.new-2.ensures.items;
          meta = (λ e. absurd (cc), λ (item, has). absurd (contains_none (meta_path, item) has));
        },
      );
    }

pub members-preserved : goal.members-preserved
members-preserved c = record {
  reads = λ listing is. (c.in_ok-item.ensures.reads listing).1 (c.members.invariant.reads listing is);
  noted = λ listing is.
      let m : Member = (path_of c.path.result.now, item_view c.in-Some.item) in
      let (before, all, s) = c.members.invariant.noted listing is in
      let given = c.in_ok-item.ensures.given listing (c.members.invariant.reads listing is) in
      let first = rw c.in-Some.is at given in
      let (after, next) = next_member listing before _ _ _ _ _ is.rises all first c.path.ensures in
      (before ++ m ∷ [], next, c.in_ok-note.ensures before after s);
}

pub returns : goal.returns
returns c = λ listing is.
    let (before, all, s) = c.members.invariant.noted listing is in
    let given = c.in_ok-item.ensures.given listing (c.members.invariant.reads listing is) in
    let none = rw c.in_default.is at given in
    subst (λ (ms : List Member). IsStoreNoted ms (map entry_of c.args.candidates.now) c.members.store) (no_more listing before _ all none.0) s

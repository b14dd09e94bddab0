-- What etcd can read of some members, and of one more.
use Rattle.std.proofs.Common.{◌≡◌, ◌∙◌, ◌↔◌, inl, inr, Bool, true, false, List, [], ◌∷◌, ◌++◌, Option, None, ap, cond, map, subst, sym}
use Rattle.std.proofs.lemmas.List.{append-nil}
use Rattle.std.proofs.lemmas.List.Elements.{Contains-append_left, Contains-push, Contains-push_cases, filter-append, filter_map-append}
use Rattle.std.specs.{List.Contains, List.cons_option, Borrow.Bor, Option.option_map}
use Rattle.bolt_lemmas.proofs.Exports.{kept_from}
use Rattle.bolt_check.specs.Keys.{Key}
use Rattle.bolt_tree.specs.{Entries.EntryView, Entries.Item, Listing.Member, Paths.Path, ShownEntries.item_view}
use Rattle.bolt_etcd.specs.{Wire.UnreadEntries.UnreadView, Wire.UnreadEntries.shown_unread, Wire.ShownRevisions.shown_revision}
use Rattle.bolt_repair.specs.{Readable.is_readable, Readable.readable, Readable.unread, Readable.unread_at, Repairs.HasMeta, Repairs.meta_path}
use Rattle.bolt_repair.specs.RecoveredStores.{ComesAfter, IsRecoveredStore, IsStoreNoted}
use Rattle.bolt_repair.specs.declared.recovered_store.RecoveredStore.{RecoveredStore}

-- what is noted of the members that etcd can read
abbrev pub NotesStore : List EntryView → List Member → RecoveredStore → Type 0
NotesStore candidates ms store =
    IsRecoveredStore ms candidates (option_map item_view store.bucket) (option_map (λ (value : Bor Key). value.now) store.compaction)
    (map shown_revision store.kept.items)
    (map (λ (key : Bor Key). key.now) store.met.items)

module _ (before : List Member) (path : Path) (item : Item) where
  abbrev more : List Member
  more = before ++ (path, item) ∷ []

  readable_with : (b : Bool) → is_readable path item ≡ b → readable more ≡ readable before ++ cond b ((path, item) ∷ []) []
  readable_with b is =
      filter-append (λ (m : Member). is_readable m.0 m.1) before ((path, item) ∷ []) ∙ ap (λ (c : Bool). readable before ++ cond c ((path, item) ∷ []) []) is

  readable_more : is_readable path item ≡ true → readable more ≡ readable before ++ (path, item) ∷ []
  readable_more is = readable_with true is

  readable_less : is_readable path item ≡ false → readable more ≡ readable before
  readable_less is = readable_with false is ∙ append-nil (readable before)

  unread_with : (o : Option UnreadView) → unread_at path item ≡ o → unread more ≡ unread before ++ cons_option o []
  unread_with o is =
      filter_map-append (λ (m : Member). unread_at m.0 m.1) before ((path, item) ∷ []) ∙ ap (λ (p : Option UnreadView). unread before ++ cons_option p []) is

  unread_same : unread_at path item ≡ None → unread more ≡ unread before
  unread_same none = unread_with None none ∙ append-nil (unread before)

  pub readable_after : ComesAfter before (path, item) → ComesAfter (readable before) (path, item)
  readable_after after x has = after x (kept_from (λ (m : Member). is_readable m.0 m.1) before x has).0

  -- ---- what is noted

  module _ (candidates : List EntryView) (old new : RecoveredStore) (s : IsStoreNoted before candidates old) where
    meta_same : (path ≡ meta_path → ⊥) → new.has_meta ≡ old.has_meta → (new.has_meta ≡ true) ↔ HasMeta more
    meta_same elsewhere same = (
      λ is. let (i, has) = s.meta.0 (sym same ∙ is) in (i, Contains-append_left before ((path, item) ∷ []) (meta_path, i) has),
      λ (i, has).
          same ∙ s.meta.1 (elim (Contains-push_cases before (path, item) (meta_path, i) has) [
            | inl there ↦ (i, there)
            | inr is ↦ absurd (elsewhere (ap (λ (m : Member). m.0) is))
          ]),
    )

    -- a member that etcd can read
    pub noted_readable : is_readable path item ≡ true → unread_at path item ≡ None → (path ≡ meta_path → ⊥)
        → map shown_unread new.unread.items ≡ map shown_unread old.unread.items → new.has_meta ≡ old.has_meta
        → (NotesStore candidates (readable before) old → NotesStore candidates (readable before ++ (path, item) ∷ []) new) → IsStoreNoted more candidates new
    noted_readable is none elsewhere same same_meta step = record {
      store = subst (λ (ms : List Member). NotesStore candidates ms new) (sym (readable_more is)) (step s.store);
      unread = same ∙ s.unread ∙ sym (unread_same none);
      meta = meta_same elsewhere same_meta;
    }

    -- one that it can't read
    pub noted_unread : (o : Option UnreadView) → is_readable path item ≡ false → unread_at path item ≡ o → (path ≡ meta_path → ⊥)
        → map shown_unread new.unread.items ≡ map shown_unread old.unread.items ++ cons_option o []
        → new.has_meta ≡ old.has_meta → (NotesStore candidates (readable before) old → NotesStore candidates (readable before) new)
        → IsStoreNoted more candidates new
    noted_unread o is this elsewhere more_of same_meta step = record {
      store = subst (λ (ms : List Member). NotesStore candidates ms new) (sym (readable_less is)) (step s.store);
      unread = more_of ∙ ap (λ (os : List UnreadView). os ++ cons_option o []) s.unread ∙ sym (unread_with o this);
      meta = meta_same elsewhere same_meta;
    }

    -- the bucket `meta`, or what is in its place
    pub noted_meta : is_readable path item ≡ true → unread_at path item ≡ None → path ≡ meta_path
        → map shown_unread new.unread.items ≡ map shown_unread old.unread.items → new.has_meta ≡ true
        → (NotesStore candidates (readable before) old → NotesStore candidates (readable before ++ (path, item) ∷ []) new) → IsStoreNoted more candidates new
    noted_meta is none at same there step = record {
      store = subst (λ (ms : List Member). NotesStore candidates ms new) (sym (readable_more is)) (step s.store);
      unread = same ∙ s.unread ∙ sym (unread_same none);
      meta = (λ f. (item, subst (λ (p : Path). Contains more (p, item)) at (Contains-push before (path, item))), λ f. there);
    }

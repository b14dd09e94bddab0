-- An entry of the bucket that etcd can read is kept, and looked for among the candidates; another one is noted.
use Rattle.std.proofs.Common.{Bor, List, [], Some, ap, map, refl, sym, ◌∙◌, ◌∷◌, ◌++◌, ℕ}
use Rattle.std.proofs.{lemmas.Bool.false≢true, lemmas.List.map-append, lemmas.Result.on_ok_weaker}
use Rattle.bolt_tree.specs.ShownEntries.{shown_entry}
use Rattle.bolt_etcd.specs.{Wire.UnreadEntries.shown_unread}
use Rattle.bolt_repair.specs.Repairs.{store_path}
use Rattle.bolt_repair.proofs.NotedMembers.{key_not_wanted, key_noted}
use Rattle.bolt_repair.proofs.{ReadableLemmas.noted_readable, ReadableLemmas.noted_unread, ReadableLemmas.readable_after, ReadablePaths.entry_no_meta}
use Rattle.bolt_repair.proofs.{ReadablePaths.readable_entry, ReadablePaths.unread_entry}
use Rattle.bolt_repair.proofs.recovered_store.RecoveredStore.note_entry.Goals as goal

pub returns-in-Some : goal.returns-in-Some
returns-in-Some c =
    let e = shown_entry c.args.entry.now in
    let (reads, this) = unread_entry e (shown_unread c.in-Some.other) (sym c.in-Some.ensures) in
    on_ok_weaker c.push_to.result (λ more before after s.
    noted_unread before (store_path ++ e.key ∷ []) e.item _ _ _ s (Some (shown_unread c.in-Some.other)) reads this (entry_no_meta _ e.key refl)
    (ap (map shown_unread) more ∙ map-append shown_unread c.args.self.now.unread.items (c.in-Some.other ∷ [])) refl (λ t. t)) c.push_to.ensures

pub returns-in_ok-push_to : goal.returns-in_ok-push_to
returns-in_ok-push_to c = λ before after s.
    let now = λ (k : Bor (List ℕ)). k.now in
    let e = shown_entry c.args.entry.now in
    let (reads, none) = readable_entry e (sym c.in_default.ensures) in
    let more = ap (map now) c.in_ok-push_to.ensures ∙ map-append now c.args.self.now.met.items (c.args.entry.now.key ∷ []) in
    noted_readable before (store_path ++ e.key ∷ []) e.item _ _ _ s reads none (entry_no_meta _ e.key refl) refl refl
    (λ t. key_noted _ _ _ (readable_after before (store_path ++ e.key ∷ []) e.item after) _ _ _ _ _ t e.key refl _ c.in_ok-keep_revision.ensures _ more
    (c.has_candidate.ensures.0 c.if-has_candidate.true))

pub returns-else-has_candidate : goal.returns-else-has_candidate
returns-else-has_candidate c = λ before after s.
    let e = shown_entry c.args.entry.now in
    let (reads, none) = readable_entry e (sym c.in_default.ensures) in
    noted_readable before (store_path ++ e.key ∷ []) e.item _ _ _ s reads none (entry_no_meta _ e.key refl) refl refl
    (λ t. key_not_wanted _ _ _ (readable_after before (store_path ++ e.key ∷ []) e.item after) _ _ _ _ _ t e.key refl _ c.in_ok-keep_revision.ensures
    (λ has. false≢true (sym c.if-has_candidate.false ∙ c.has_candidate.ensures.1 has)))

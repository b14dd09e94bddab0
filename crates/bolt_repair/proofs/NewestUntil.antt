-- What goes back, of the code.
use Rattle.std.proofs.Common.{◌≡◌, ◌∙◌, ◌↔◌, ◌||◌, ◌++◌, ℕ, Bool, true, false, List, [], ◌∷◌, ap, ap₂, filter, map, not, refl, subst, sym}
use Rattle.std.proofs.{lemmas.List.map-append, lemmas.List.Sorted.Contains-permutation, lemmas.List.Sorted.IsPermutation-map}
use Rattle.std.proofs.{lemmas.List.Sorted.IsPermutation-sym, lemmas.List.Elements.All-contains}
use Rattle.std.specs.{List.All, List.Contains, List.cons_option, List.filter_map, List.Sorted.IsPermutation}
use Rattle.bolt_lemmas.proofs.Exports.{filter_all, filter_mapped, shows_from}
use Rattle.bolt_check.specs.Keys.{Key}
use Rattle.bolt_etcd.specs.{Store.Current.AreCurrentBySum, Store.Current.HaveOwnKeys, Store.Current.IsCurrentAmong, Store.Newest.is_until}
use Rattle.bolt_repair.specs.Candidates.{among}
use Rattle.bolt_etcd.specs.{Store.HashKv.passes, Store.Newest.until, Wire.Revisions.RevisionView, Wire.Revisions.revision_of}
use Rattle.bolt_etcd.specs.{Wire.ShownRevisions.entry_of, Wire.ShownRevisions.shown_revision, declared.wire.revision.Revision.Revision}
use Rattle.bolt_tree.specs.Entries.{EntryView}
use Rattle.bolt_etcd.proofs.Exports.{has_stored_key, is_revision}
use Rattle.bolt_repair.specs.WhatGoesBack.{AreTheNewest, goes_back, old_revisions}
use Rattle.bolt_repair.proofs.KeysAmong.{among_is}

abbrev pub key_of : Revision → Key
key_of r = (entry_of r).key

shown_all : (rs : List Revision) → filter_map revision_of (map entry_of rs) ≡ map shown_revision rs
shown_all [] = refl
shown_all (r ∷ rs) =
    ap (λ o. cons_option o (filter_map revision_of (map entry_of rs))) (is_revision r) ∙ ap (λ (ss : List RevisionView). shown_revision r ∷ ss) (shown_all rs)

stored_keys : (rs : List Revision) → map (λ (r : RevisionView). r.stored_key) (map shown_revision rs) ≡ map key_of rs
stored_keys [] = refl
stored_keys (r ∷ rs) = ap₂ (λ (k : Key) (ks : List Key). k ∷ ks) (has_stored_key r) (stored_keys rs)

-- ---- whether one goes back

module _ (compacted : ℕ) (newest : List Revision) (r : Revision) (old : Bool) (is : old ≡ is_until compacted (shown_revision r)) where
  old_is : old ≡ passes (is_until compacted) (revision_of (entry_of r))
  old_is = is ∙ sym (ap (passes (is_until compacted)) (is_revision r))

  pub goes_new : old ≡ false → true ≡ goes_back compacted (map shown_revision newest) (entry_of r)
  goes_new new = ap (λ (b : Bool). not b || among (map (λ (s : RevisionView). s.stored_key) (map shown_revision newest)) (key_of r)) (sym new ∙ old_is)

  pub goes_old : not old ≡ false → (one : Bool) → ((one ≡ true) ↔ Contains (map key_of newest) (key_of r))
      → one ≡ goes_back compacted (map shown_revision newest) (entry_of r)
  goes_old known one has =
      among_is (map key_of newest) (key_of r) one has
      ∙ ap (λ (ks : List Key). among ks (key_of r)) (sym (stored_keys newest))
      ∙ ap (λ (b : Bool). b || among (map (λ (s : RevisionView). s.stored_key) (map shown_revision newest)) (key_of r)) (sym known ∙ ap not old_is)

-- if none is old, all go back
pub all_go_back : (compacted : ℕ) (newest : List RevisionView) (agreed : List Revision)
    → All (λ r. is_until compacted (shown_revision r) ≡ false) agreed
    → map entry_of agreed ≡ filter (goes_back compacted newest) (map entry_of agreed)
all_go_back compacted newest agreed none = sym (filter_all (goes_back compacted newest) (map entry_of agreed) (λ e has.
    let (r, there, is) = shows_from entry_of agreed e has in
    let new =
    ap (passes (is_until compacted)) (is_revision r) ∙ All-contains (λ (s : Revision). is_until compacted (shown_revision s) ≡ false) agreed r none there in
    subst (λ (x : EntryView). goes_back compacted newest x ≡ true) is
    (ap (λ (b : Bool). not b || among (map (λ (s : RevisionView). s.stored_key) newest) (key_of r)) new)))

-- ---- the newest ones

module _ (compacted : ℕ) (kept agreed all old found sorted : List Revision) (joined : all ≡ kept ++ agreed)
    (those : old ≡ filter (λ (r : Revision). is_until compacted (shown_revision r)) all)
    (newest : HaveOwnKeys (map shown_revision old) → AreCurrentBySum (map shown_revision old) (map shown_revision found)) (moved : IsPermutation found sorted) where
  abbrev olds : List RevisionView
  olds = old_revisions compacted (map shown_revision kept) (map entry_of agreed)

  shown_old : map shown_revision old ≡ olds
  shown_old =
      ap (map shown_revision) (those ∙ ap (filter (λ (r : Revision). is_until compacted (shown_revision r))) joined)
      ∙ filter_mapped shown_revision (is_until compacted) (kept ++ agreed)
      ∙ ap (until compacted) (map-append shown_revision kept agreed ∙ ap (λ (rs : List RevisionView). map shown_revision kept ++ rs) (sym (shown_all agreed)))

  pub are_the_newest : AreTheNewest olds (map shown_revision sorted)
  are_the_newest own r =
      let are = newest (subst HaveOwnKeys (sym shown_old) own) in
      let same = IsPermutation-map shown_revision found sorted moved in (
        λ has. subst (λ (rs : List RevisionView). IsCurrentAmong rs r) shown_old
            ((are.exact r).0 (Contains-permutation (map shown_revision sorted) (map shown_revision found) r (IsPermutation-sym _ _ same) has)),
        λ n. Contains-permutation (map shown_revision found) (map shown_revision sorted) r same
            ((are.exact r).1 (subst (λ (rs : List RevisionView). IsCurrentAmong rs r) (sym shown_old) n)),
      )

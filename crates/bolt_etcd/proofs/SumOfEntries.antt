-- The sum over entries: each step adds those that are summed.
use Rattle.std.proofs.Common.{◌≡◌, ◌∙◌, ℕ, Bool, true, false, List, [], ◌∷◌, ◌++◌, ◌&&◌, ap, append_assoc, inl, inr, filter, flat_map, nat_lt, not}
use Rattle.std.proofs.Common.{Option, Some, None, refl, sym}
use Rattle.std.proofs.lemmas.Bool.{cases_Bool, cond-false, cond-true}
use Rattle.std.specs.Option.{option_map}
use Rattle.bolt_format.specs.Elements.{LeafElement}
use Rattle.bolt_tree.specs.Entries.{EntryView, entry_view}
use Rattle.bolt_etcd.specs.{Store.Crc32c.crc_from, Store.Crc32c.crc_step, Store.CurrentKeys.is_current_by, Store.HashKv.is_left_out}
use Rattle.bolt_etcd.specs.{Store.HashKv.is_summed, Store.HashKv.passes, Wire.Numbered.numbered, Wire.Numbered.numbered_of}
use Rattle.bolt_etcd.specs.{Wire.Revisions.RevisionView, Wire.ShownNumbered.ShowsNumbered, Wire.ShownRevisions.value_bytes}
use Rattle.bolt_etcd.specs.{Store.SumSteps.KnowsCurrent, Store.SumSteps.sum_with, declared.store.hash_kv.HashBounds.HashBounds}
use Rattle.bolt_etcd.specs.{declared.wire.numbered_entry.NumberedEntry.NumberedEntry}
use Rattle.bolt_etcd.proofs.CurrentOnes.{known_current}

-- what the code finds of an entry
module _ (h : HashBounds) (entries : List LeafElement) (v : EntryView) (n : NumberedEntry) (r : RevisionView) (listed any current included : Bool)
    (knows : KnowsCurrent h entries v listed any) (shows : ShowsNumbered v n r)
    (is_current : current ≡ is_current_by (option_map (λ key. key.now) h.nameless) listed n.name.now n.stored_key.now)
    (includes : included ≡ (not (nat_lt h.up_to n.key.main) && not (is_left_out h.compacted n.key current any))) where
  included_is : included ≡ passes (is_summed h.up_to h.compacted (numbered entries)) (numbered_of v)
  included_is =
      let known = known_current h.up_to entries v r _ listed shows.found knows.nameless knows.listed n.name.now n.stored_key.now shows.name shows.stored_key in
      includes ∙ rw (is_current, known, shows.key, knows.any, shows.found) refl

  module _ (old new : ℕ) where
    pub is_added : included ≡ true → new ≡ crc_from (crc_from old n.stored_key.now) n.value.now
        → new ≡ sum_with h.up_to h.compacted (numbered entries) v old
    is_added added is = is ∙ rw (shows.entry_key, shows.value) refl ∙ sym (cond-true _ _ _ (sym included_is ∙ added))

    pub not_added : included ≡ false → old ≡ sum_with h.up_to h.compacted (numbered entries) v old
    not_added none = sym (cond-false _ _ _ (sym included_is ∙ none))

-- ---- one entry after another

pub taken_both : (state : ℕ) (front rest : List ℕ) → crc_from state (front ++ rest) ≡ crc_from (crc_from state front) rest
taken_both state [] rest = refl
taken_both state (byte ∷ front) rest = taken_both (crc_step state byte) front rest

abbrev pub summed_bytes : (up_to compacted : ℕ) → (all : List LeafElement) → List LeafElement → List ℕ
summed_bytes up_to compacted all es =
    flat_map (λ e. e.key ++ e.value) (filter (λ e. passes (is_summed up_to compacted (numbered all)) (numbered_of (entry_view e))) es)

no_number : (e : LeafElement) → e.is_bucket ≡ true → numbered_of (entry_view e) ≡ None
unfolding numbered_of
no_number e bucket = rw bucket refl

module _ (up_to compacted : ℕ) (all : List LeafElement) where
  -- an entry that is summed is a value
  value_of_summed : (e : LeafElement) (r : RevisionView) → numbered_of (entry_view e) ≡ Some r → value_bytes (entry_view e) ≡ e.value
  value_of_summed e r is = go e.is_bucket refl
    where
      go : (b : Bool) → e.is_bucket ≡ b → value_bytes (entry_view e) ≡ e.value
      go true bucket = (let none : numbered_of (entry_view e) ≡ None = no_number e bucket in cc)
      go false flat = rw flat refl

  pub sum_step : (e : LeafElement) (later : List LeafElement) (state : ℕ)
      → crc_from (sum_with up_to compacted (numbered all) (entry_view e) state) (summed_bytes up_to compacted all later)
      ≡ crc_from state (summed_bytes up_to compacted all (e ∷ later))
  sum_step e later state = go (numbered_of (entry_view e)) refl
    where
      rest : List ℕ
      rest = summed_bytes up_to compacted all later

      go : (o : Option RevisionView) → numbered_of (entry_view e) ≡ o
          → crc_from (sum_with up_to compacted (numbered all) (entry_view e) state) rest ≡ crc_from state (summed_bytes up_to compacted all (e ∷ later))
      go None none = rw none refl
      go (Some r) is = elim (cases_Bool (is_summed up_to compacted (numbered all) r)) [
        | inl added ↦
            rw (is, added, value_of_summed e r is)
            (sym (taken_both (crc_from state e.key) e.value rest) ∙ sym (taken_both state e.key (e.value ++ rest))
            ∙ ap (crc_from state) (sym (append_assoc e.key e.value rest)))
        | inr left ↦ rw (is, left) refl
      ]

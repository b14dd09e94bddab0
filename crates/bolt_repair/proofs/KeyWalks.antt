-- Candidates by rising key, beside one key.
use Rattle.std.proofs.Common.{◌≡◌, ◌∙◌, ◌<◌, ◌≤◌, ◌-◌, ◌↔◌, inl, inr, ℕ, Bool, true, false, List, length, map, slice_index_or, refl, sym, ap}
use Rattle.std.proofs.Common.{subst, arith}
use Rattle.std.proofs.{lemmas.List.MinMax.ranks_by, lemmas.List.Sorted.sorted_far}
use Rattle.std.proofs.lemmas.List.{get_or_default}
use Rattle.std.proofs.{lemmas.Bool.cases_lt, lemmas.Slice.Eq.bytes_eq-Decides}
use Rattle.std.specs.{Ordering.is_lt, Ordering.ordering_reverse, Str.bytes_eq, declared.cmp.Ordering.Ordering}
use Rattle.std.specs.declared.cmp.Ordering.TheVariants.{Equal, Greater, Less}
use Rattle.bolt_lemmas.proofs.Exports.{Climbs, climbs_sorted, irreflexive, less_of, neither, shows_from, shows_has, sorted_by_shown}
use Rattle.bolt_lemmas.specs.Order.{Rises}
use Rattle.bolt_check.specs.Keys.{Key, key_cmp}
use Rattle.bolt_tree.proofs.Exports.{key_exact, key_total}
use Rattle.bolt_tree.specs.Entries.{EntryView}
use Rattle.bolt_repair.specs.{Candidates.HasKey, Candidates.whole_cmp, Keyed.HaveLesserKeys}
use Rattle.bolt_etcd.specs.{Wire.ShownRevisions.entry_of, declared.wire.revision.Revision.Revision}
use Rattle.bolt_repair.proofs.Alones.{entries_climb, entry_below}

-- what isn't above one that is below a key is below the key
at_most : (a b key : Key) (o : Ordering) → key_cmp a b ≡ o → is_lt (ordering_reverse o) ≡ false → key_cmp b key ≡ Less → key_cmp a key ≡ Less
at_most a b key Less is not_above less = key_total.trans a b key is less
at_most a b key Equal is not_above less = subst (λ (k : Key). key_cmp k key ≡ Less) (sym (key_exact a b is)) less
at_most a b key Greater is not_above less = cc

module _ (key : Key) (xs : List Revision) (rises : Rises whole_cmp (map entry_of xs)) where
  climbs : Climbs entry_below (map entry_of xs)
  climbs = entries_climb (map entry_of xs) rises

  not_above : (j k : ℕ) (d : Revision) → j ≤ k → k < length xs
      → is_lt (ordering_reverse (key_cmp (slice_index_or xs j d).key.now (slice_index_or xs k d).key.now)) ≡ false
  not_above j k d le lt =
      ap is_lt (sym (key_total.antisymm (slice_index_or xs k d).key.now (slice_index_or xs j d).key.now))
      ∙ sorted_far _ (ranks_by key_total (λ (r : Revision). r.key.now)) xs
      (sorted_by_shown entry_of entry_below xs (climbs_sorted entry_below _ climbs)) j k d le lt

  -- if the one before a place is below, all before it are
  pub below_all : (n : ℕ) (r : Revision) → 0 < n → n ≤ length xs → r ≡ slice_index_or xs (n - 1) r → is_lt (key_cmp r.key.now key) ≡ true
      → HaveLesserKeys key xs n
  below_all n r some within at less = (
    within,
    λ k d lt.
        let last : slice_index_or xs (n - 1) r ≡ slice_index_or xs (n - 1) d = get_or_default xs (n - 1) r d (omega arith) in
        let before = less_of (key_cmp r.key.now key) less in
        at_most (slice_index_or xs k d).key.now (slice_index_or xs (n - 1) d).key.now key _ refl (not_above k (n - 1) d (omega arith) (omega arith))
        (subst (λ (x : Revision). key_cmp x.key.now key ≡ Less) (at ∙ last) before),
  )

  -- none has the key, if all are below
  pub past_all : (i : ℕ) → HaveLesserKeys key xs i → length xs ≤ i → HasKey (map entry_of xs) key → ⊥
  past_all i below all (e, has, at) =
      let (x, (k, lt, is), shows) = shows_from entry_of xs e has in
      let less = below.1 k x (omega arith) in
      let same : slice_index_or xs k x ≡ x = is in
      let wrong : key_cmp key key ≡ Less =
      subst (λ (y : Key). key_cmp y key ≡ Less) (ap (λ (y : Revision). y.key.now) same ∙ ap (λ (v : EntryView). v.key) shows ∙ at) less in
      irreflexive key_total key wrong

  -- else the next one has it, or none
  module _ (i : ℕ) (r : Revision) (below : HaveLesserKeys key xs i) (lt : i < length xs) (at : r ≡ slice_index_or xs i r)
      (not_less : is_lt (key_cmp r.key.now key) ≡ false) where
    next_only : HasKey (map entry_of xs) key → r.key.now ≡ key
    next_only (e, has, same) =
        let (x, (k, within, is), shows) = shows_from entry_of xs e has in
        let key_is : x.key.now ≡ key = ap (λ (v : EntryView). v.key) shows ∙ same in
        let here : slice_index_or xs k x ≡ x = is in
        elim (cases_lt k i) [
          | inl before ↦
              let less = subst (λ (y : Revision). key_cmp y.key.now key ≡ Less) here (below.1 k x before) in
              absurd (irreflexive key_total key (subst (λ (l : Key). key_cmp l key ≡ Less) key_is less))
          | inr after ↦
              let mine : slice_index_or xs i x ≡ r = get_or_default xs i x r lt ∙ sym at in
              let above = not_above i k x after within in
              let turned = subst (λ (y : Revision). is_lt (ordering_reverse (key_cmp y.key.now (slice_index_or xs k x).key.now)) ≡ false) mine above in
              let beside =
              subst (λ (l : Key). is_lt (ordering_reverse (key_cmp r.key.now l)) ≡ false) (ap (λ (y : Revision). y.key.now) here ∙ key_is) turned in
              key_exact r.key.now key (neither (key_cmp r.key.now key) not_less beside)
        ]

    pub found : (b : Bool) → b ≡ bytes_eq r.key.now key → (b ≡ true) ↔ HasKey (map entry_of xs) key
    found b is = (
      λ e. (entry_of r, shows_has entry_of xs r (i, lt, sym at), (bytes_eq-Decides r.key.now key).0 (sym is ∙ e)),
      λ has. is ∙ (bytes_eq-Decides r.key.now key).1 (next_only has),
    )

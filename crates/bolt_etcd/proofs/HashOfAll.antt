-- At each revision that isn't below the newest one, the hash is the same.
use Rattle.std.proofs.Common.{◌≡◌, ◌∙◌, ◌≤◌, ◌++◌, ◌&&◌, ℕ, Bool, true, List, [], ◌∷◌, ap, arith, filter, flat_map, inl, inr, not, Option}
use Rattle.std.proofs.Common.{Some, None, refl, sym}
use Rattle.std.proofs.lemmas.Bool.{le-ltb}
use Rattle.std.specs.List.{Contains, list_any}
use Rattle.bolt_lemmas.proofs.Exports.{contains_cases, contains_none, filter_all, filter_same, gives_has}
use Rattle.bolt_format.specs.Elements.{LeafElement}
use Rattle.bolt_tree.specs.Entries.{entry_view}
use Rattle.bolt_etcd.specs.{Store.Crc32c.crc_of, Histories.Compactions.is_same_revision, Store.HashKv.hash_kv, Store.HashKv.live_in}
use Rattle.bolt_etcd.specs.{Store.HashKv.is_left_out, Store.HashKv.passes, Store.Newest.is_until, Store.Newest.newest, Store.Newest.until}
use Rattle.bolt_etcd.specs.{Wire.Numbered.numbered, Wire.Numbered.numbered_of, Wire.Revisions.RevisionView, Wire.Revisions.name_of}
use Rattle.bolt_etcd.specs.{Store.Statuses.newest_main}
use Rattle.bolt_etcd.specs.Store.BucketNames.{key_bucket}

below : (rs : List RevisionView) (r : RevisionView) → Contains rs r → r.key.main ≤ newest_main rs
below [] r has = absurd (contains_none r has)
below (x ∷ rs) r has = elim (contains_cases x r rs has) [
  | inl is ↦ let same = ap (λ (y : RevisionView). y.key.main) is in omega (arith, same)
  | inr more ↦ let later = below rs r more in omega (arith, later)
]

module _ (up_to : ℕ) (rs : List RevisionView) (late : newest_main rs ≤ up_to) where
  early : (r : RevisionView) → Contains rs r → is_until up_to r ≡ true
  early r has = let main = below rs r has in ap not (le-ltb up_to r.key.main (omega (arith, main, late)))

  all_until : until up_to rs ≡ rs
  all_until = filter_all (is_until up_to) rs early

module _ (compacted : ℕ) (es : List LeafElement) where
  -- by those of no later transaction
  abbrev summed_by : (up_to : ℕ) → List RevisionView → RevisionView → Bool
  summed_by up_to early_ones r =
      let current = λ (x : RevisionView). is_same_revision x (live_in (newest (name_of x) early_ones)) in
      is_until up_to r && not (is_left_out compacted r.key (current r) (list_any current (numbered es)))

  abbrev hash_by : (up_to : ℕ) → List RevisionView → ℕ
  hash_by up_to early_ones =
      crc_of (key_bucket ++ flat_map (λ e. e.key ++ e.value) (filter (λ e. passes (summed_by up_to early_ones) (numbered_of (entry_view e))) es))

  of_all : (up_to : ℕ) → newest_main (numbered es) ≤ up_to → hash_kv up_to compacted es ≡ hash_by up_to (numbered es)
  unfolding hash_kv
  of_all up_to late = ap (hash_by up_to) (all_until up_to (numbered es) late)

  pub same_hash : (a b : ℕ) → newest_main (numbered es) ≤ a → newest_main (numbered es) ≤ b → hash_kv a compacted es ≡ hash_kv b compacted es
  same_hash a b first second =
      of_all a first ∙ ap (λ (kept : List LeafElement). crc_of (key_bucket ++ flat_map (λ (e : LeafElement). e.key ++ e.value) kept))
      (filter_same _ _ es same) ∙ sym (of_all b second)
    where
      same : (e : LeafElement) → Contains es e
          → passes (summed_by a (numbered es)) (numbered_of (entry_view e)) ≡ passes (summed_by b (numbered es)) (numbered_of (entry_view e))
      same e has = go (numbered_of (entry_view e)) refl
        where
          go : (o : Option RevisionView) → numbered_of (entry_view e) ≡ o
              → passes (summed_by a (numbered es)) (numbered_of (entry_view e)) ≡ passes (summed_by b (numbered es)) (numbered_of (entry_view e))
          go None none = rw none refl
          go (Some r) found =
              let there = gives_has (λ (x : LeafElement). numbered_of (entry_view x)) es e r has found in
              rw (found, early a (numbered es) first r there, early b (numbered es) second r there) refl

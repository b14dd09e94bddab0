-- Each file has a repaired listing, if the recovered listing has no value under the name of the bucket: whether an entry goes back can be decided.
use Rattle.std.proofs.Common.{◌≡◌, ◌↔◌, ◌&&◌, ◌-◌, ◌++◌, ℕ, Bool, true, false, List, [], ◌∷◌, Option, Some, None, ap, filter, length, map, not}
use Rattle.std.proofs.Common.{refl, subst, sym}
use Rattle.std.proofs.{lemmas.Cmp.tied_itself, lemmas.List.MinMax.ranks_by, lemmas.List.append-nil}
use Rattle.std.specs.{List.Contains, List.dedup, Option.option_to_list, Ordering.is_lt, declared.cmp.Ordering.TheVariants.Equal}
use Rattle.bolt_lemmas.proofs.Exports.{dec_each, dec_equal, dec_if, dec_some, kept_from, shows_from, shows_has, sorted_choice, sorted_elements, sorted_exists}
use Rattle.bolt_lemmas.specs.Order.{Rises}
use Rattle.bolt_format.specs.{Elements.LeafElement, declared.meta.Meta.Meta}
use Rattle.bolt_check.specs.Keys.{Key}
use Rattle.bolt_recover.specs.{Found.AreSought, Recovered.IsRecovered}
use Rattle.bolt_tree.proofs.Exports.{key_exact, key_total}
use Rattle.bolt_tree.specs.{Entries.Bucket, Entries.EntryView, Entries.Item, Entries.Value, Entries.entry_view, Listing.Member, Listing.member_cmp}
use Rattle.bolt_tree.specs.Paths.{Path}
use Rattle.bolt_etcd.specs.{Store.Compacted.compacted_by, Wire.Revisions.RevisionView, Wire.Revisions.revision_of}
use Rattle.bolt_repair.specs.Candidates.{without, AreCandidates, HasKey, candidates_in, is_candidate, is_same_entry, whole_cmp}
use Rattle.bolt_etcd.specs.Store.BucketNames.{key_bucket}
use Rattle.bolt_repair.specs.{FullRepairs.IsFullRepair, FullRepairs.LacksStoreValue, Readable.is_readable, Readable.readable, Repaired.IsRepaired}
use Rattle.bolt_repair.specs.{Repaired.Made, Repaired.MakesMeta, Repaired.elements_on, Repaired.lacks_bucket, Repaired.repaired_listing}
use Rattle.bolt_repair.specs.{Repairs.compaction_path, Repairs.meta_path, Repairs.store_path, RecoveredStores.ComesAfter}
use Rattle.bolt_repair.specs.{RecoveredStores.IsRecoveredStore, Undisputed.AreKeys, Undisputed.AreUndisputed}
use Rattle.bolt_repair.specs.WhatGoesBack.{ArePutBack, goes_back, old_revisions}
use Rattle.bolt_etcd.proofs.Exports.{dec_key, dec_path, newest_exists}
use Rattle.bolt_repair.proofs.{KeysAmong.without_has, OneRepair.readable_rises, OneRepair.view_total}
use Rattle.bolt_repair.proofs.NotedMembers.{bucket_there, compaction_noted, key_not_wanted, key_noted, next_member, no_members_noted, nothing_there}
use Rattle.bolt_repair.proofs.NotedMembers.{store_noted}
use Rattle.bolt_repair.proofs.{WholeOrder.merged_are_candidates, WholeOrder.same_whole, WholeOrder.whole_total, WholeRepairs.full_repair}
use Rattle.bolt_repair.proofs.{WholeRepairs.IsFound, WholeRepairs.is_nil}

-- ---- candidates, and keys

candidates_exist : (elements : List LeafElement) → (es : List EntryView) × AreCandidates elements es
candidates_exist elements =
    let (sorted, moved, up) =
    sorted_exists (λ (a b : EntryView). is_lt (whole_cmp a b)) (ranks_by whole_total (λ (e : EntryView). e)) (candidates_in elements) in
    (dedup is_same_entry sorted, merged_are_candidates elements sorted moved up)

abbrev keys_of : List EntryView → List Key
keys_of es = map (λ (e : EntryView). e.key) es

has_key : (es : List EntryView) (key : Key) → Contains (keys_of es) key ↔ HasKey es key
has_key es key = (
  shows_from (λ (e : EntryView). e.key) es key,
  λ (e, has, at). subst (Contains (keys_of es)) at (shows_has (λ (e : EntryView). e.key) es e has),
)

keys_exist : (es : List EntryView) → (keys : List Key) × AreKeys es keys
keys_exist es =
    let (keys, rises, are) = sorted_elements key_total (keys_of es) (λ x y has also tied. key_exact x y tied) in
    (keys, record { rises = rises; exact = λ key. (λ has. (has_key es key).0 ((are key).0 has), λ has. (are key).1 ((has_key es key).1 has)) })

-- ---- those of which no other one has their key

module _ (es : List EntryView) (are : (e : EntryView) → Contains es e → is_candidate e ≡ true) where
  abbrev Alone : EntryView → Type 0
  Alone e = (other : EntryView) → Contains es other → other.key ≡ e.key → whole_cmp other e ≡ Equal

  dec_alone : (e : EntryView) → Dec (Alone e)
  dec_alone e =
      dec_each (λ (other : EntryView). other.key ≡ e.key → whole_cmp other e ≡ Equal)
      (λ other. dec_if (dec_key other.key e.key) (dec_equal (whole_cmp other e))) es

  alone_one : (x y : EntryView) → Contains es x → Contains es y → Alone y → x.key ≡ y.key → x ≡ y
  alone_one x y has also alone same = same_whole x y (are x has) (are y also) (alone x has same)

  undisputed_exist : (undisputed : List EntryView) × AreUndisputed es undisputed
  undisputed_exist =
      let (undisputed, rises, those) =
      sorted_choice view_total Alone dec_alone es (λ x y has _ also alone tied. alone_one x y has also alone (key_exact x.key y.key tied)) in (
        undisputed,
        record {
          rises = rises;
          exact = λ e. (
            λ has. let (there, alone) = (those e).0 has in (there, λ other also same. alone_one other e also there alone same),
            λ (has, alone).
                (those e).1 (
                  has,
                  λ other also same. subst (λ (x : EntryView). whole_cmp x e ≡ Equal) (sym (alone other also same)) (tied_itself whole_total e),
                ),
          );
        },
      )

-- ---- what the recovered listing says of a store, member by member

module _ (candidates : List EntryView) where
  abbrev HasRecoveredStore : List Member → Type 0
  HasRecoveredStore ms =
      (under : Option Item) × (noted : Option (List ℕ)) × (revisions : List RevisionView) × (met : List Key)
      × IsRecoveredStore ms candidates under noted revisions met

  dec_has_key : (key : Key) → Dec (HasKey candidates key)
  dec_has_key key = dec_some (λ (e : EntryView). e.key ≡ key) (λ e. dec_key e.key key) candidates

  module _ (before : List Member) (path : Path) (item : Item) (after : ComesAfter before (path, item)) where
    abbrev Next : Type 0
    Next = HasRecoveredStore (before ++ (path, item) ∷ [])

    elsewhere : HasRecoveredStore before → (path ≡ store_path → ⊥) → ((key : Key) → path ≡ store_path ++ key ∷ [] → ⊥) → (path ≡ compaction_path → ⊥)
        → Next
    elsewhere (under, noted, revisions, met, s) no_bucket no_entry no_compaction =
        (under, noted, revisions, met, nothing_there before path item after candidates under noted revisions met s no_bucket no_entry no_compaction)

    at_store : HasRecoveredStore before → path ≡ store_path → Next
    at_store (under, noted, revisions, met, s) at =
        (Some item, noted, revisions, met, store_noted before path item after candidates under noted revisions met s at)

    at_compaction : HasRecoveredStore before → path ≡ compaction_path → (i : Item) → item ≡ i → Next
    at_compaction (under, noted, revisions, met, s) at (Value value) is =
        (under, Some value, revisions, met, compaction_noted before path item after candidates under noted revisions met s value is at)
    at_compaction (under, noted, revisions, met, s) at (Bucket sequence) is =
        (under, noted, revisions, met, bucket_there before path item after candidates under noted revisions met s sequence is at)

    at_entry : HasRecoveredStore before → (key : Key) → path ≡ store_path ++ key ∷ [] → Dec (HasKey candidates key) → Next
    at_entry (under, noted, revisions, met, s) key at (yes has) = (
      under,
      noted,
      revisions ++ option_to_list (revision_of (record { key = key; item = item })),
      met ++ key ∷ [],
      key_noted before path item after candidates under noted revisions met s key at _ (λ e some. refl) _ refl has,
    )
    at_entry (under, noted, revisions, met, s) key at (no never) = (
      under,
      noted,
      revisions ++ option_to_list (revision_of (record { key = key; item = item })),
      met,
      key_not_wanted before path item after candidates under noted revisions met s key at _ (λ e some. refl) never,
    )

  by_bucket : (before : List Member) (bucket : Key) (item : Item) → ComesAfter before (bucket ∷ [], item) → HasRecoveredStore before
      → Dec (bucket ≡ key_bucket) → HasRecoveredStore (before ++ (bucket ∷ [], item) ∷ [])
  by_bucket before bucket item after s (yes same) = at_store before (bucket ∷ []) item after s (ap (λ (k : Key). k ∷ []) same)
  by_bucket before bucket item after s (no never) = elsewhere before (bucket ∷ []) item after s (λ e. never cc) (λ key e. cc) (λ e. cc)

  by_entry : (before : List Member) (bucket key : Key) (item : Item) → ComesAfter before (bucket ∷ key ∷ [], item) → HasRecoveredStore before
      → Dec (bucket ≡ key_bucket)
      → Dec ((bucket ∷ key ∷ []) ≡ compaction_path) → HasRecoveredStore (before ++ (bucket ∷ key ∷ [], item) ∷ [])
  by_entry before bucket key item after s (yes same) compaction =
      at_entry before (bucket ∷ key ∷ []) item after s key (ap (λ (k : Key). k ∷ key ∷ []) same) (dec_has_key key)
  by_entry before bucket key item after s (no never) (yes at) = at_compaction before (bucket ∷ key ∷ []) item after s at item refl
  by_entry before bucket key item after s (no never) (no other) = elsewhere before (bucket ∷ key ∷ []) item after s (λ e. cc) (λ k e. never cc) other

  step : (before : List Member) (path : Path) (item : Item) → ComesAfter before (path, item) → HasRecoveredStore before
      → HasRecoveredStore (before ++ (path, item) ∷ [])
  step before [] item after s = elsewhere before [] item after s (λ e. cc) (λ key e. cc) (λ e. cc)
  step before (bucket ∷ []) item after s = by_bucket before bucket item after s (dec_key bucket key_bucket)
  step before (bucket ∷ key ∷ []) item after s =
      by_entry before bucket key item after s (dec_key bucket key_bucket) (dec_path (bucket ∷ key ∷ []) compaction_path)
  step before (bucket ∷ key ∷ more ∷ path) item after s = elsewhere before (bucket ∷ key ∷ more ∷ path) item after s (λ e. cc) (λ k e. cc) (λ e. cc)

  noted_on : (left before : List Member) → Rises member_cmp (before ++ left) → HasRecoveredStore before → HasRecoveredStore (before ++ left)
  noted_on [] before rises s = subst HasRecoveredStore (sym (append-nil before)) s
  noted_on (m ∷ left) before rises s =
      let (after, next) = next_member (before ++ m ∷ left) before (m ∷ left) left m.0 m.0 m.1 rises refl refl refl in
      subst HasRecoveredStore next (noted_on left (before ++ m ∷ []) (subst (Rises member_cmp) (sym next) rises) (step before m.0 m.1 after s))

  store_exists : (recovered : List Member) → Rises member_cmp recovered → HasRecoveredStore recovered
  store_exists recovered rises = noted_on recovered [] rises (None, None, [], [], no_members_noted candidates)

put_back_exists : (compacted : ℕ) (kept : List RevisionView) (agreed : List EntryView)
    → (back : List EntryView) × ArePutBack compacted kept agreed back
put_back_exists compacted kept agreed =
    let (newest, are) = newest_exists (old_revisions compacted kept agreed) in
    (filter (goes_back compacted newest) agreed, record { newest = newest; are = λ own. (are own).exact; is = refl })

lacks_or_has : (o : Option Item) → ((value : List ℕ) → o ≡ Some (Value value) → ⊥) → (lacks : Bool) × (lacks_bucket o ≡ Some lacks)
lacks_or_has None never = (true, refl)
lacks_or_has (Some (Bucket sequence)) never = (false, refl)
lacks_or_has (Some (Value value)) never = absurd (never value refl)

-- whether something is under `meta` can be decided
meta_made : (recovered : List Member) → (made : Bool) × MakesMeta recovered made
meta_made recovered = by (dec_some (λ (m : Member). m.0 ≡ meta_path) (λ m. dec_path m.0 meta_path) recovered)
  where
    by : Dec ((m : Member) × Contains recovered m × (m.0 ≡ meta_path)) → (made : Bool) × MakesMeta recovered made
    by (yes (m, has, at)) = (false, (m.1, subst (λ (p : Path). Contains recovered (p, m.1)) at has))
    by (no never) = (true, λ (item, has). never ((meta_path, item), has, refl))

-- ---- the repair

module _ (file : List ℕ) (meta : Meta) (search : Bool) (found : List ℕ) (are_found : AreSought file meta search found) (recovered : List Member)
    (recovers : IsRecovered file meta recovered)
    (lacks_value : LacksStoreValue recovered) where
  pub has_full_repair : (back : List EntryView) × (made : Made) × (left_out : ℕ) × IsFullRepair file meta search back made left_out
  has_full_repair =
      let (all, candidates) = candidates_exist (elements_on file meta found) in
      let (under, noted, revisions, met, store) = store_exists all (readable recovered) (readable_rises recovered recovers.rises) in
      let left = without met all in
      let (keys, are_keys) = keys_exist left in
      let (agreed, agree) = undisputed_exist left (λ e has.
      (kept_from is_candidate (map entry_view (elements_on file meta found)) e ((candidates.exact e).0 ((without_has met all e).0 has).0)).1) in
      let (back, put) = put_back_exists (compacted_by noted) revisions agreed in
      let (lacks, is_lacking) =
      lacks_or_has under (λ value e.
      lacks_value value (kept_from (λ (m : Member). is_readable m.0 m.1) recovered (store_path, Value value) ((store.bucket (Value value)).1 e)).0) in
      let (meta_is_made, makes) = meta_made recovered in
      let is : IsFound file meta search all agreed back met under meta_is_made =
      record {
        found = found;
        sought = are_found;
        candidates = candidates;
        recovered = recovered;
        recovers = recovers;
        noted = noted;
        revisions = revisions;
        store = store;
        agree = agree;
        put = put;
        makes_meta = makes;
      } in (
        back,
        record { store = lacks && not (is_nil back); meta = meta_is_made },
        length keys - length back,
        full_repair is lacks is_lacking _ refl keys are_keys _ refl,
      )

  pub has_repaired : (listing : List Member) × IsRepaired file meta search listing
  has_repaired =
      let (back, made, left_out, full) = has_full_repair in
      (repaired_listing full.repair.recovered made back, record { back = back; made = made; repair = full.repair; repaired = refl })

-- The repaired listing of a compacted store that lost revisions which are found is the listing before.
use Rattle.std.proofs.Common.{◌≡◌, ◌∙◌, ◌≤◌, inl, inr, ℕ, Bool, true, false, List, [], ◌∷◌, ◌++◌, Some, ap, arith, length, map, refl, subst}
use Rattle.std.proofs.Common.{sym}
use Rattle.std.specs.declared.cmp.Ordering.TheVariants.{Less}
use Rattle.std.proofs.lemmas.{Bool.cases_lt, Bool.true_from_ne_false, List.same_from_push}
use Rattle.std.specs.List.{Contains}
use Rattle.bolt_lemmas.proofs.Exports.{contains_head, contains_tail, filter_all, irreflexive, rises_once, shows_has}
use Rattle.bolt_lemmas.specs.Order.{Rises}
use Rattle.bolt_format.specs.{Elements.LeafElement, declared.meta.Meta.Meta}
use Rattle.bolt_check.specs.{Keys.Key, Keys.key_cmp, Ones.AtMostOne}
use Rattle.bolt_tree.specs.{Entries.Bucket, Entries.EntryView, Entries.Item, Entries.Value, Entries.entry_view, InBuckets.entry_in}
use Rattle.bolt_tree.specs.{InBuckets.members_in, Listing.Member, Listing.member_cmp, Merges.HasBucket, Merges.HaveParents, Merges.merge}
use Rattle.bolt_tree.specs.{Paths.Path, Tree.Tree, Tree.listing_of}
use Rattle.bolt_tree.proofs.Exports.{entry_of, tree_has_parents}
use Rattle.bolt_tree.proofs.Exports.{merge_members, merge_none, key_total, member_total}
use Rattle.bolt_recover.proofs.Exports.{one_recovered}
use Rattle.bolt_recover.specs.Found.{AreFound}
use Rattle.bolt_etcd.specs.{Check.Misplaced.is_misplaced, Wire.Revisions.RevisionView, Wire.Revisions.revision_of}
use Rattle.bolt_etcd.specs.Store.BucketNames.{key_bucket, meta_bucket}
use Rattle.bolt_repair.specs.LostRevisions.{IsCompactedStore, IsRecoveredOrFound, LosesRevisions}
use Rattle.bolt_repair.specs.{Readable.is_readable, Readable.readable, Repaired.IsRepaired, Repaired.MakesMeta, Repaired.MakesStore}
use Rattle.bolt_repair.specs.{Repaired.elements_on, Repairs.AreBack, Repairs.GoesBack, Repairs.HasMeta, Repairs.IsAgreed, Repairs.IsCandidate}
use Rattle.bolt_repair.specs.{Repairs.IsCompactedAt, Repairs.IsNewestUpTo, Repairs.compaction_path, Repairs.meta_path, Repairs.store_path}
use Rattle.bolt_repair.proofs.{ReadablePaths.bucket_at, ReadablePaths.readable_entry, ReadablePaths.revision_read, ReadablePaths.unreadable_in}
use Rattle.bolt_repair.proofs.{RepairedListings.parents_of, RepairedListings.with_back}
use Rattle.bolt_repair.proofs.OneRepair.{member_once, one_compacted}
use Rattle.bolt_repair.proofs.WholeOrder.{same_view}

-- ---- other paths

abbrev first_key : Path → Key
first_key [] = []
first_key (key ∷ path) = key

no_bucket : (e : EntryView) (item : Item) → entry_in store_path e ≡ (store_path, item) → ⊥
no_bucket e item is = let f : length (store_path ++ e.key ∷ []) ≡ 1 = ap (λ (m : Member). length m.0) is in omega (arith, f)

no_compaction : (e : EntryView) (item : Item) → entry_in store_path e ≡ (compaction_path, item) → ⊥
no_compaction e item is = let f : length key_bucket ≡ length meta_bucket = ap (λ (m : Member). length (first_key m.0)) is in omega (arith, f)

no_meta : (e : EntryView) (item : Item) → entry_in store_path e ≡ (meta_path, item) → ⊥
no_meta e item is = let f : length (store_path ++ e.key ∷ []) ≡ 1 = ap (λ (m : Member). length m.0) is in omega (arith, f)

-- a bucket is no revision
no_revision : (key : Key) (sequence : ℕ) (r : RevisionView) → revision_of (record { key = key; item = Bucket sequence }) ≡ Some r → ⊥
unfolding revision_of
no_revision key sequence r is = cc

-- ---- entries of the bucket

abbrev entry : Key → Item → EntryView
entry key item = record { key = key; item = item }

member_there : (is_made : Bool) (e : EntryView) (entries : List EntryView) → Contains entries e
    → Contains (members_in is_made store_path entries) (entry_in store_path e)
member_there false e entries has = shows_has (entry_in store_path) entries e has
member_there true e entries has =
    contains_tail (store_path, Bucket 0) (entry_in store_path e) (map (entry_in store_path) entries) (shows_has (entry_in store_path) entries e has)

module _ (listing recovered : List Member) (found : List LeafElement) (compacted : ℕ) (rises : Rises member_cmp listing)
    (loses : IsRecoveredOrFound listing recovered found) (store : IsCompactedStore compacted listing) where
  element_listed : (element : LeafElement) → Contains found element → Contains listing (entry_in store_path (entry_view element))
  element_listed element has = (loses.exact (entry_in store_path (entry_view element))).1 (inr (element, has, refl))

  -- ---- what is found goes back

  candidate_listed : (e : EntryView) (r : RevisionView) → IsCandidate recovered found e r → Contains listing (entry_in store_path e)
  candidate_listed e r is = subst (λ (v : EntryView). Contains listing (entry_in store_path v)) is.shows (element_listed is.element is.is_found)

  one_entry : (a b : EntryView) → Contains listing (entry_in store_path a) → Contains listing (entry_in store_path b) → a.key ≡ b.key → a ≡ b
  one_entry a b h k same =
      same_view a b same (member_once listing rises (store_path ++ b.key ∷ []) a.item b.item
      (subst (λ (key : Key). Contains listing (store_path ++ key ∷ [], a.item)) same h) k)

  module _ (element : LeafElement) (has : Contains found element) (r : RevisionView) (is : revision_of (entry_view element) ≡ Some r) where
    abbrev e : EntryView
    e = entry_view element

    lost : Contains recovered (entry_in store_path e) → ⊥
    lost there = loses.apart (entry_in store_path e) (element, has, refl) there

    is_agreed : is_misplaced r ≡ false → IsAgreed recovered found e r
    is_agreed in_place = record {
      candidate = record {
        element = element;
        is_found = has;
        shows = refl;
        is_revision = is;
        in_place = in_place;
        is_lost = λ item there.
            let other : EntryView = record { key = e.key; item = item } in
            let same = one_entry other e ((loses.exact (entry_in store_path other)).1 (inl there)) (element_listed element has) refl in
            lost (subst (λ (v : EntryView). Contains recovered (entry_in store_path v)) same there);
      };
      undisputed = λ other s candidate key. one_entry other e (candidate_listed other s candidate) (element_listed element has) key;
    }

    abbrev Newest : Type 0
    Newest = IsNewestUpTo compacted recovered found r

    newest : r.key.main ≤ compacted → Newest
    newest until = record {
      there = store.alive e r (element_listed element has, is) until;
      until = until;
      kept = λ s kept names low.
          let (other, there, shows) = kept in
          let same = store.one other e s r ((loses.exact (entry_in store_path other)).1 (inl there), shows) (element_listed element has, is) names low until in
          absurd (lost (subst (λ (v : EntryView). Contains recovered (entry_in store_path v)) same there));
      agreed = λ other s agreed names low before.
          let same =
          store.one other e s r (candidate_listed other s agreed.candidate, agreed.candidate.is_revision) (element_listed element has, is) names low until in
          let revisions : s ≡ r = (let f = sym agreed.candidate.is_revision ∙ ap revision_of same ∙ is in cc) in
          irreflexive key_total r.stored_key (subst (λ (v : RevisionView). key_cmp r.stored_key v.stored_key ≡ Less) revisions before);
    }

  goes_back : (element : LeafElement) → Contains found element → GoesBack compacted recovered found (entry_view element)
  goes_back element has =
      let (r, is, in_place) = store.revisions (entry_view element) (element_listed element has) in
      (r, is_agreed element has r is in_place, elim (cases_lt compacted r.key.main) [ inl above ↦ inl above | inr low ↦ inr (newest element has r is low) ])

  -- ---- the bucket is there

  bucket_listed : (tree : Tree) × (listing ≡ listing_of tree) → (e : EntryView) → Contains listing (entry_in store_path e)
      → (sequence : ℕ) × Contains listing (store_path, Bucket sequence)
  bucket_listed (tree, same) e has =
      let places = subst (λ (ms : List Member). HaveParents ms ms) (sym same) (tree_has_parents tree) in
      let (above, key, at, bucket) = places (entry_in store_path e) has in
      let up = sym (same_from_push store_path above e.key key at).0 in
      elim (subst (λ (p : Path). HasBucket listing p) up bucket) [ inl none ↦ absurd (let f : store_path ≡ [] = none in cc) | inr there ↦ there ]

  not_made : (tree : Tree) × (listing ≡ listing_of tree) → (back : List EntryView) → AreBack compacted recovered found back
      → MakesStore recovered back true → ⊥
  not_made of [] are makes = makes
  not_made of (e ∷ back) are makes =
      let (r, agreed, why) = (are.exact e).0 (contains_head e back) in
      let (sequence, there) = bucket_listed of e (candidate_listed e r agreed.candidate) in
      elim ((loses.exact (store_path, Bucket sequence)).0 there) [
        | inl old ↦ makes (Bucket sequence) old
        | inr (element, has, is) ↦ no_bucket (entry_view element) (Bucket sequence) is
      ]

  -- ---- the same members

  entry_listed : (back : List EntryView) → AreBack compacted recovered found back → (m : Member) → Contains (map (entry_in store_path) back) m
      → Contains listing m
  entry_listed back are m has =
      let (e, there, same) = entry_of store_path back m has in
      let (r, agreed, why) = (are.exact e).0 there in
      subst (Contains listing) same (candidate_listed e r agreed.candidate)

  back_listed : (tree : Tree) × (listing ≡ listing_of tree) → (back : List EntryView) → AreBack compacted recovered found back → (is_made : Bool)
      → MakesStore recovered back is_made → (m : Member)
      → Contains (members_in is_made store_path back) m → Contains listing m
  back_listed of back are true makes m has = absurd (not_made of back are makes)
  back_listed of back are false makes m has = entry_listed back are m has

  repaired_listed : (tree : Tree) × (listing ≡ listing_of tree) → (back : List EntryView) → AreBack compacted recovered found back → (is_made : Bool)
      → MakesStore recovered back is_made → (m : Member)
      → Contains (with_back recovered is_made back) m → Contains listing m
  repaired_listed of back are is_made makes m has = elim ((merge_members recovered (members_in is_made store_path back) m).0 has) [
    | inl old ↦ (loses.exact m).1 (inl old)
    | inr new ↦ back_listed of back are is_made makes m new
  ]

  listed_repaired : (back : List EntryView) → AreBack compacted recovered found back → (is_made : Bool) → (m : Member) → Contains listing m
      → Contains (with_back recovered is_made back) m
  listed_repaired back are is_made m has =
      let more = members_in is_made store_path back in
      elim ((loses.exact m).0 has) [
        | inl old ↦ (merge_members recovered more m).1 (inl old)
        | inr (element, there, is) ↦ (merge_members recovered more m).1
            (inr (subst (Contains more) is (member_there is_made (entry_view element) back ((are.exact (entry_view element)).1 (goes_back element there)))))
      ]

  pub is_repaired : (tree : Tree) × (listing ≡ listing_of tree) → (back : List EntryView) → AreBack compacted recovered found back → (is_made : Bool)
      → MakesStore recovered back is_made
      → Rises member_cmp (with_back recovered is_made back) → with_back recovered is_made back ≡ listing
  is_repaired of back are is_made makes order =
      rises_once member_total (with_back recovered is_made back) listing order rises (repaired_listed of back are is_made makes)
      (listed_repaired back are is_made)

  -- ---- the compaction

  compaction_listed : (n : ℕ) → IsCompactedAt recovered n → IsCompactedAt listing n
  compaction_listed n (inl (value, has, is)) = inl (value, (loses.exact (compaction_path, Value value)).1 (inl has), is)
  compaction_listed n (inr (none, zero)) = inr (
    λ value has.
        elim ((loses.exact (compaction_path, Value value)).0 has) [
          | inl old ↦ none value old
          | inr (element, there, same) ↦ no_compaction (entry_view element) (Value value) same
        ],
    zero,
  )

  pub same_compacted : (n : ℕ) → IsCompactedAt recovered n → IsCompactedAt listing compacted → n ≡ compacted
  same_compacted n is was = one_compacted listing rises n compacted (compaction_listed n is) was

  -- ---- all that is recovered can be read, and something is under `meta`

  recovered_readable : HaveParents listing listing → (m : Member) → Contains recovered m → is_readable m.0 m.1 ≡ true
  recovered_readable parents m has = true_from_ne_false (is_readable m.0 m.1) (λ unread.
      let there = (loses.exact m).1 (inl has) in
      let (key, rest, at) = unreadable_in m.0 m.1 unread in
      by key rest at there unread)
    where
      revision_there : (key : Key) (item : Item) → Contains listing (store_path ++ key ∷ [], item) → is_readable (store_path ++ key ∷ []) item ≡ true
      revision_there key item there =
          let e = entry key item in
          let (r, is, in_place) = store.revisions e there in
          (readable_entry e (revision_read e r is)).0

      by : (key : Key) (rest : Path) → m.0 ≡ key_bucket ∷ key ∷ rest → Contains listing m → is_readable m.0 m.1 ≡ false → ⊥
      by key [] at there unread =
          let right = revision_there key m.1 (subst (λ (p : Path). Contains listing (p, m.1)) at there) in
          let wrong = sym (ap (λ (p : Path). is_readable p m.1) at) ∙ unread in cc
      by key (next ∷ rest) at there unread =
          let (sequence, bucket) = bucket_at listing parents m.0 m.1 there (store_path ++ key ∷ []) next rest at (λ e. cc) in
          let (r, is, in_place) = store.revisions (entry key (Bucket sequence)) bucket in
          no_revision key sequence r is

  pub all_read : HaveParents listing listing → readable recovered ≡ recovered
  all_read parents = filter_all (λ (m : Member). is_readable m.0 m.1) recovered (recovered_readable parents)

  pub meta_recovered : HasMeta listing → HasMeta recovered
  meta_recovered (item, has) = elim ((loses.exact (meta_path, item)).0 has) [
    | inl old ↦ (item, old)
    | inr (element, there, same) ↦ absurd (no_meta (entry_view element) item same)
  ]

module _ (file : List ℕ) (meta : Meta) (listing repaired : List Member) (l : LosesRevisions file meta listing) (is : IsRepaired file meta false repaired)
    (found_one : AtMostOne (AreFound file meta)) (of : (tree : Tree) × (listing ≡ listing_of tree)) (order : Rises member_cmp repaired) where
  abbrev on : List ℕ → List LeafElement
  on = elements_on file meta

  loses : IsRecoveredOrFound listing is.repair.recovered (on is.repair.found)
  loses =
      subst (λ (ns : List ℕ). IsRecoveredOrFound listing is.repair.recovered (on ns)) (found_one l.found is.repair.found l.are_found is.repair.are_found)
      (subst (λ (ms : List Member). IsRecoveredOrFound listing ms (on l.found))
      (one_recovered file meta l.recovered is.repair.recovered l.recovers is.repair.recovers) l.loses)

  read : readable is.repair.recovered ≡ is.repair.recovered
  read = all_read listing is.repair.recovered (on is.repair.found) l.compacted l.listed.rises loses l.store (parents_of listing of)

  -- the bucket `meta` isn't made
  none_made : (made : Bool) → MakesMeta is.repair.recovered made → members_in made meta_path [] ≡ []
  none_made true lacks = absurd (lacks (meta_recovered listing is.repair.recovered (on is.repair.found) l.compacted l.listed.rises loses l.store l.has_meta))
  none_made false has = refl

  pub comes_back : repaired ≡ listing
  comes_back =
      let r = is.repair in
      let at =
      same_compacted listing r.recovered (on r.found) l.compacted l.listed.rises loses l.store r.compacted
      (subst (λ (ms : List Member). IsCompactedAt ms r.compacted) read r.is_compacted) l.is_compacted in
      let are =
      subst (λ (n : ℕ). AreBack n r.recovered (on r.found) is.back) at
      (subst (λ (ms : List Member). AreBack r.compacted ms (on r.found) is.back) read r.are_back) in
      let makes = subst (λ (ms : List Member). MakesStore ms is.back is.made.store) read r.makes in
      let same : repaired ≡ with_back r.recovered is.made.store is.back =
      is.repaired ∙ ap (merge (with_back (readable r.recovered) is.made.store is.back)) (none_made is.made.meta r.makes_meta)
      ∙ merge_none (with_back (readable r.recovered) is.made.store is.back)
      ∙ ap (λ (ms : List Member). with_back ms is.made.store is.back) read in
      same ∙ is_repaired listing r.recovered (on r.found) l.compacted l.listed.rises loses l.store of is.back are is.made.store makes
      (subst (Rises member_cmp) same order)

-- What a repair keeps, what goes back of a name, and that sound trees are left as they are.
use Rattle.std.proofs.Common.{◌≡◌, ◌≢◌, ◌∙◌, ◌⊎◌, ◌≤◌, inl, inr, ℕ, Bool, true, false, List, [], ◌∷◌, ap, arith, map, refl, subst, sym}
use Rattle.std.specs.{List.Contains, declared.cmp.Ordering.Ordering, declared.cmp.Ordering.TheVariants.Equal, declared.cmp.Ordering.TheVariants.Less}
use Rattle.std.specs.Ordering.{ordering_reverse}
use Rattle.bolt_lemmas.proofs.Exports.{contains_cases, contains_head, contains_none, filter_all, kept as keeps_one, kept_from}
use Rattle.bolt_format.specs.{Elements.LeafElement, declared.meta.Meta.Meta}
use Rattle.bolt_check.specs.Keys.{key_cmp}
use Rattle.bolt_tree.specs.{Entries.Bucket, Entries.EntryView, InBuckets.entry_in, InBuckets.members_in, Listing.Member, Merges.merge}
use Rattle.bolt_tree.proofs.Exports.{entry_of, merge_members}
use Rattle.bolt_tree.proofs.Exports.{merge_none, key_exact, key_total}
use Rattle.bolt_recover.proofs.Exports.{one_recovered}
use Rattle.bolt_recover.specs.Recovered.{IsRecovered}
use Rattle.bolt_etcd.proofs.Exports.{stored_key_is}
use Rattle.bolt_etcd.specs.Wire.Revisions.{RevisionView, name_of}
use Rattle.bolt_repair.specs.Readable.{is_readable, readable}
use Rattle.bolt_repair.specs.Repaired.{IsRepair, IsRepaired, Made, MakesMeta, MakesStore, elements_on, repaired_listing}
use Rattle.bolt_repair.specs.Repairs.{AreBack, GoesBack, HasMeta, IsAgreed, IsNewestUpTo, meta_path, store_path}
use Rattle.bolt_repair.proofs.{ReadablePaths.readable_entry, ReadablePaths.revision_read, RepairedListings.with_back}

-- ---- nothing is found

none_back : (compacted : ℕ) (recovered : List Member) (back : List EntryView) → AreBack compacted recovered [] back → back ≡ []
none_back compacted recovered [] are = refl
none_back compacted recovered (e ∷ back) are =
    let (r, agreed, why) = (are.exact e).0 (contains_head e back) in absurd (contains_none agreed.candidate.element agreed.candidate.is_found)

none_made : (kept : List Member) (is_made : Bool) → MakesStore kept [] is_made → with_back kept is_made [] ≡ kept
none_made kept true makes = absurd makes
none_made kept false makes = merge_none kept

-- then what is read is left, with the bucket `meta`
pub none_repaired : (file : List ℕ) (meta : Meta) (search : Bool) (back : List EntryView) (made : Made) (is : IsRepair file meta search back made)
    → is.found ≡ []
    → repaired_listing is.recovered made back ≡ merge (readable is.recovered) (members_in made.meta meta_path [])
none_repaired file meta search back made is none =
    let nothing =
    none_back is.compacted (readable is.recovered) back
    (subst (λ (ns : List ℕ). AreBack is.compacted (readable is.recovered) (elements_on file meta ns) back) none is.are_back) in
    ap (repaired_listing is.recovered made) nothing
    ∙ ap (λ (ms : List Member). merge ms (members_in made.meta meta_path []))
    (none_made (readable is.recovered) made.store (subst (λ (es : List EntryView). MakesStore (readable is.recovered) es made.store) nothing is.makes))

-- ---- the members

abbrev pub IsMadeMeta : Member → Type 0
IsMadeMeta m = m ≡ (meta_path, Bucket 0)

module _ (file : List ℕ) (meta : Meta) (search : Bool) (listing recovered : List Member) (m : Member) (is : IsRepaired file meta search listing)
    (recovers : IsRecovered file meta recovered) where
  abbrev more : List Member
  more = members_in is.made.store store_path is.back

  abbrev last : List Member
  last = members_in is.made.meta meta_path []

  abbrev before : List Member
  before = with_back (readable is.repair.recovered) is.made.store is.back

  same : recovered ≡ is.repair.recovered
  same = one_recovered file meta recovered is.repair.recovered recovers is.repair.recovers

  pub kept : Contains recovered m → is_readable m.0 m.1 ≡ true → Contains listing m
  kept has passes =
      let read = keeps_one (λ (x : Member). is_readable x.0 x.1) is.repair.recovered m (subst (λ (ms : List Member). Contains ms m) same has) passes in
      let there = (merge_members (readable is.repair.recovered) more m).1 (inl read) in
      subst (λ (ms : List Member). Contains ms m) (sym is.repaired) ((merge_members before last m).1 (inl there))

  entry_back : Contains (map (entry_in store_path) is.back) m → (e : EntryView) × Contains is.back e × (m ≡ entry_in store_path e)
  entry_back has = let (e, there, at) = entry_of store_path is.back m has in (e, there, sym at)

  more_back : (is_made : Bool) → Contains (members_in is_made store_path is.back) m
      → (m ≡ (store_path, Bucket 0)) ⊎ ((e : EntryView) × Contains is.back e × (m ≡ entry_in store_path e))
  more_back false has = inr (entry_back has)
  more_back true has =
      elim (contains_cases (store_path, Bucket 0) m (map (entry_in store_path) is.back) has) [ inl here ↦ inl (sym here) | inr later ↦ inr (entry_back later) ]

  meta_made : (is_made : Bool) → Contains (members_in is_made meta_path []) m → IsMadeMeta m
  meta_made false has = absurd (contains_none m has)
  meta_made true has = elim (contains_cases (meta_path, Bucket 0) m [] has) [ inl here ↦ sym here | inr none ↦ absurd (contains_none m none) ]

  kept_before : Contains before m
      → (Contains recovered m × (is_readable m.0 m.1 ≡ true))
      ⊎ (((m ≡ (store_path, Bucket 0)) ⊎ ((e : EntryView) × Contains is.back e × (m ≡ entry_in store_path e))) ⊎ IsMadeMeta m)
  kept_before has = elim ((merge_members (readable is.repair.recovered) more m).0 has) [
    | inl old ↦
        let (there, passes) = kept_from (λ (x : Member). is_readable x.0 x.1) is.repair.recovered m old in
        inl (subst (λ (ms : List Member). Contains ms m) (sym same) there, passes)
    | inr new ↦ inr (inl (more_back is.made.store new))
  ]

  pub kept_or_back : Contains listing m
      → (Contains recovered m × (is_readable m.0 m.1 ≡ true))
      ⊎ (((m ≡ (store_path, Bucket 0)) ⊎ ((e : EntryView) × Contains is.back e × (m ≡ entry_in store_path e))) ⊎ IsMadeMeta m)
  kept_or_back has = elim ((merge_members before last m).0 (subst (λ (ms : List Member). Contains ms m) is.repaired has)) [
    | inl old ↦ kept_before old
    | inr new ↦ inr (inr (meta_made is.made.meta new))
  ]

-- ---- a repaired listing again

-- each member of it can be read
all_readable : (file : List ℕ) (meta : Meta) (search : Bool) (listing : List Member) → IsRepaired file meta search listing → (m : Member)
    → Contains listing m → is_readable m.0 m.1 ≡ true
all_readable file meta search listing is m has = elim (kept_or_back file meta search listing is.repair.recovered m is is.repair.recovers has) [
  | inl (there, passes) ↦ passes
  | inr (inl (inl made)) ↦ ap (λ (x : Member). is_readable x.0 x.1) made
  | inr (inl (inr (e, back, same))) ↦
      let (r, agreed, why) = (is.repair.are_back.exact e).0 back in
      ap (λ (x : Member). is_readable x.0 x.1) same ∙ (readable_entry e (revision_read e r agreed.candidate.is_revision)).0
  | inr (inr made) ↦ ap (λ (x : Member). is_readable x.0 x.1) made
]

-- it has something under `meta`
has_meta : (file : List ℕ) (meta : Meta) (search : Bool) (listing : List Member) → IsRepaired file meta search listing → HasMeta listing
has_meta file meta search listing is = by is.made.meta refl is.repair.makes_meta
  where
    by : (b : Bool) → is.made.meta ≡ b → MakesMeta is.repair.recovered b → HasMeta listing
    by true made lacks = (
      Bucket 0,
      subst (λ (ms : List Member). Contains ms (meta_path, Bucket 0)) (sym is.repaired)
          ((merge_members (with_back (readable is.repair.recovered) is.made.store is.back) (members_in is.made.meta meta_path []) (meta_path, Bucket 0)).1
          (inr (subst (λ (b : Bool). Contains (members_in b meta_path []) (meta_path, Bucket 0)) (sym made) (contains_head (meta_path, Bucket 0) [])))),
    )
    by false made (item, has) = (item, kept file meta search listing is.repair.recovered (meta_path, item) is is.repair.recovers has refl)

pub stays : (file : List ℕ) (meta : Meta) (search : Bool) (listing again : List Member) → IsRepaired file meta search listing → (is_made : Bool)
    → MakesMeta listing is_made
    → again ≡ merge (readable listing) (members_in is_made meta_path []) → again ≡ listing
stays file meta search listing again is true makes at = absurd (makes (has_meta file meta search listing is))
stays file meta search listing again is false makes at =
    at ∙ merge_none (readable listing) ∙ filter_all (λ (m : Member). is_readable m.0 m.1) listing (all_readable file meta search listing is)

-- ---- of one name

neither : (o p : Ordering) → p ≡ ordering_reverse o → o ≢ Less → p ≢ Less → o ≡ Equal
neither o p back first second = grind arith

module _ (compacted : ℕ) (recovered : List Member) (found : List LeafElement) where
  abbrev Newest : RevisionView → Type 0
  Newest r = IsNewestUpTo compacted recovered found r

  one_newest : (a b : EntryView) (r s : RevisionView) → IsAgreed recovered found a r → IsAgreed recovered found b s → Newest r → Newest s
      → name_of r ≡ name_of s → a ≡ b
  one_newest a b r s agreed_a agreed_b newest_r newest_s names =
      let first = newest_r.agreed b s agreed_b (sym names) newest_s.until in
      let second = newest_s.agreed a r agreed_a names newest_r.until in
      let stored_keys =
      key_exact r.stored_key s.stored_key
      (neither (key_cmp r.stored_key s.stored_key) (key_cmp s.stored_key r.stored_key) (key_total.antisymm s.stored_key r.stored_key) first second) in
      let keys = sym (stored_key_is a r agreed_a.candidate.is_revision) ∙ stored_keys ∙ stored_key_is b s agreed_b.candidate.is_revision in
      sym (agreed_a.undisputed b s agreed_b.candidate (sym keys))

  pub one_of_a_name : (a b : EntryView) → (x : GoesBack compacted recovered found a) → (y : GoesBack compacted recovered found b)
      → name_of x.0 ≡ name_of y.0 → x.0.key.main ≤ compacted
      → y.0.key.main ≤ compacted → a ≡ b
  one_of_a_name a b (r, agreed, inl above) y names low_a low_b = absurd (omega (arith, above, low_a))
  one_of_a_name a b (r, agreed, inr newest) (s, other, inl above) names low_a low_b = absurd (omega (arith, above, low_b))
  one_of_a_name a b (r, agreed, inr newest) (s, other, inr latest) names low_a low_b = one_newest a b r s agreed other newest latest names

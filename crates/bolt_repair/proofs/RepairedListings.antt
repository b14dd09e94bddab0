-- A repaired listing is in the order of paths, and is what a tree lists.
use Rattle.std.proofs.Common.{◌≡◌, ◌∙◌, inl, inr, ℕ, Bool, true, false, List, [], ◌∷◌, ◌++◌, ap, map, refl, subst, sym}
use Rattle.std.specs.List.{Contains}
use Rattle.bolt_lemmas.proofs.Exports.{contains_cases, contains_head, contains_none, kept, kept_from}
use Rattle.bolt_lemmas.specs.Order.{Rises}
use Rattle.bolt_format.specs.{Elements.LeafElement, declared.meta.Meta.Meta}
use Rattle.bolt_check.specs.Keys.{Key}
use Rattle.bolt_tree.specs.{Entries.Bucket, Entries.EntryView, Entries.Item, InBuckets.entry_in, InBuckets.members_in, Listing.Member}
use Rattle.bolt_tree.specs.{Listing.member_cmp, Merges.AreApart, Merges.HasParent, Merges.HaveParents, Merges.merge, Paths.Path}
use Rattle.bolt_tree.specs.{Tree.Tree, Tree.listing_of, Tree.tree_of}
use Rattle.bolt_tree.proofs.Exports.{entry_of, members_have_parents, members_rise, tree_has_parents}
use Rattle.bolt_tree.proofs.Exports.{merge_bucket, merge_members, merge_parents, merge_rises, path_exact, parented_tree}
use Rattle.bolt_repair.specs.{Readable.is_readable, Readable.readable, Repaired.IsRepair, Repaired.IsRepaired, Repaired.Made, Repaired.MakesMeta}
use Rattle.bolt_repair.specs.{Repaired.MakesStore, Repaired.elements_on, Repaired.repaired_listing, Repairs.AreBack, Repairs.meta_path}
use Rattle.bolt_repair.specs.{Repairs.store_path}
use Rattle.bolt_etcd.specs.Store.BucketNames.{key_bucket, meta_bucket}
use Rattle.bolt_repair.proofs.{OneRepair.readable_rises, ReadablePaths.entry_no_meta, ReadablePaths.store_no_meta, ReadablePaths.unreadable_above}

-- what is read, with what goes back in its bucket
abbrev pub with_back : List Member → Bool → List EntryView → List Member
with_back kept is_made back = merge kept (members_in is_made store_path back)

-- ---- the order

module _ (recovered : List Member) (found : List LeafElement) (compacted : ℕ) (back : List EntryView) (are : AreBack compacted recovered found back) where
  lost_entry : (e : EntryView) (item : Item) → Contains back e → Contains recovered (store_path ++ e.key ∷ [], item) → ⊥
  lost_entry e item is has = let (r, agreed, why) = (are.exact e).0 is in agreed.candidate.is_lost item has

  no_entry : (x y : Member) → Contains recovered x → (e : EntryView) × Contains back e × (entry_in store_path e ≡ y) → x.0 ≡ y.0 → ⊥
  no_entry x y has (e, is, same) at = lost_entry e x.1 is (subst (λ (p : Path). Contains recovered (p, x.1)) (at ∙ sym (ap (λ (m : Member). m.0) same)) has)

  no_store : (x : Member) → Contains recovered x → (entries : List EntryView) → MakesStore recovered entries true → x.0 ≡ store_path → ⊥
  no_store x has [] makes at = makes
  no_store x has (e ∷ entries) makes at = makes x.1 (subst (λ (p : Path). Contains recovered (p, x.1)) at has)

  apart : (is_made : Bool) → MakesStore recovered back is_made → AreApart recovered (members_in is_made store_path back)
  apart false makes x y has in_back tied = no_entry x y has (entry_of store_path back y in_back) (path_exact x.0 y.0 tied)
  apart true makes x y has in_back tied = elim (contains_cases (store_path, Bucket 0) y (map (entry_in store_path) back) in_back) [
    | inl same ↦ no_store x has back makes (path_exact x.0 y.0 tied ∙ sym (ap (λ (m : Member). m.0) same))
    | inr later ↦ no_entry x y has (entry_of store_path back y later) (path_exact x.0 y.0 tied)
  ]

  pub back_rises : (is_made : Bool) → MakesStore recovered back is_made → Rises member_cmp recovered
      → Rises member_cmp (with_back recovered is_made back)
  back_rises is_made makes rises =
      merge_rises recovered (members_in is_made store_path back) rises (members_rise is_made store_path back are.rises) (apart is_made makes)

-- ---- the places

module _ (recovered : List Member) where
  parents_back : (back : List EntryView) (is_made : Bool) → MakesStore recovered back is_made
      → HaveParents (with_back recovered is_made back) (members_in is_made store_path back)
  parents_back [] true makes = absurd makes
  parents_back [] false makes = λ m has. absurd (contains_none m has)
  parents_back (e ∷ back) true makes =
      let more = members_in true store_path (e ∷ back) in
      members_have_parents (merge recovered more) true store_path (e ∷ back)
      (inr (0, (merge_members recovered more (store_path, Bucket 0)).1 (inr (contains_head (store_path, Bucket 0) (map (entry_in store_path) (e ∷ back))))))
      (λ made. ([], key_bucket, refl, inl refl))
  parents_back (e ∷ back) false (sequence, has) =
      let more = members_in false store_path (e ∷ back) in
      members_have_parents (merge recovered more) false store_path (e ∷ back) (merge_bucket recovered more store_path (inr (sequence, has)))
      (λ made. absurd (cc))

  back_parents : (back : List EntryView) (is_made : Bool) → MakesStore recovered back is_made → HaveParents recovered recovered
      → HaveParents (with_back recovered is_made back) (with_back recovered is_made back)
  back_parents back is_made makes placed = merge_parents recovered (members_in is_made store_path back) placed (parents_back back is_made makes)

-- what etcd can read has its parents
pub readable_parents : (recovered : List Member) → HaveParents recovered recovered → HaveParents (readable recovered) (readable recovered)
readable_parents recovered placed m has =
    let (there, is) = kept_from (λ (x : Member). is_readable x.0 x.1) recovered m has in
    let (above, key, at, bucket) = placed m there in (
      above,
      key,
      at,
      elim bucket [
        | inl none ↦ inl none
        | inr (sequence, parent) ↦ inr (sequence, read above key at sequence parent is (is_readable above (Bucket sequence)) refl)
      ],
    )
  where
    read : (above : Path) (key : Key) → m.0 ≡ above ++ key ∷ [] → (sequence : ℕ) → Contains recovered (above, Bucket sequence)
        → is_readable m.0 m.1 ≡ true → (b : Bool) → is_readable above (Bucket sequence) ≡ b
        → Contains (readable recovered) (above, Bucket sequence)
    read above key at sequence parent is true same = kept (λ (x : Member). is_readable x.0 x.1) recovered (above, Bucket sequence) parent same
    read above key at sequence parent is false same =
        let wrong = unreadable_above above key (Bucket sequence) m.1 same in
        let right : is_readable (above ++ key ∷ []) m.1 ≡ true = sym (ap (λ (p : Path). is_readable p m.1) at) ∙ is in
        absurd (cc)

-- ---- the bucket `meta`

module _ (recovered : List Member) (back : List EntryView) (store meta : Bool) (makes : MakesMeta recovered meta) where
  abbrev before : List Member
  before = with_back (readable recovered) store back

  no_meta : (x : Member) → Contains (members_in store store_path back) x → x.0 ≡ meta_path → ⊥
  no_meta = by store
    where
      by : (made : Bool) (x : Member) → Contains (members_in made store_path back) x → x.0 ≡ meta_path → ⊥
      by false x has at = let (e, there, same) = entry_of store_path back x has in entry_no_meta x.0 e.key (sym (ap (λ (m : Member). m.0) same)) at
      by true x has at = elim (contains_cases (store_path, Bucket 0) x (map (entry_in store_path) back) has) [
        | inl same ↦ store_no_meta x.0 (sym (ap (λ (m : Member). m.0) same)) at
        | inr later ↦ let (e, there, same) = entry_of store_path back x later in entry_no_meta x.0 e.key (sym (ap (λ (m : Member). m.0) same)) at
      ]

  none_at : MakesMeta recovered true → (x : Member) → Contains before x → x.0 ≡ meta_path → ⊥
  none_at lacks x has at = elim ((merge_members (readable recovered) (members_in store store_path back) x).0 has) [
    | inl old ↦ lacks (x.1, subst (λ (p : Path). Contains recovered (p, x.1)) at (kept_from (λ (m : Member). is_readable m.0 m.1) recovered x old).0)
    | inr new ↦ no_meta x new at
  ]

  meta_apart : (made : Bool) → MakesMeta recovered made → AreApart before (members_in made meta_path [])
  meta_apart false makes x y has none tied = absurd (contains_none y none)
  meta_apart true lacks x y has one tied = elim (contains_cases (meta_path, Bucket 0) y [] one) [
    | inl same ↦ none_at lacks x has (path_exact x.0 y.0 tied ∙ sym (ap (λ (m : Member). m.0) same))
    | inr none ↦ absurd (contains_none y none)
  ]

  pub meta_rises : Rises member_cmp before → Rises member_cmp (repaired_listing recovered (record { store = store; meta = meta }) back)
  meta_rises rises = merge_rises before (members_in meta meta_path []) rises (members_rise meta meta_path [] tt) (meta_apart meta makes)

  meta_placed : (made : Bool) → HaveParents (merge before (members_in made meta_path [])) (members_in made meta_path [])
  meta_placed false m has = absurd (contains_none m has)
  meta_placed true m has = elim (contains_cases (meta_path, Bucket 0) m [] has) [
    | inl same ↦ subst (λ (x : Member). HasParent (merge before (members_in true meta_path [])) x.0) same ([], meta_bucket, refl, inl refl)
    | inr none ↦ absurd (contains_none m none)
  ]

  pub meta_parents : HaveParents before before
      → HaveParents (repaired_listing recovered (record { store = store; meta = meta }) back)
      (repaired_listing recovered (record { store = store; meta = meta }) back)
  meta_parents placed = merge_parents before (members_in meta meta_path []) placed (meta_placed meta)

-- ---- the repaired listing

module _ (file : List ℕ) (meta : Meta) (search : Bool) (back : List EntryView) (made : Made) (is : IsRepair file meta search back made) where
  pub repaired_rises : Rises member_cmp (repaired_listing is.recovered made back)
  repaired_rises =
      meta_rises is.recovered back made.store made.meta is.makes_meta
      (back_rises (readable is.recovered) (elements_on file meta is.found) is.compacted back is.are_back made.store is.makes
      (readable_rises is.recovered is.recovers.rises))

  pub repaired_parents : HaveParents is.recovered is.recovered
      → HaveParents (repaired_listing is.recovered made back) (repaired_listing is.recovered made back)
  repaired_parents placed =
      meta_parents is.recovered back made.store made.meta is.makes_meta
      (back_parents (readable is.recovered) back made.store is.makes (readable_parents is.recovered placed))

pub parents_of : (listing : List Member) → (tree : Tree) × (listing ≡ listing_of tree) → HaveParents listing listing
parents_of listing (tree, same) = subst (λ (ms : List Member). HaveParents ms ms) (sym same) (tree_has_parents tree)

pub tree_of_repaired : (file : List ℕ) (meta : Meta) (search : Bool) (listing : List Member) (is : IsRepaired file meta search listing)
    → (tree : Tree) × (is.repair.recovered ≡ listing_of tree)
    → Rises member_cmp listing × ((tree : Tree) × (listing ≡ listing_of tree))
tree_of_repaired file meta search listing is of =
    let repair = is.repair in
    let rises = repaired_rises file meta search is.back is.made repair in
    let parents = repaired_parents file meta search is.back is.made repair (parents_of repair.recovered of) in
    let whole = repaired_listing repair.recovered is.made is.back in (
      subst (Rises member_cmp) (sym is.repaired) rises,
      (tree_of whole, is.repaired ∙ sym (parented_tree whole rises parents)),
    )

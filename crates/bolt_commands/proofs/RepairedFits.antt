-- The format can hold what a repaired listing has.
use Rattle.std.proofs.Common.{inl, inr, ℕ, Bool, true, false, List, [], ◌∷◌, arith, map, subst}
use Rattle.std.specs.List.{Contains}
use Rattle.std.proofs.lemmas.List.Elements.{Contains-append_cases}
use Rattle.bolt_lemmas.proofs.Exports.{contains_cases, contains_none, kept_from}
use Rattle.bolt_format.specs.{Bytes.IsBytes, Elements.LeafElement, declared.meta.Meta.Meta, Pages.page_at}
use Rattle.bolt_tree.specs.{Entries.Bucket, Entries.EntryView, Entries.Item, InBuckets.entry_in, InBuckets.members_in, Listing.Member, Merges.merge}
use Rattle.bolt_tree.specs.{Paths.Path}
use Rattle.bolt_tree.proofs.Exports.{entry_of, merge_members}
use Rattle.bolt_layout.specs.Storable.{IsFitMember}
use Rattle.bolt_layout.proofs.Exports.{good_fits, good_shown}
use Rattle.bolt_recover.proofs.Exports.{shows_entry}
use Rattle.bolt_recover.specs.Sites.{leaves_of}
use Rattle.bolt_repair.specs.{Readable.is_readable, Readable.readable, Repaired.IsRepair, Repaired.Made, Repaired.elements_on}
use Rattle.bolt_repair.specs.{Repaired.repaired_listing, Repairs.meta_path, Repairs.store_path}
use Rattle.bolt_etcd.specs.Store.BucketNames.{key_bucket, meta_bucket}
use Rattle.bolt_commands.proofs.JoinedFits.{bucket_fits, recovered_fits}

abbrev Fits : Member → Type 0
Fits m = IsFitMember m.0 m.1

element_on : (file : List ℕ) (meta : Meta) (found : List ℕ) (e : LeafElement) → Contains (elements_on file meta found) e
    → (n : ℕ) × Contains (leaves_of (page_at file meta n)) e
element_on file meta [] e has = absurd (contains_none e has)
element_on file meta (n ∷ found) e has =
    elim (Contains-append_cases (leaves_of (page_at file meta n)) (elements_on file meta found) e has) [
      | inl here ↦ (n, here)
      | inr later ↦ element_on file meta found e later
    ]

module _ (file : List ℕ) (meta : Meta) (search : Bool) (back : List EntryView) (made : Made) (is : IsRepair file meta search back made) where
  entry_fits : IsBytes file → (e : EntryView) → Contains back e → Fits (entry_in store_path e)
  entry_fits bytes e has =
      let (r, agreed, why) = (is.are_back.exact e).0 has in
      let c = agreed.candidate in
      let (n, on) = element_on file meta is.found c.element c.is_found in
      subst (λ (v : EntryView). Fits (entry_in store_path v)) c.shows
      (good_fits store_path c.element (good_shown file meta bytes n c.element (shows_entry file meta n c.element on)))

  back_fits : IsBytes file → (made : Bool) (m : Member) → Contains (members_in made store_path back) m → Fits m
  back_fits bytes false m has = let (e, there, same) = entry_of store_path back m has in subst Fits same (entry_fits bytes e there)
  back_fits bytes true m has = elim (contains_cases (store_path, Bucket 0) m (map (entry_in store_path) back) has) [
    | inl same ↦ subst Fits same (bucket_fits [] key_bucket (omega arith, omega arith))
    | inr later ↦ let (e, there, is_it) = entry_of store_path back m later in subst Fits is_it (entry_fits bytes e there)
  ]

  meta_fits : (is_made : Bool) (m : Member) → Contains (members_in is_made meta_path []) m → Fits m
  meta_fits false m has = absurd (contains_none m has)
  meta_fits true m has = elim (contains_cases (meta_path, Bucket 0) m [] has) [
    | inl same ↦ subst Fits same (bucket_fits [] meta_bucket (omega arith, omega arith))
    | inr none ↦ absurd (contains_none m none)
  ]

  pub listing_fits : IsBytes file → (path : Path) (item : Item) → Contains (repaired_listing is.recovered made back) (path, item)
      → IsFitMember path item
  listing_fits bytes path item has =
      let store = members_in made.store store_path back in
      elim ((merge_members (merge (readable is.recovered) store) (members_in made.meta meta_path []) (path, item)).0 has) [
        | inl before ↦ elim ((merge_members (readable is.recovered) store (path, item)).0 before) [
          | inl old ↦
              recovered_fits file meta bytes is.recovered is.recovers path item
              (kept_from (λ (m : Member). is_readable m.0 m.1) is.recovered (path, item) old).0
          | inr more ↦ back_fits bytes made.store (path, item) more
        ]
        | inr last ↦ meta_fits made.meta (path, item) last
      ]

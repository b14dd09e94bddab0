-- A root bucket is that of exactly one store.
use Rattle.std.proofs.Common.{◌≡◌, ◌∙◌, ◌&&◌, Bool, true, ℕ, List, Option, Some, None, ap, refl, subst, sym}
use Rattle.std.proofs.lemmas.Bool.{and_parts}
use Rattle.std.specs.{Cmp.Lexicographic.same_text, List.find, Option.option_map, Str.bytes_eq}
use Rattle.bolt_lemmas.proofs.Exports.{Finds, finds}
use Rattle.bolt_lemmas.specs.Order.{Rises}
use Rattle.bolt_check.specs.{Keys.Key, Sound.HasSoundTrees}
use Rattle.bolt_format.specs.{Elements.LeafElement, declared.meta.Meta.Meta}
use Rattle.bolt_tree.proofs.Exports.{starts_below, entry_once, tour_entries, entries_once}
use Rattle.bolt_tree.specs.{Entries.AreEntries, Entries.IsEntry, Entries.IsStart, Entries.Start, Entries.start_of, FileTrees.file_entries}
use Rattle.bolt_etcd.specs.{Store.StoreBuckets.HasEntriesUnder, Store.StoreBuckets.IsStore}
use Rattle.bolt_etcd.specs.Store.Orders.{stored_key_cmp}
use Rattle.bolt_etcd.specs.{Store.StoreBuckets.StoreView, Store.StoreBuckets.revisions_in}
use Rattle.bolt_etcd.specs.Store.BucketNames.{key_bucket}
use Rattle.bolt_etcd.proofs.{Currents.revisions_rise, SortedExists.by_name_exists, SortedOnce.by_name_once}
use Rattle.bolt_etcd.proofs.{StoreLemmas.itself}

abbrev is_bucket_under : Key → LeafElement → Bool
is_bucket_under name e = bytes_eq e.key name && e.is_bucket

module _ (file : List ℕ) (meta : Meta) (root : Start) (trees : HasSoundTrees file meta) (begins : IsStart file meta root) where
  all_are : AreEntries (IsEntry file meta) root (file_entries file meta root)
  all_are = tour_entries file meta trees root begins

  -- ---- there is one

  abbrev inside : LeafElement → List LeafElement
  inside e = file_entries file meta (start_of e.value)

  abbrev bucket : Key → Option (List LeafElement)
  bucket name = option_map inside (find (is_bucket_under name) (file_entries file meta root))

  bucket_by : (name : Key) (o : Option LeafElement) → Finds (is_bucket_under name) (file_entries file meta root) o
      → HasEntriesUnder (IsEntry file meta) root name (option_map inside o)
  bucket_by name None none = λ e is same.
      let fails = none e ((all_are.exact e).1 is) in
      let here : bytes_eq e.key name ≡ true = rw same (itself name) in
      sym (ap (λ (b : Bool). b && e.is_bucket) here) ∙ fails
  bucket_by name (Some e) (has, passes) =
      let (named, is_bucket) = and_parts (bytes_eq e.key name) e.is_bucket passes in
      let own = (all_are.exact e).0 has in (
        e,
        own,
        same_text e.key name (sym named),
        is_bucket,
        tour_entries file meta trees (start_of e.value) (starts_below file meta root e begins own is_bucket),
      )

  store : StoreView
  store = record { bucket = bucket; by_name = (by_name_exists (revisions_in (bucket key_bucket))).0 }

  store_is : IsStore (IsEntry file meta) root store
  unfolding store
  store_is = record {
    buckets = λ name. bucket_by name (find (is_bucket_under name) (file_entries file meta root)) (finds (is_bucket_under name) (file_entries file meta root));
    sorted = (by_name_exists (revisions_in (bucket key_bucket))).1;
  }

  -- ---- and no other

  same_bucket : (name : Key) (a b : Option (List LeafElement)) → HasEntriesUnder (IsEntry file meta) root name a
      → HasEntriesUnder (IsEntry file meta) root name b → a ≡ b
  same_bucket name None None has also = refl
  same_bucket name None (Some entries) has (e, is, same, bucket, are) = let flat = has e is same in absurd (cc)
  same_bucket name (Some entries) None (e, is, same, bucket, are) also = let flat = also e is same in absurd (cc)
  same_bucket name (Some own) (Some others) (e, is, same, bucket, are) (f, there, at, kind, also) =
      let one = entry_once (IsEntry file meta) root (file_entries file meta root) all_are e f is there (same ∙ sym at) in
      ap Some (entries_once file meta (start_of f.value) own others
      (subst (λ (x : LeafElement). AreEntries (IsEntry file meta) (start_of x.value) own) one are) also)

  keys_rise : (o : Option (List LeafElement)) → HasEntriesUnder (IsEntry file meta) root key_bucket o → Rises stored_key_cmp (revisions_in o)
  keys_rise None has = tt
  keys_rise (Some entries) (e, is, same, bucket, are) = revisions_rise entries are.rises

  other_is : (other : StoreView) → IsStore (IsEntry file meta) root other
      → ((name : Key) → other.bucket name ≡ store.bucket name) × (other.by_name ≡ store.by_name)
  other_is other also =
      let buckets = λ (name : Key). same_bucket name (other.bucket name) (store.bucket name) (also.buckets name) (store_is.buckets name) in (
        buckets,
        by_name_once (revisions_in (store.bucket key_bucket)) other.by_name store.by_name
            (keys_rise (store.bucket key_bucket) (store_is.buckets key_bucket))
            (rw (buckets key_bucket) at also.sorted) store_is.sorted,
      )

  pub one_store : (store : StoreView) × IsStore (IsEntry file meta) root store
      × ((other : StoreView) → IsStore (IsEntry file meta) root other
      → ((name : Key) → other.bucket name ≡ store.bucket name) × (other.by_name ≡ store.by_name))
  one_store = (store, store_is, other_is)

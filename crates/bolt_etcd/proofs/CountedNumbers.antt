-- What is counted of revisions and marks, entry by entry.
use Rattle.std.proofs.Common.{◌≡◌, ◌∙◌, ◌<◌, ◌^◌, ◌&&◌, ℕ, Bool, false, List, [], ◌∷◌, ap, arith, filter, inl, inr, if◌then◌else◌, length, max}
use Rattle.std.proofs.Common.{Option, Some, None, refl, sym}
use Rattle.std.proofs.lemmas.Bool.{cases_Bool}
use Rattle.std.specs.{List.cons_option, List.last_or, Option.option_map, Str.bytes_eq}
use Rattle.bolt_lemmas.proofs.Exports.{filter_both}
use Rattle.bolt_check.specs.{Counts.counted, Keys.Key}
use Rattle.bolt_tree.proofs.Exports.{counted_more}
use Rattle.bolt_tree.specs.Entries.{Bucket, EntryView, Item, Value, item_bytes}
use Rattle.bolt_etcd.specs.{Store.CurrentKeys.is_nameless, Store.CurrentKeys.nameless_key, Store.CurrentKeys.nameless_with, Store.HashKv.live_in}
use Rattle.bolt_etcd.specs.{Store.Newest.is_named, Store.Newest.is_until, Store.Newest.newest, Wire.Numbered.numbered_in, Wire.Numbered.numbered_of}
use Rattle.bolt_etcd.specs.{Wire.RevisionKeys.revision_key, Wire.RevisionKeys.is_mark}
use Rattle.bolt_etcd.specs.{Wire.Revisions.revision_in, Wire.Revisions.revision_of, Wire.Revisions.value_of}
use Rattle.bolt_etcd.specs.{Wire.ShownRevisions.value_bytes, Wire.Fields.◌>>=◌, declared.wire.revision_key.RevisionKey.RevisionKey}
use Rattle.bolt_etcd.proofs.{Currents.bind_some, CurrentOnes.bytes_some, CurrentOnes.kinds, MarkLaws.mark_is_no_revision}
use Rattle.bolt_etcd.specs.{Wire.Revisions.RevisionView, Wire.Revisions.name_of, Store.Statuses.newest_main, Store.Statuses.newest_with}
use Rattle.bolt_etcd.specs.{Store.Statuses.revisions_with}

-- the key of the current one of the name without bytes, after these
abbrev pub nameless_after : (up_to : ℕ) → Option Key → List RevisionView → Option Key
nameless_after up_to key [] = key
nameless_after up_to key (r ∷ rs) = nameless_after up_to (nameless_with up_to (Some r) key) rs

pub nameless_step : (up_to : ℕ) (key : Option Key) (o : Option RevisionView) (rs : List RevisionView)
    → nameless_after up_to (nameless_with up_to o key) rs ≡ nameless_after up_to key (cons_option o rs)
nameless_step up_to key None rs = refl
nameless_step up_to key (Some r) rs = refl

pub newest_step : (newest : ℕ) (o : Option RevisionView) (rs : List RevisionView)
    → max (newest_with o newest) (newest_main rs) ≡ max newest (newest_main (cons_option o rs))
newest_step newest None rs = refl
newest_step newest (Some r) rs = omega arith

pub revisions_step : (n : ℕ) (o : Option RevisionView) (rs : List RevisionView)
    → counted (revisions_with o n) (length rs) ≡ counted n (length (cons_option o rs))
revisions_step n None rs = refl
revisions_step n (Some r) rs = counted_more n 1 (length rs) ∙ ap (counted n) (omega arith)

pub revisions_fit : (n : ℕ) (o : Option RevisionView) → n < 2 ^ 64 → revisions_with o n < 2 ^ 64
revisions_fit n None fits = fits
revisions_fit n (Some r) fits = omega arith

module _ (up_to : ℕ) where
  abbrev key_of : Option RevisionView → Option Key
  key_of o = option_map (λ x. x.stored_key) (live_in o)

  abbrev test : RevisionView → Bool
  test r = is_named [] r && is_until up_to r

  nameless_is : (name : List ℕ) → is_nameless name ≡ bytes_eq name []
  nameless_is [] = refl
  nameless_is (b ∷ name) = bytes_some b name

  nameless_from : (o : Option RevisionView) (rs : List RevisionView) → nameless_after up_to (key_of o) rs ≡ key_of (last_or o (filter test rs))
  nameless_from o [] = refl
  nameless_from o (r ∷ rs) = elim (cases_Bool (is_until up_to r)) [
    | inl early ↦ elim (cases_Bool (bytes_eq (name_of r) [])) [
      | inl nameless ↦ rw (nameless_is (name_of r), early, nameless) (nameless_from (Some r) rs)
      | inr named ↦ rw (nameless_is (name_of r), early, named) (nameless_from o rs)
    ]
    | inr late ↦ elim (cases_Bool (bytes_eq (name_of r) [])) [
      | inl nameless ↦ rw (nameless_is (name_of r), late, nameless) (nameless_from o rs)
      | inr named ↦ rw (nameless_is (name_of r), late, named) (nameless_from o rs)
    ]
  ]

  pub nameless_of_all : (rs : List RevisionView) → nameless_after up_to None rs ≡ nameless_key up_to rs
  unfolding newest
  nameless_of_all rs = nameless_from None rs ∙ ap (λ (xs : List RevisionView). key_of (last_or None xs)) (sym (filter_both (is_named []) (is_until up_to) rs))

-- ---- an entry is a revision, unless it is a mark or neither

number_says : (key value : List ℕ) (r : RevisionView) → numbered_in key value ≡ Some r → revision_key key ≡ Some r.key
number_says key value r is = grind (arith, bind_some)

module _ (v : EntryView) (r : RevisionView) (k : RevisionKey) (value : List ℕ) (key : k ≡ r.key) (bytes : value ≡ value_bytes v) (n : ℕ) where
  by_value : (item : Item) → v.item ≡ item → (value_of item >>= numbered_in v.key) ≡ Some r → value ≡ item_bytes item
      → revisions_with (value_of item >>= revision_in v.key) n ≡ (if is_mark k value then n else counted n 1)
  by_value (Bucket sequence) kind is same = cc
  by_value (Value stored) kind is same =
      let read : revision_key v.key ≡ Some k = number_says v.key stored r is ∙ ap Some (sym key) in
      elim (cases_Bool (is_mark k value)) [
        | inl mark ↦ rw (mark_is_no_revision v.key stored k read (rw same at mark), mark) refl
        | inr none ↦
            let also : is_mark k stored ≡ false = rw same at none in
            let same_as : revision_in v.key stored ≡ numbered_in v.key stored = rw (read, also) refl in
            rw (same_as, is, none) refl
      ]

  pub one_revision : numbered_of v ≡ Some r → revisions_with (revision_of v) n ≡ (if is_mark k value then n else counted n 1)
  unfolding numbered_of revision_of
  one_revision found = by_value v.item refl found bytes

pub no_revision : (v : EntryView) → numbered_of v ≡ None → revision_of v ≡ None
no_revision v none = elim (kinds v) [ inl same ↦ same ∙ none | inr (m, found, nameless, is) ↦ is ]

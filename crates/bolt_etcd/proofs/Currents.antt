-- The keys that there are are the newest revisions that aren't deletions.
use Rattle.std.proofs.Common.{ℕ, ◌≡◌, ◌∙◌, ◌++◌, ◌↔◌, Bool, false, List, [], ◌∷◌, filter, map, not, Option, Some, None, refl, sym, ap}
use Rattle.std.proofs.Common.{subst, arith}
use Rattle.std.proofs.{lemmas.Bool.not-true, lemmas.Cmp.nat_list_cmp_total, lemmas.Cmp.on_total, lemmas.List.append_assoc, lemmas.List.map-append}
use Rattle.std.proofs.{lemmas.List.Kept.IsStrictlySortedBy-filter}
use Rattle.std.proofs.{lemmas.List.MinMax.ranks_by, lemmas.List.Sorted.Contains-permutation, lemmas.List.Sorted.IsPermutation-sym}
use Rattle.std.proofs.{lemmas.Slice.Eq.bytes_eq-Decides}
use Rattle.std.specs.{List.Contains, List.cons_option, List.dedup, List.Sorted.IsPermutation, List.Sorted.IsSorted, Cmp.IsStrictWeakOrder}
use Rattle.std.specs.{Cmp.IsTotalOrder}
use Rattle.std.specs.{Ordering.eq_by_cmp, Ordering.is_eq, Ordering.is_lt, Str.bytes_eq}
use Rattle.std.specs.declared.cmp.Ordering.TheVariants.{Less}
use Rattle.bolt_lemmas.proofs.Exports.{dedup_mapped, filter_mapped, gives_from, kept, kept_from, not_less, one_of, rises_from, sorted_in}
use Rattle.bolt_lemmas.specs.Order.{Rises}
use Rattle.bolt_format.specs.Elements.{LeafElement}
use Rattle.bolt_tree.specs.{Entries.EntryView, Entries.entry_cmp, Entries.entry_view}
use Rattle.bolt_etcd.specs.Store.Current.{AreCurrent, AreCurrentBySum, HaveOwnKeys, IsCurrent, IsCurrentAmong, is_there}
use Rattle.bolt_etcd.specs.Store.Orders.{AreNewestBySum, name_cmp, name_sum_cmp, stored_key_cmp, sums_cmp}
use Rattle.bolt_etcd.specs.{Store.Newest.is_named, Store.Newest.newest, Wire.Revisions.RevisionView, Wire.Revisions.name_of}
use Rattle.bolt_etcd.specs.{Wire.Revisions.revision_in, Wire.Revisions.revision_of, Wire.Revisions.value_of}
use Rattle.bolt_etcd.specs.{Wire.RevisionKeys.revision_key, Wire.ShownRevisions.shown_revision, Store.Stores.revisions, Wire.Fields.◌>>=◌}
use Rattle.bolt_etcd.specs.{declared.wire.revision.Revision.Revision}
use Rattle.bolt_etcd.proofs.NewestOfNames.{IsGreatest, greatest_kept, kept_greatest, last_from, last_greatest, names_rise, text_ties}
use Rattle.bolt_etcd.proofs.{NameOrders.sums_tie, NameOrders.sums_total}

-- ---- one more is pushed

pub pushed : (items more : List Revision) (r : Revision) (left new total : List RevisionView) → more ≡ items ++ r ∷ [] → left ≡ shown_revision r ∷ new
    → map shown_revision items ++ left ≡ total → map shown_revision more ++ new ≡ total
pushed items more r left new total is first before = grind (arith, map-append, append_assoc)

-- ---- revisions rise by their stored keys, as entries do by their keys

pub bind_some : {A B : Type 0} (o : Option A) (f : A → Option B) (y : B) → (o >>= f) ≡ Some y → (x : A) × (o ≡ Some x) × (f x ≡ Some y)
bind_some None f y e = cc
bind_some (Some x) f y e = (x, refl, e)

-- it has its key, and is as that says
pub in_says : (key value : List ℕ) (r : RevisionView) → revision_in key value ≡ Some r → (r.stored_key ≡ key) × (revision_key key ≡ Some r.key)
in_says key value r e = grind (arith, bind_some)

pub stored_key_is : (v : EntryView) (r : RevisionView) → revision_of v ≡ Some r → r.stored_key ≡ v.key
unfolding revision_of
stored_key_is v r e = let (value, _, inner) = bind_some (value_of v.item) (revision_in v.key) r e in (in_says v.key value r inner).0

pub key_is : (v : EntryView) (r : RevisionView) → revision_of v ≡ Some r → revision_key v.key ≡ Some r.key
unfolding revision_of
key_is v r e = let (value, _, inner) = bind_some (value_of v.item) (revision_in v.key) r e in (in_says v.key value r inner).1

pub from_entry : (es : List LeafElement) (r : RevisionView) → Contains (revisions es) r
    → (f : LeafElement) × Contains es f × (revision_of (entry_view f) ≡ Some r)
from_entry es r has = gives_from (λ (e : LeafElement). revision_of (entry_view e)) es r has

rise_step : (o : Option RevisionView) (e : LeafElement) (es : List LeafElement) → revision_of (entry_view e) ≡ o → Rises entry_cmp (e ∷ es)
    → Rises stored_key_cmp (revisions es)
    → Rises stored_key_cmp (cons_option o (revisions es))
rise_step None e es is rises later = later
rise_step (Some r) e es is rises later = (
  λ s has.
      let (f, there, found) = from_entry es s has in
      rw (stored_key_is (entry_view e) r is, stored_key_is (entry_view f) s found) (rises.0 f there),
  later,
)

pub revisions_rise : (es : List LeafElement) → Rises entry_cmp es → Rises stored_key_cmp (revisions es)
revisions_rise [] rises = tt
revisions_rise (e ∷ es) rises = rise_step (revision_of (entry_view e)) e es refl rises (revisions_rise es rises.1)

-- ---- what is kept, as it is shown

abbrev pub code_by_name : Revision → Revision → Bool
code_by_name a b = is_lt (name_cmp (shown_revision a) (shown_revision b))

abbrev pub code_same_name : Revision → Revision → Bool
code_same_name a b = bytes_eq (name_of (shown_revision a)) (name_of (shown_revision b))

abbrev pub view_same_name : RevisionView → RevisionView → Bool
view_same_name a b = bytes_eq (name_of a) (name_of b)

names_total : IsTotalOrder name_cmp
names_total = on_total name_of nat_list_cmp_total

pub code_name_ranks : IsStrictWeakOrder code_by_name
code_name_ranks = ranks_by names_total shown_revision

abbrev pub code_is_there : Revision → Bool
code_is_there r = is_there (shown_revision r)

-- ---- the newest of each name

module _ (rs : List RevisionView) where
  abbrev Greatest : RevisionView → Type 0
  Greatest r = IsGreatest name_of (λ (x : RevisionView). x.stored_key) sums_cmp sums_total sums_tie (is_named (name_of r)) rs r

  greatest_newest : (r : RevisionView) → Greatest r → r.key.deleted ≡ false → IsCurrentAmong rs r
  greatest_newest r g live = grind (arith, bytes_eq-Decides)

  newest_greatest : (r : RevisionView) → IsCurrentAmong rs r → Greatest r
  newest_greatest r n = grind (arith, bytes_eq-Decides, not_less)

  -- of revisions sorted by names, the newest first, the first of each name that isn't a deletion
  pub first_are_newest : (sorted : List RevisionView) → AreNewestBySum rs sorted → HaveOwnKeys rs
      → AreCurrentBySum rs (filter is_there (dedup view_same_name sorted))
  first_are_newest sorted are own = record {
    rises =
        rises_from (on_total name_of sums_total) _
        (IsStrictlySortedBy-filter name_sum_cmp is_there _ (names_rise name_of (λ r. r.stored_key) sums_cmp sums_total sums_tie sorted are.rises));
    exact = λ r. (
      λ has.
          let (first, live) = kept_from is_there _ r has in
          greatest_newest r (kept_greatest name_of (λ r. r.stored_key) sums_cmp sums_total sums_tie rs sorted own are.same are.rises r first)
          (not-true r.key.deleted live),
      λ n. kept is_there _ r
          (greatest_kept name_of (λ r. r.stored_key) sums_cmp sums_total sums_tie rs sorted own are.same are.rises r (newest_greatest r n)) (ap not n.there),
    );
  }

  -- ---- of revisions in the order of their keys these are the current ones

  module _ (rises : Rises stored_key_cmp rs) where
    pub own_keys : HaveOwnKeys rs
    own_keys a b has also same = one_of nat_list_cmp_total (λ (r : RevisionView). r.stored_key) rs a b rises has also same

    pub current_newest : (r : RevisionView) → IsCurrent rs r ↔ IsCurrentAmong rs r
    unfolding newest
    current_newest r = (
      λ (last, live). greatest_newest r (last_greatest name_of (λ r. r.stored_key) sums_cmp sums_total sums_tie (is_named (name_of r)) rs r rises last) live,
      λ n. (last_from name_of (λ r. r.stored_key) sums_cmp sums_total sums_tie (is_named (name_of r)) rs r rises (newest_greatest r n), n.there),
    )

    differ : (a b : RevisionView) → name_sum_cmp a b ≡ Less → eq_by_cmp name_cmp a b ≡ false
    differ a b less = sym (text_ties (name_of a) (name_of b)) ∙ sums_tie (name_of a) (name_of b) ∙ ap is_eq less

    pub sorted_are_current : (found current : List RevisionView) → AreCurrentBySum rs found → IsPermutation found current → IsSorted name_cmp current
        → AreCurrent rs current
    sorted_are_current found current are same by_name = record {
      rises = sorted_in names_total name_sum_cmp found current (λ a b has also less. differ a b less) are.rises same by_name;
      exact = λ r. (
        λ has. (current_newest r).1 ((are.exact r).0 (Contains-permutation current found r (IsPermutation-sym found current same) has)),
        λ is. Contains-permutation found current r same ((are.exact r).1 ((current_newest r).0 is)),
      );
    }

-- ---- of the code

pub kept_newest : (old sorted left there : List Revision) → AreNewestBySum (map shown_revision old) (map shown_revision sorted)
    → left ≡ dedup code_same_name sorted
    → there ≡ filter code_is_there left → HaveOwnKeys (map shown_revision old) → AreCurrentBySum (map shown_revision old) (map shown_revision there)
kept_newest old sorted left there are once live own =
    let shown =
    ap (map shown_revision) live ∙ filter_mapped shown_revision is_there left
    ∙ ap (filter is_there) (ap (map shown_revision) once ∙ dedup_mapped shown_revision view_same_name sorted) in
    subst (AreCurrentBySum (map shown_revision old)) (sym shown) (first_are_newest (map shown_revision old) (map shown_revision sorted) are own)

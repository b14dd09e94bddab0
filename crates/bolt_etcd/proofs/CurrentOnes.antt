-- Which revisions and marks are current, and how the code knows it: by the
-- list of the current revisions, and by the key of the current one of the name
-- without bytes.
use Rattle.std.proofs.Common.{◌≡◌, ◌≢◌, ◌∙◌, ◌⊎◌, inl, inr, ℕ, Bool, true, false, List, [], ◌∷◌, ◌&&◌, ap, arith, cond, filter, not, Option}
use Rattle.std.proofs.Common.{Some, None, refl, rules, subst, sym}
use Rattle.std.proofs.{lemmas.Bool.cases_Bool, lemmas.Bool.cond-false, lemmas.Bool.cond-true, lemmas.Bool.false_from_ne_true, lemmas.Option.same_Some}
use Rattle.std.proofs.{lemmas.Cmp.nat_list_cmp_total, lemmas.Cmp.on_total, lemmas.Cmp.tied_itself, lemmas.List.MinMax.ranks_by}
use Rattle.std.proofs.{lemmas.List.Sorted.Contains-permutation, lemmas.List.Sorted.IsPermutation-sym}
use Rattle.std.specs.{Cmp.IsStrictWeakOrder, Cmp.IsTotalOrder, Cmp.Lexicographic.same_text, List.Contains, List.Sorted.IsPermutation}
use Rattle.std.specs.{List.Sorted.IsSorted, List.cons_option, List.last_or, List.list_any, Option.is_some, Option.option_map, Ordering.eq_by_cmp}
use Rattle.std.specs.{Ordering.is_lt, Str.bytes_eq}
use Rattle.std.specs.declared.cmp.Ordering.TheVariants.{Less}
use Rattle.std.proofs.Math.Bool.{or-true}
use Rattle.bolt_lemmas.proofs.Exports.{any_from, any_has, contains_head, equal_from, filter_both, filter_rises, gives_from, gives_has, kept, kept_from, last_in}
use Rattle.bolt_lemmas.proofs.Exports.{rises_once, same_bool, sorted_in}
use Rattle.bolt_lemmas.specs.Order.{Rises}
use Rattle.bolt_format.specs.Elements.{LeafElement}
use Rattle.bolt_check.specs.Keys.{Key, key_cmp}
use Rattle.bolt_tree.proofs.Exports.{key_exact}
use Rattle.bolt_tree.specs.{Entries.Bucket, Entries.EntryView, Entries.Item, Entries.Value, Entries.entry_cmp, Entries.entry_view}
use Rattle.bolt_etcd.specs.Store.Current.{AreCurrentBySum, IsCurrent}
use Rattle.bolt_etcd.specs.Store.Orders.{name_sum_cmp, stored_key_cmp}
use Rattle.bolt_etcd.specs.Store.CurrentKeys.{any_current_by, begins_with_key, is_current_by, is_nameless, is_this, nameless_key, without_first}
use Rattle.bolt_etcd.specs.{Histories.Compactions.is_same_revision, Store.HashKv.live_in, Store.HashKv.is_current_at, Store.HashKv.passes}
use Rattle.bolt_etcd.specs.{Histories.Transactions.live_of, Store.Newest.is_named, Store.Newest.is_until, Store.Newest.newest, Store.Newest.until}
use Rattle.bolt_etcd.specs.{Wire.Numbered.numbered, Wire.Numbered.numbered_in, Wire.Numbered.numbered_of, Wire.RevisionKeys.revision_key}
use Rattle.bolt_etcd.specs.{Wire.RevisionKeys.is_mark, Wire.Revisions.revision_in, Wire.Revisions.value_of, Wire.Fields.◌>>=◌}
use Rattle.bolt_etcd.specs.{declared.wire.revision_key.RevisionKey.RevisionKey, Wire.Revisions.RevisionView, Wire.Revisions.name_of}
use Rattle.bolt_etcd.specs.{Wire.Revisions.revision_of, Store.Stores.revisions}
use Rattle.bolt_etcd.specs.{Wire.ShownRevisions.shown_revision, declared.wire.revision.Revision.Revision}
use Rattle.bolt_etcd.proofs.Currents.{current_newest, from_entry, own_keys, stored_key_is}
use Rattle.bolt_etcd.proofs.{MarkLaws.mark_has_number, MarkLaws.mark_is_no_revision, NameOrders.sums_total}
use Rattle.bolt_etcd.proofs.{StoreLemmas.itself}

-- the newest of a name is one of these
newest_in : (name : List ℕ) (rs : List RevisionView) (r : RevisionView) → newest name rs ≡ Some r → Contains rs r
unfolding newest
newest_in name rs r is = elim (last_in None (filter (is_named name) rs) r is) [ inl none ↦ cc | inr there ↦ (kept_from (is_named name) rs r there).0 ]

newest_named : (name : List ℕ) (rs : List RevisionView) (r : RevisionView) → newest name rs ≡ Some r → name_of r ≡ name
unfolding newest
newest_named name rs r is = elim (last_in None (filter (is_named name) rs) r is) [
  | inl none ↦ cc
  | inr there ↦ same_text (name_of r) name (sym (kept_from (is_named name) rs r there).1)
]

held_some : (x r : RevisionView) → live_of x ≡ Some r → x ≡ r
held_some x r is = grind (arith, same_Some)

-- ---- the list of the current revisions, by their keys

total_keys : IsTotalOrder stored_key_cmp
total_keys = on_total (λ (r : RevisionView). r.stored_key) nat_list_cmp_total

abbrev pub code_by_key : Revision → Revision → Bool
code_by_key a b = is_lt (stored_key_cmp (shown_revision a) (shown_revision b))

pub code_key_ranks : IsStrictWeakOrder code_by_key
code_key_ranks = ranks_by total_keys shown_revision

module _ (rs : List RevisionView) (up_to : ℕ) (rises : Rises stored_key_cmp rs) where
  until_rises : Rises stored_key_cmp (until up_to rs)
  until_rises = filter_rises stored_key_cmp (is_until up_to) rs rises

  held_is : (r o : RevisionView) → Contains rs r → Contains rs o → is_same_revision r (live_of o) ≡ true → (o ≡ r) × (o.key.deleted ≡ false)
  held_is r o has also same = cases o.key.deleted refl
    where
      cases : (b : Bool) → o.key.deleted ≡ b → (o ≡ r) × (o.key.deleted ≡ false)
      cases true is = let none : is_same_revision r (live_of o) ≡ false = rw is refl in cc
      cases false is = (own_keys rs rises o r also has (same_text o.stored_key r.stored_key (sym (rw is at same))), is)

  current_is : (r : RevisionView) → Contains rs r → is_current_at up_to rs r ≡ true → IsCurrent (until up_to rs) r
  current_is r has current = go (newest (name_of r) (until up_to rs)) refl
    where
      go : (o : Option RevisionView) → newest (name_of r) (until up_to rs) ≡ o → IsCurrent (until up_to rs) r
      go None is = let none : is_current_at up_to rs r ≡ false = rw is refl in absurd (cc)
      go (Some o) is =
          let there = newest_in (name_of r) (until up_to rs) o is in
          let (same, live) = held_is r o has (kept_from (is_until up_to) rs o there).0 (rw is at current) in
          (is ∙ ap Some same, sym (ap (λ (x : RevisionView). x.key.deleted) same) ∙ live)

  is_current : (r : RevisionView) → IsCurrent (until up_to rs) r → is_current_at up_to rs r ≡ true
  is_current r (last, live) = rw (last, live) (itself r.stored_key)

  -- the newest of each name, sorted by their keys, are the current ones in the order that they have
  pub current_list : (found sorted : List RevisionView) → AreCurrentBySum (until up_to rs) found → IsPermutation found sorted
      → IsSorted stored_key_cmp sorted
      → sorted ≡ filter (is_current_at up_to rs) rs
  current_list found sorted are moved up =
      rises_once total_keys sorted (filter (is_current_at up_to rs) rs)
      (sorted_in total_keys name_sum_cmp found sorted apart are.rises moved up)
      (filter_rises stored_key_cmp (is_current_at up_to rs) rs rises)
      (λ r has.
      let newest = (are.exact r).0 (Contains-permutation sorted found r (IsPermutation-sym found sorted moved) has) in
      kept (is_current_at up_to rs) rs r (kept_from (is_until up_to) rs r newest.has).0
      (is_current r ((current_newest (until up_to rs) until_rises r).1 newest)))
      (λ r has.
      let (there, current) = kept_from (is_current_at up_to rs) rs r has in
      Contains-permutation found sorted r moved ((are.exact r).1 ((current_newest (until up_to rs) until_rises r).0 (current_is r there current))))
    where
      apart : (x y : RevisionView) → Contains found x → Contains found y → name_sum_cmp x y ≡ Less → eq_by_cmp stored_key_cmp x y ≡ false
      apart x y has also less = elim (cases_Bool (eq_by_cmp stored_key_cmp x y)) [
        | inl same ↦
            let within = λ (r : RevisionView) (there : Contains found r). (kept_from (is_until up_to) rs r ((are.exact r).0 there).has).0 in
            let one =
            own_keys rs rises x y (within x has) (within y also) (key_exact x.stored_key y.stored_key (equal_from (key_cmp x.stored_key y.stored_key) same)) in
            let tied = tied_itself (on_total name_of sums_total) y in
            let before = subst (λ (r : RevisionView). name_sum_cmp r y ≡ Less) one less in
            absurd (cc)
        | inr differs ↦ differs
      ]

-- ---- revisions and marks

-- an entry is a revision with a number or neither, or it is a mark
by_key : (key value : List ℕ) (o : Option RevisionKey) → revision_key key ≡ o → (revision_in key value ≡ numbered_in key value)
    ⊎ ((m : RevisionView) × (numbered_in key value ≡ Some m) × (name_of m ≡ []) × (revision_in key value ≡ None))
by_key key value None read = inl (rw read refl)
by_key key value (Some k) read = elim (cases_Bool (is_mark k value)) [
  | inl mark ↦ inr (_, mark_has_number key value k read mark, refl, mark_is_no_revision key value k read mark)
  | inr none ↦ inl (rw (read, none) refl)
]

pub kinds : (v : EntryView)
    → (revision_of v ≡ numbered_of v) ⊎ ((m : RevisionView) × (numbered_of v ≡ Some m) × (name_of m ≡ []) × (revision_of v ≡ None))
unfolding numbered_of revision_of
kinds v = by_item v.item
  where
    by_item : (item : Item) → ((value_of item >>= revision_in v.key) ≡ (value_of item >>= numbered_in v.key))
        ⊎ ((m : RevisionView) × ((value_of item >>= numbered_in v.key) ≡ Some m) × (name_of m ≡ []) × ((value_of item >>= revision_in v.key) ≡ None))
    by_item (Value value) = by_key v.key value (revision_key v.key) refl
    by_item (Bucket sequence) = inl refl

-- one with a name that has bytes is a revision
named_revision : (v : EntryView) (r : RevisionView) → numbered_of v ≡ Some r → name_of r ≢ [] → revision_of v ≡ Some r
named_revision v r is some = elim (kinds v) [
  | inl same ↦ same ∙ is
  | inr (m, found, nameless, none) ↦ absurd (some (ap name_of (same_Some r m (sym is ∙ found)) ∙ nameless))
]

-- a revision has a number
pub revision_number : (v : EntryView) (r : RevisionView) → revision_of v ≡ Some r → numbered_of v ≡ Some r
revision_number v r is = elim (kinds v) [ inl same ↦ sym same ∙ is | inr (m, found, nameless, none) ↦ cc ]

numbered_too : (es : List LeafElement) (x : RevisionView) → Contains (revisions es) x → Contains (numbered es) x
numbered_too es x has =
    let (f, there, found) = from_entry es x has in
    gives_has (λ (e : LeafElement). numbered_of (entry_view e)) es f x there (revision_number (entry_view f) x found)

-- ---- of a name with bytes both have the same

module _ (name : List ℕ) (some : name ≢ []) (up_to : ℕ) where
  abbrev test : RevisionView → Bool
  test r = is_named name r && is_until up_to r

  one_more : (o : Option RevisionView) (xs ys : List RevisionView) → filter test xs ≡ filter test ys
      → filter test (cons_option o xs) ≡ filter test (cons_option o ys)
  one_more None xs ys same = same
  one_more (Some r) xs ys same = ap (λ (zs : List RevisionView). cond (test r) (r ∷ zs) zs) same

  one_mark : (m : RevisionView) (xs : List RevisionView) → name_of m ≡ [] → filter test (m ∷ xs) ≡ filter test xs
  one_mark m xs nameless = cond-false (test m) _ _ (rw nameless (rw (differs) refl))
    where
      differs : bytes_eq [] name ≡ false
      differs = false_from_ne_true (bytes_eq [] name) (λ same. some (sym (same_text [] name (sym same))))

  named_same : (es : List LeafElement) → filter test (numbered es) ≡ filter test (revisions es)
  named_same [] = refl
  named_same (e ∷ es) = elim (kinds (entry_view e)) [
    | inl same ↦ rw same (one_more (numbered_of (entry_view e)) (numbered es) (revisions es) (named_same es))
    | inr (m, found, nameless, none) ↦ rw (found, none) (one_mark m (numbered es) nameless ∙ named_same es)
  ]

  newest_same : (es : List LeafElement) → newest name (until up_to (numbered es)) ≡ newest name (until up_to (revisions es))
  unfolding newest
  newest_same es =
      ap (last_or None) (filter_both (is_named name) (is_until up_to) (numbered es) ∙ named_same es
      ∙ sym (filter_both (is_named name) (is_until up_to) (revisions es)))

-- ---- how the code knows what is current

pub bytes_some : (b : ℕ) (name : List ℕ) → is_nameless (b ∷ name) ≡ false
bytes_some b name = search rules

module _ (up_to : ℕ) (es : List LeafElement) where
  current_same : (r : RevisionView) → name_of r ≢ [] → is_current_at up_to (numbered es) r ≡ is_current_at up_to (revisions es) r
  current_same r some = ap (λ (o : Option RevisionView). is_same_revision r (live_in o)) (newest_same (name_of r) some up_to es)

  this_is : (r : RevisionView) (o : Option RevisionView) → is_this r.stored_key (option_map (λ x. x.stored_key) o) ≡ is_same_revision r o
  this_is r None = refl
  this_is r (Some x) = refl

  module _ (v : EntryView) (r : RevisionView) (nameless : Option Key) (listed : Bool) (found : numbered_of v ≡ Some r)
      (by_name : nameless ≡ nameless_key up_to (numbered es))
      (by_list : listed ≡ passes (is_current_at up_to (revisions es)) (revision_of v)) where
    known_by : (name : List ℕ) → name_of r ≡ name → is_current_by nameless listed name r.stored_key ≡ is_current_at up_to (numbered es) r
    known_by [] is =
        ap (is_this r.stored_key) by_name ∙ this_is r (live_in (newest [] (until up_to (numbered es))))
        ∙ ap (λ (name : List ℕ). is_same_revision r (live_in (newest name (until up_to (numbered es))))) (sym is)
    known_by (b ∷ name) is =
        let some : name_of r ≢ [] = λ none. (let both : b ∷ name ≡ [] = sym is ∙ none in cc) in
        cond-false (is_nameless (b ∷ name)) _ _ (bytes_some b name) ∙ by_list
        ∙ ap (passes (is_current_at up_to (revisions es))) (named_revision v r found some) ∙ sym (current_same r some)

    pub known_current : (name key : List ℕ) → name ≡ name_of r → key ≡ r.stored_key
        → is_current_by nameless listed name key ≡ is_current_at up_to (numbered es) r
    known_current name key is_name is_key = rw (is_name, is_key) (known_by (name_of r) refl)

  -- whether any is

  nameless_held : (r : RevisionView) → live_in (newest [] (until up_to (numbered es))) ≡ Some r → Contains (numbered es) r × (name_of r ≡ [])
  nameless_held r is = go (newest [] (until up_to (numbered es))) refl is
    where
      go : (o : Option RevisionView) → newest [] (until up_to (numbered es)) ≡ o → live_in o ≡ Some r → Contains (numbered es) r × (name_of r ≡ [])
      go None last holds = cc
      go (Some x) last holds =
          let same = held_some x r holds in
          let has = newest_in [] (until up_to (numbered es)) x last in
          subst (λ (y : RevisionView). Contains (numbered es) y × (name_of y ≡ [])) same
          ((kept_from (is_until up_to) (numbered es) x has).0, newest_named [] (until up_to (numbered es)) x last)

  pub any_current : (nameless : Option Key) (current : List RevisionView) → nameless ≡ nameless_key up_to (numbered es)
      → current ≡ filter (is_current_at up_to (revisions es)) (revisions es)
      → any_current_by nameless current ≡ list_any (is_current_at up_to (numbered es)) (numbered es)
  any_current nameless current by_name listed = same_bool _ _ (λ some. to (live_in (newest [] (until up_to (numbered es)))) refl some) from
    where
      to : (o : Option RevisionView) → live_in (newest [] (until up_to (numbered es))) ≡ o → any_current_by nameless current ≡ true
          → list_any (is_current_at up_to (numbered es)) (numbered es) ≡ true
      to (Some x) is some =
          let (has, named) = nameless_held x is in
          any_has (is_current_at up_to (numbered es)) (numbered es) x has (rw (named, is) (itself x.stored_key))
      to None is some =
          let (x, has, named) = any_from (λ (r : RevisionView). not (is_nameless (name_of r))) current (rw (by_name, is) at some) in
          let (there, holds) = kept_from (is_current_at up_to (revisions es)) (revisions es) x (subst (λ (rs : List RevisionView). Contains rs x) listed has) in
          any_has (is_current_at up_to (numbered es)) (numbered es) x (numbered_too es x there)
          (current_same x (λ none. (let bad : not (is_nameless (name_of x)) ≡ false = rw none refl in cc)) ∙ holds)

      from : list_any (is_current_at up_to (numbered es)) (numbered es) ≡ true → any_current_by nameless current ≡ true
      from some =
          let (x, has, holds) = any_from (is_current_at up_to (numbered es)) (numbered es) some in
          by_its_name x has holds (name_of x) refl
        where
          by_its_name : (x : RevisionView) → Contains (numbered es) x → is_current_at up_to (numbered es) x ≡ true → (name : List ℕ)
              → name_of x ≡ name → any_current_by nameless current ≡ true
          by_its_name x has holds [] is = held_there (live_in (newest [] (until up_to (numbered es)))) refl (rw is at holds)
            where
              held_there : (o : Option RevisionView) → live_in (newest [] (until up_to (numbered es))) ≡ o → is_same_revision x o ≡ true
                  → any_current_by nameless current ≡ true
              held_there None none same = cc
              held_there (Some y) is same = rw (by_name, is) refl
          by_its_name x has holds (b ∷ name) is =
              let some : name_of x ≢ [] = λ none. (let both : b ∷ name ≡ [] = sym is ∙ none in cc) in
              let (f, there, found) = gives_from (λ (e : LeafElement). numbered_of (entry_view e)) es x has in
              let listed_in = gives_has (λ (e : LeafElement). revision_of (entry_view e)) es f x there (named_revision (entry_view f) x found some) in
              let kept_in = kept (is_current_at up_to (revisions es)) (revisions es) x listed_in (sym (current_same x some) ∙ holds) in
              let has_bytes : not (is_nameless (name_of x)) ≡ true = rw (is, bytes_some b name) refl in
              rw (any_has (λ (r : RevisionView). not (is_nameless (name_of r))) current x
              (subst (λ (rs : List RevisionView). Contains rs x) (sym listed) kept_in) has_bytes) (or-true (is_some nameless))

-- ---- whether the first of the list is the next entry

module _ (p : RevisionView → Bool) (e : LeafElement) (later : List LeafElement) (rises : Rises entry_cmp (e ∷ later)) where
  abbrev others : List RevisionView
  others = filter p (revisions later)

  abbrev IsFirst : List RevisionView → Bool → Type 0
  IsFirst listed is_listed = (begins_with_key e.key listed ≡ is_listed) × (without_first e.key listed ≡ others)

  -- a later revision isn't this entry
  differs : (r : RevisionView) → Contains others r → bytes_eq r.stored_key e.key ≡ false
  differs r has =
      let (f, there, found) = from_entry later r (kept_from p (revisions later) r has).0 in
      let less = rises.0 f there in
      let tied = tied_itself nat_list_cmp_total e.key in
      false_from_ne_true (bytes_eq r.stored_key e.key) (λ same.
      let key : f.key ≡ e.key = sym (stored_key_is (entry_view f) r found) ∙ same_text r.stored_key e.key (sym same) in
      let itself_less : key_cmp e.key e.key ≡ Less = subst (λ (k : Key). key_cmp e.key k ≡ Less) key less in
      cc)

  no_first : IsFirst others false
  no_first = go others refl
    where
      go : (rs : List RevisionView) → others ≡ rs → IsFirst others false
      go [] none = rw none (refl, refl)
      go (r ∷ rs) some =
          let other = differs r (subst (λ (xs : List RevisionView). Contains xs r) (sym some) (contains_head r rs)) in
          rw some (other, cond-false (bytes_eq r.stored_key e.key) _ _ other)

  pub is_first : (listed : List RevisionView) → listed ≡ filter p (revisions (e ∷ later)) → IsFirst listed (passes p (revision_of (entry_view e)))
  is_first listed is = go (revision_of (entry_view e)) refl
    where
      go : (o : Option RevisionView) → revision_of (entry_view e) ≡ o → IsFirst listed (passes p (revision_of (entry_view e)))
      go None none = rw none (rw (is, none) no_first)
      go (Some r) found = elim (cases_Bool (p r)) [
        | inl current ↦
            let same : bytes_eq r.stored_key e.key ≡ true = rw (stored_key_is (entry_view e) r found) (itself e.key) in
            rw (is, found, current) (same, cond-true (bytes_eq r.stored_key e.key) _ _ same)
        | inr left ↦ rw (is, found, left) no_first
      ]

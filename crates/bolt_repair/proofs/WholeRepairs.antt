-- From what is found and what the recovered listing says of a store: what goes back, and how many keys are left out.
use Rattle.std.proofs.Common.{◌≡◌, ◌↔◌, ◌∙◌, ◌⊎◌, ◌≤◌, ◌&&◌, ◌-◌, ◌++◌, inl, inr, ℕ, Bool, true, false, List, [], ◌∷◌, Option, Some, None, arith}
use Rattle.std.proofs.Common.{length, map, nat_lt, not, refl, sym, ap, subst}
use Rattle.std.proofs.lemmas.Bool.{lt-ltb, ltb-false, ltb-true, not-false, not-true, or_cases, or_left, or_right}
use Rattle.std.proofs.{lemmas.List.length-map, lemmas.List.Elements.Contains-append_cases, lemmas.List.Elements.Contains-append_left}
use Rattle.std.proofs.{lemmas.List.Elements.Contains-append_right}
use Rattle.std.proofs.lemmas.Option.{same_Some}
use Rattle.std.specs.List.{Contains, filter_map}
use Rattle.bolt_lemmas.proofs.Exports.{fewer, filter_rises, gives_from, gives_has, kept, kept_from, rises_mapped, shows_from, shows_has}
use Rattle.bolt_lemmas.specs.Order.{Rises}
use Rattle.bolt_format.specs.{Elements.LeafElement, declared.meta.Meta.Meta}
use Rattle.bolt_check.specs.Keys.{Key, key_cmp}
use Rattle.bolt_recover.specs.{Found.AreSought, Recovered.IsRecovered}
use Rattle.bolt_tree.proofs.Exports.{key_total}
use Rattle.bolt_tree.specs.{Entries.Bucket, Entries.EntryView, Entries.Item, Entries.Value, Entries.entry_view, InBuckets.view_cmp, Listing.Member}
use Rattle.bolt_tree.specs.Listing.{member_cmp}
use Rattle.bolt_etcd.specs.{Store.Compacted.compacted_by, Store.Current.HaveOwnKeys, Store.Current.IsCurrentAmong}
use Rattle.bolt_repair.specs.Candidates.{among, without}
use Rattle.bolt_etcd.specs.{Store.HashKv.passes, Store.Newest.is_until, Wire.Revisions.RevisionView, Wire.Revisions.revision_of}
use Rattle.bolt_repair.specs.{Candidates.AreCandidates, Candidates.is_candidate, Candidates.is_in_place, FullRepairs.AreCandidateKeys}
use Rattle.bolt_repair.specs.{FullRepairs.IsFullRepair}
use Rattle.bolt_repair.specs.Readable.{is_readable, readable}
use Rattle.bolt_repair.specs.Repaired.{IsRepair, MakesMeta, MakesStore, elements_on, lacks_bucket}
use Rattle.bolt_repair.specs.Repairs.{AreBack, GoesBack, IsAgreed, IsCandidate, IsCompactedAt, IsKeptRevision, IsNewestUpTo, store_path}
use Rattle.bolt_repair.specs.{RecoveredStores.IsRecoveredStore, Undisputed.AreKeys, Undisputed.AreUndisputed}
use Rattle.bolt_repair.specs.WhatGoesBack.{ArePutBack, goes_back, old_revisions}
use Rattle.bolt_etcd.proofs.Exports.{stored_key_is, until_early}
use Rattle.bolt_repair.proofs.{KeysAmong.among_has, KeysAmong.among_true, KeysAmong.without_has, OneRepair.member_once, OneRepair.readable_rises}
use Rattle.bolt_repair.proofs.{WholeOrder.in_place, WholeOrder.same_view}

until_at : (compacted : ℕ) (r : RevisionView) → is_until compacted r ≡ true → r.key.main ≤ compacted
until_at compacted r until = ltb-false compacted r.key.main (not-true (nat_lt compacted r.key.main) until)

abbrev pub is_nil : {A : Type 0} → List A → Bool
is_nil [] = true
is_nil (x ∷ xs) = false

pub value_under : (o : Option Item) → lacks_bucket o ≡ None → (value : List ℕ) × (o ≡ Some (Value value))
value_under None none = cc
value_under (Some (Bucket sequence)) none = cc
value_under (Some (Value value)) none = (value, refl)

-- ---- from elements

module _ (recovered : List Member) (found : List LeafElement) (all : List EntryView) (met : List Key) (under : Option Item) (noted : Option (List ℕ))
    (revisions : List RevisionView)
    (are : AreCandidates found all) (store : IsRecoveredStore recovered all under noted revisions met) where
  -- ---- candidates

  candidate_from : (e : EntryView) → Contains (without met all) e → (r : RevisionView) × IsCandidate recovered found e r
  candidate_from e left =
      let (has, unmet) = (without_has met all e).0 left in
      let (there, passes) = kept_from is_candidate (map entry_view found) e ((are.exact e).0 has) in
      let (element, is_found, is) = shows_from entry_view found e there in
      let (r, read, place) = in_place (revision_of e) passes in (
        r,
        record {
          element = element;
          is_found = is_found;
          shows = is;
          is_revision = read;
          in_place = place;
          is_lost = λ item kept. unmet ((store.met e.key).1 ((e, has, refl), (item, kept)));
        },
      )

  candidate_to : (e : EntryView) (r : RevisionView) → IsCandidate recovered found e r → Contains (without met all) e
  candidate_to e r c =
      let there = subst (Contains (map entry_view found)) c.shows (shows_has entry_view found c.element c.is_found) in
      let passes : is_candidate e ≡ true = ap is_in_place c.is_revision ∙ ap not c.in_place in
      (without_has met all e).1 (
        (are.exact e).1 (kept is_candidate (map entry_view found) e there passes),
        λ has. let (_, (item, kept_one)) = (store.met e.key).0 has in c.is_lost item kept_one,
      )

  pub candidate_keys : (keys : List Key) → AreKeys (without met all) keys → AreCandidateKeys recovered found keys
  candidate_keys keys is = record {
    rises = is.rises;
    exact = λ key. (
      λ has. let (e, unmet, at) = (is.exact key).0 has in let (r, c) = candidate_from e unmet in (e, r, c, at),
      λ (e, r, c, at). (is.exact key).1 (e, candidate_to e r c, at),
    );
  }

  -- ---- agreed ones

  module _ (agreed : List EntryView) (agree : AreUndisputed (without met all) agreed) where
    agreed_from : (e : EntryView) → Contains agreed e → (r : RevisionView) × IsAgreed recovered found e r
    agreed_from e has =
        let (unmet, alone) = (agree.exact e).0 has in
        let (r, c) = candidate_from e unmet in
        (r, record { candidate = c; undisputed = λ other is also same. alone other (candidate_to other is also) same })

    agreed_to : (e : EntryView) (r : RevisionView) → IsAgreed recovered found e r → Contains agreed e
    agreed_to e r is =
        (agree.exact e).1 (candidate_to e r is.candidate, λ other unmet same. let (s, c) = candidate_from other unmet in is.undisputed other s c same)

    in_all : (e : EntryView) → Contains agreed e → Contains all e
    in_all e has = ((without_has met all e).0 ((agree.exact e).0 has).0).0

    same_revision : (a b : EntryView) (r s : RevisionView) → a ≡ b → revision_of a ≡ Some r → revision_of b ≡ Some s → r ≡ s
    same_revision a b r s same is also = same_Some r s (sym is ∙ ap revision_of same ∙ also)

    same_keys : (a b : EntryView) (r s : RevisionView) → revision_of a ≡ Some r → revision_of b ≡ Some s → r.stored_key ≡ s.stored_key → a.key ≡ b.key
    same_keys a b r s is also same = sym (stored_key_is a r is) ∙ same ∙ stored_key_is b s also

    -- ---- of the old ones no two are under one key

    module _ (rises : Rises member_cmp recovered) (compacted : ℕ) where
      abbrev old : List RevisionView
      old = old_revisions compacted revisions agreed

      abbrev IsOf : RevisionView → Type 0
      IsOf r = Contains revisions r ⊎ ((e : EntryView) × Contains agreed e × (revision_of e ≡ Some r))

      old_cases : (r : RevisionView) → Contains old r → IsOf r × (is_until compacted r ≡ true)
      old_cases r has =
          let (there, until) = kept_from (is_until compacted) (revisions ++ filter_map revision_of agreed) r has in (
            elim (Contains-append_cases revisions (filter_map revision_of agreed) r there) [
              | inl mine ↦ inl mine
              | inr other ↦ inr (gives_from revision_of agreed r other)
            ],
            until,
          )

      old_from : (r : RevisionView) → IsOf r → r.key.main ≤ compacted → Contains old r
      old_from r (inl has) low =
          kept (is_until compacted) _ r (Contains-append_left revisions (filter_map revision_of agreed) r has) (until_early compacted r low)
      old_from r (inr (e, has, is)) low =
          kept (is_until compacted) _ r (Contains-append_right revisions (filter_map revision_of agreed) r (gives_has revision_of agreed e r has is))
          (until_early compacted r low)

      lost : (e : EntryView) (r s : RevisionView) → Contains agreed e → revision_of e ≡ Some r → IsKeptRevision recovered s
          → s.stored_key ≡ r.stored_key → ⊥
      lost e r s has is (x, there, also) same =
          let (_, agrees) = agreed_from e has in
          agrees.candidate.is_lost x.item (subst (λ (k : Key). Contains recovered (store_path ++ k ∷ [], x.item)) (same_keys x e s r also is same) there)

      one_kept : (a b : RevisionView) → IsKeptRevision recovered a → IsKeptRevision recovered b → a.stored_key ≡ b.stored_key → a ≡ b
      one_kept a b (x, has, is) (y, there, also) same =
          let keys = same_keys x y a b is also same in
          let items =
          member_once recovered rises (store_path ++ y.key ∷ []) x.item y.item
          (subst (λ (k : Key). Contains recovered (store_path ++ k ∷ [], x.item)) keys has) there in
          same_revision x y a b (same_view x y keys items) is also

      module _ (e : EntryView) (has : Contains agreed e) where
        are_kept : (r : RevisionView) → Contains revisions r ↔ IsKeptRevision recovered r
        are_kept = store.kept e (in_all e has)

        one_of_key : (x : EntryView) (r s : RevisionView) → Contains agreed x → revision_of x ≡ Some r → IsOf s → s.stored_key ≡ r.stored_key → s ≡ r
        one_of_key x r s there is (inl mine) same = absurd (lost x r s there is ((are_kept s).0 mine) same)
        one_of_key x r s there is (inr (y, also, reads)) same =
            same_revision y x s r (((agree.exact x).0 there).1 y ((agree.exact y).0 also).0 (same_keys y x s r reads is same)) reads is

        one_old : (a b : RevisionView) → IsOf a → IsOf b → a.stored_key ≡ b.stored_key → a ≡ b
        one_old a b (inl mine) (inl other) same = one_kept a b ((are_kept a).0 mine) ((are_kept b).0 other) same
        one_old a b (inr (x, there, is)) of_b same = sym (one_of_key x a b there is of_b (sym same))
        one_old a b (inl mine) (inr (x, there, is)) same = one_of_key x b a there is (inl mine) same

        own_keys : HaveOwnKeys old
        own_keys a b first second same = one_old a b (old_cases a first).0 (old_cases b second).0 same

        -- ---- the newest of them

        module _ (r : RevisionView) (is : revision_of e ≡ Some r) where
          newest_from : IsCurrentAmong old r → IsNewestUpTo compacted recovered found r
          newest_from n = record {
            there = n.there;
            until = until_at compacted r (old_cases r n.has).1;
            kept = λ other kept_one names low. n.last other (old_from other (inl ((are_kept other).1 kept_one)) low) names;
            agreed = λ x other agrees names low. n.last other (old_from other (inr (x, agreed_to x other agrees, agrees.candidate.is_revision)) low) names;
          }

          newest_to : IsNewestUpTo compacted recovered found r → IsCurrentAmong old r
          newest_to n = record {
            has = old_from r (inr (e, has, is)) n.until;
            there = n.there;
            last = λ other there names.
                let (of, until) = old_cases other there in
                let low = until_at compacted other until in
                elim of [
                  | inl mine ↦ n.kept other ((are_kept other).0 mine) names low
                  | inr (x, also, reads) ↦
                      let (s, agrees) = agreed_from x also in
                      let same = same_revision x x s other refl agrees.candidate.is_revision reads in
                      n.agreed x other (subst (IsAgreed recovered found x) same agrees) names low
                ];
          }

      module _ (back : List EntryView) (put : ArePutBack compacted revisions agreed back) where
        abbrev stored_keys : List Key
        stored_keys = map (λ (r : RevisionView). r.stored_key) put.newest

        goes_from : (e : EntryView) → Contains agreed e → goes_back compacted put.newest e ≡ true → GoesBack compacted recovered found e
        goes_from e has goes =
            let (r, is) = agreed_from e has in
            let read = is.candidate.is_revision in (
              r,
              is,
              elim (or_cases (not (passes (is_until compacted) (revision_of e))) (among stored_keys e.key) goes) [
                | inl new ↦
                    inl (ltb-true compacted r.key.main
                    (not-false (nat_lt compacted r.key.main)
                    (sym (ap (passes (is_until compacted)) read) ∙ not-true (passes (is_until compacted) (revision_of e)) new)))
                | inr one ↦
                    let (s, there, at) = shows_from (λ (x : RevisionView). x.stored_key) put.newest e.key (among_has stored_keys e.key one) in
                    let n = (put.are (own_keys e has) s).0 there in
                    let same = one_of_key e has e r s has read (old_cases s n.has).0 (at ∙ sym (stored_key_is e r read)) in
                    inr (newest_from e has r read (subst (IsCurrentAmong old) same n))
              ],
            )

        goes_to : (e : EntryView) → GoesBack compacted recovered found e → Contains agreed e × (goes_back compacted put.newest e ≡ true)
        goes_to e (r, is, why) =
            let has = agreed_to e r is in
            let read = is.candidate.is_revision in (
              has,
              elim why [
                | inl above ↦
                    or_left (not (passes (is_until compacted) (revision_of e))) (among stored_keys e.key)
                    (ap (λ (o : Option RevisionView). not (passes (is_until compacted) o)) read
                    ∙ ap (λ (b : Bool). not (not b)) (lt-ltb compacted r.key.main above))
                | inr n ↦ or_right (not (passes (is_until compacted) (revision_of e))) (among stored_keys e.key)
                    (among_true stored_keys e.key
                    (subst (Contains stored_keys) (stored_key_is e r read)
                    (shows_has (λ (x : RevisionView). x.stored_key) put.newest r ((put.are (own_keys e has) r).1 (newest_to e has r read n)))))
              ],
            )

        back_from : (e : EntryView) → Contains back e → Contains agreed e × (goes_back compacted put.newest e ≡ true)
        back_from e has = kept_from (goes_back compacted put.newest) agreed e (subst (λ (es : List EntryView). Contains es e) put.is has)

        pub are_back : AreBack compacted recovered found back
        are_back = record {
          rises = subst (Rises view_cmp) (sym put.is) (filter_rises view_cmp (goes_back compacted put.newest) agreed agree.rises);
          exact = λ e. (
            λ has. let (there, goes) = back_from e has in goes_from e there goes,
            λ is. let (there, goes) = goes_to e is in
                subst (λ (es : List EntryView). Contains es e) (sym put.is) (kept (goes_back compacted put.newest) agreed e there goes),
          );
        }

        -- each that goes back has one of the keys
        pub back_fewer : (keys : List Key) → AreKeys (without met all) keys → length back ≤ length keys
        back_fewer keys is =
            let long = length-map back (λ (e : EntryView). e.key) in
            let few =
            fewer key_total keys (map (λ (e : EntryView). e.key) back) (rises_mapped (λ (e : EntryView). e.key) key_cmp back are_back.rises)
            is.rises (λ key has.
            let (e, there, at) = shows_from (λ (e : EntryView). e.key) back key has in
            (is.exact key).1 (e, ((agree.exact e).0 (back_from e there).0).0, at)) in
            omega (arith, long, few)

  -- ---- the bucket and the compaction

  pub compacted_at : IsCompactedAt recovered (compacted_by noted)
  compacted_at = by noted refl
    where
      by : (o : Option (List ℕ)) → noted ≡ o → IsCompactedAt recovered (compacted_by o)
      by (Some value) is = inl (value, (store.compaction value).1 is, refl)
      by None is = inr (λ value has. let some = (store.compaction value).0 has in cc, refl)

  module _ (lacks : Bool) (is_lacking : lacks_bucket under ≡ Some lacks) where
    pub no_value : (value : List ℕ) → Contains recovered (store_path, Value value) → ⊥
    no_value value has = let there = ap lacks_bucket ((store.bucket (Value value)).0 has) in cc

    -- it is made if something goes back, and nothing is under its name
    pub makes : (back : List EntryView) → MakesStore recovered back (lacks && not (is_nil back))
    makes back = by under lacks refl is_lacking back
      where
        by : (o : Option Item) (b : Bool) → under ≡ o → lacks_bucket o ≡ Some b → (entries : List EntryView)
            → MakesStore recovered entries (b && not (is_nil entries))
        by o true is some [] = tt
        by o false is some [] = tt
        by None true is some (e ∷ entries) = λ item has. let there = (store.bucket item).0 has in cc
        by None false is some (e ∷ entries) = cc
        by (Some (Value value)) b is some (e ∷ entries) = cc
        by (Some (Bucket sequence)) true is some (e ∷ entries) = cc
        by (Some (Bucket sequence)) false is some (e ∷ entries) = (sequence, (store.bucket (Bucket sequence)).1 is)

-- ---- the repair of a file

-- What is found and recovered of a file, by which these are the candidates, those that are agreed, and those that go back.
pub record IsFound (file : List ℕ) (meta : Meta) (search : Bool) (all agreed back : List EntryView) (met : List Key) (under : Option Item)
    (meta_is_made : Bool) : Type 0 where
  pub found : List ℕ
  pub sought : AreSought file meta search found
  pub candidates : AreCandidates (elements_on file meta found) all
  pub recovered : List Member
  pub recovers : IsRecovered file meta recovered
  pub noted : Option (List ℕ)
  pub revisions : List RevisionView
  pub store : IsRecoveredStore (readable recovered) all under noted revisions met
  pub agree : AreUndisputed (without met all) agreed
  pub put : ArePutBack (compacted_by noted) revisions agreed back
  pub makes_meta : MakesMeta recovered meta_is_made

module _ {file : List ℕ} {meta : Meta} {search : Bool} {all agreed back : List EntryView} {met : List Key} {under : Option Item} {meta_is_made : Bool}
    (is : IsFound file meta search all agreed back met under meta_is_made) where
  abbrev kept_of : List Member
  kept_of = readable is.recovered

  abbrev elements : List LeafElement
  elements = elements_on file meta is.found

  rises : Rises member_cmp kept_of
  rises = readable_rises is.recovered is.recovers.rises

  pub back_least : (keys : List Key) → AreKeys (without met all) keys → length back ≤ length keys
  back_least keys are =
      back_fewer kept_of elements all met under is.noted is.revisions is.candidates is.store agreed is.agree rises (compacted_by is.noted) back is.put keys are

  module _ (lacks : Bool) (is_lacking : lacks_bucket under ≡ Some lacks) (is_made : Bool) (made : is_made ≡ (lacks && not (is_nil back))) where
    pub repair : IsRepair file meta search back (record { store = is_made; meta = meta_is_made })
    repair = record {
      recovered = is.recovered;
      recovers = is.recovers;
      found = is.found;
      are_found = is.sought;
      compacted = compacted_by is.noted;
      is_compacted = compacted_at kept_of elements all met under is.noted is.revisions is.candidates is.store;
      are_back =
          are_back kept_of elements all met under is.noted is.revisions is.candidates is.store agreed is.agree rises (compacted_by is.noted) back is.put;
      makes =
          subst (MakesStore kept_of back) (sym made)
          (makes kept_of elements all met under is.noted is.revisions is.candidates is.store lacks is_lacking back);
      makes_meta = is.makes_meta;
    }

    pub full_repair : (keys : List Key) → AreKeys (without met all) keys → (left_out : ℕ) → left_out ≡ length keys - length back
        → IsFullRepair file meta search back (record { store = is_made; meta = meta_is_made }) left_out
    unfolding repair
    full_repair keys are left_out number =
        let few = back_least keys are in
        record {
          repair = repair;
          left = (
            keys,
            candidate_keys kept_of elements all met under is.noted is.revisions is.candidates is.store keys are,
            omega (arith, few, number),
          );
          bucket = λ value has. no_value kept_of elements all met under is.noted is.revisions is.candidates is.store lacks is_lacking value
              (kept (λ (m : Member). is_readable m.0 m.1) is.recovered (store_path, Value value) has refl);
        }

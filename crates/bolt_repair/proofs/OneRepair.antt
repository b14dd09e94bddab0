-- There is one repaired listing.
use Rattle.std.proofs.Common.{arith, ap₂, ◌≡◌, ◌∙◌, inl, inr, ℕ, Bool, true, false, List, [], ◌∷◌, refl, subst, sym, ap}
use Rattle.std.proofs.lemmas.Cmp.{on_total}
use Rattle.std.specs.{Cmp.IsTotalOrder, List.Contains}
use Rattle.bolt_lemmas.proofs.Exports.{filter_rises, one_of, rises_once}
use Rattle.bolt_lemmas.specs.Order.{Rises}
use Rattle.bolt_format.specs.{Elements.LeafElement, declared.meta.Meta.Meta}
use Rattle.bolt_tree.specs.{Entries.Bucket, Entries.EntryView, Entries.Value, Entries.Item, InBuckets.view_cmp, Listing.Member, Listing.member_cmp}
use Rattle.bolt_tree.specs.Paths.{Path}
use Rattle.bolt_tree.proofs.Exports.{key_total, path_total}
use Rattle.bolt_recover.proofs.Exports.{one_recovered}
use Rattle.bolt_check.specs.Ones.{AtMostOne}
use Rattle.bolt_recover.specs.{Found.AreFound, Found.AreFoundInAnyCase, Found.AreSought, Recovered.IsRecovered}
use Rattle.bolt_etcd.specs.{Store.Compacted.compacted_by, Wire.Revisions.value_of}
use Rattle.bolt_repair.specs.Readable.{is_readable, readable}
use Rattle.bolt_repair.specs.Repaired.{IsRepair, IsRepaired, Made, MakesMeta, MakesStore, elements_on, repaired_listing}
use Rattle.bolt_repair.specs.Repairs.{AreBack, IsCompactedAt, compaction_path}

pub view_total : IsTotalOrder view_cmp
view_total = on_total (λ (e : EntryView). e.key) key_total

pub readable_rises : (listing : List Member) → Rises member_cmp listing → Rises member_cmp (readable listing)
readable_rises listing rises = filter_rises member_cmp (λ (m : Member). is_readable m.0 m.1) listing rises

one_back : (compacted : ℕ) (recovered : List Member) (found : List LeafElement) (a b : List EntryView) → AreBack compacted recovered found a
    → AreBack compacted recovered found b → a ≡ b
one_back compacted recovered found a b h k =
    rises_once view_total a b h.rises k.rises (λ e has. (k.exact e).1 ((h.exact e).0 has)) (λ e has. (h.exact e).1 ((k.exact e).0 has))

pub member_once : (listing : List Member) → Rises member_cmp listing → (path : Path) (a b : Item) → Contains listing (path, a)
    → Contains listing (path, b) → a ≡ b
member_once listing rises path a b h k = ap (λ (x : Member). x.1) (one_of path_total (λ (x : Member). x.0) listing (path, a) (path, b) rises h k refl)

pub one_compacted : (recovered : List Member) → Rises member_cmp recovered → (n m : ℕ) → IsCompactedAt recovered n → IsCompactedAt recovered m → n ≡ m
one_compacted recovered rises n m (inl (v, has, is)) (inl (w, had, was)) =
    is ∙ ap (λ (item : Item). compacted_by (value_of item)) (member_once recovered rises compaction_path (Value v) (Value w) has had) ∙ sym was
one_compacted recovered rises n m (inl (v, has, is)) (inr (none, zero)) = absurd (none v has)
one_compacted recovered rises n m (inr (none, zero)) (inl (w, had, was)) = absurd (none w had)
one_compacted recovered rises n m (inr (none, zero)) (inr (nothing, is)) = zero ∙ sym is

one_made : (recovered : List Member) (back : List EntryView) (a b : Bool) → MakesStore recovered back a → MakesStore recovered back b → a ≡ b
one_made recovered [] a b h k = grind arith
one_made recovered (e ∷ back) true true h k = refl
one_made recovered (e ∷ back) true false h (sequence, has) = absurd (h (Bucket sequence) has)
one_made recovered (e ∷ back) false true (sequence, has) k = absurd (k (Bucket sequence) has)
one_made recovered (e ∷ back) false false h k = refl

one_meta : (recovered : List Member) (a b : Bool) → MakesMeta recovered a → MakesMeta recovered b → a ≡ b
one_meta recovered true true h k = refl
one_meta recovered true false h k = absurd (h k)
one_meta recovered false true h k = absurd (k h)
one_meta recovered false false h k = refl

module _ (file : List ℕ) (meta : Meta) (search : Bool) (x y : List EntryView) (p q : Made) (h : IsRepair file meta search x p)
    (k : IsRepair file meta search y q)
    (found_one : AtMostOne (AreSought file meta search)) where
  same_recovered : h.recovered ≡ k.recovered
  same_recovered = one_recovered file meta h.recovered k.recovered h.recovers k.recovers

  same_compacted : h.compacted ≡ k.compacted
  same_compacted =
      one_compacted (readable k.recovered) (readable_rises k.recovered k.recovers.rises) h.compacted k.compacted
      (subst (λ (ms : List Member). IsCompactedAt (readable ms) h.compacted) same_recovered h.is_compacted) k.is_compacted

  same_back : x ≡ y
  same_back =
      let on : List ℕ → List LeafElement = elements_on file meta in
      let found = found_one h.found k.found h.are_found k.are_found in
      one_back k.compacted (readable k.recovered) (on k.found) x y
      (subst (λ (n : ℕ). AreBack n (readable k.recovered) (on k.found) x) same_compacted
      (subst (λ (ms : List Member). AreBack h.compacted (readable ms) (on k.found) x) same_recovered
      (subst (λ (ns : List ℕ). AreBack h.compacted (readable h.recovered) (on ns) x) found h.are_back)))
      k.are_back

  same_store : p.store ≡ q.store
  same_store =
      one_made (readable k.recovered) y p.store q.store
      (subst (λ (es : List EntryView). MakesStore (readable k.recovered) es p.store) same_back
      (subst (λ (ms : List Member). MakesStore (readable ms) x p.store) same_recovered h.makes))
      k.makes

  same_meta : p.meta ≡ q.meta
  same_meta = one_meta k.recovered p.meta q.meta (subst (λ (ms : List Member). MakesMeta ms p.meta) same_recovered h.makes_meta) k.makes_meta

  same_made : p ≡ q
  same_made = ap₂ (λ (store meta : Bool). let made : Made = record { store = store; meta = meta } in made) same_store same_meta

  pub same_repaired : repaired_listing h.recovered p x ≡ repaired_listing k.recovered q y
  same_repaired =
      ap (λ (ms : List Member). repaired_listing ms p x) same_recovered ∙ ap (λ (es : List EntryView). repaired_listing k.recovered p es) same_back
      ∙ ap (λ (made : Made). repaired_listing k.recovered made y) same_made

pub one_repaired : (file : List ℕ) (meta : Meta) (search : Bool) → AtMostOne (AreSought file meta search) → AtMostOne (IsRepaired file meta search)
one_repaired file meta search found_one a b h k =
    h.repaired ∙ same_repaired file meta search h.back k.back h.made k.made h.repair k.repair found_one ∙ sym k.repaired

-- the merge of what is recovered and what goes back is the repaired listing
pub merged_repaired : (file : List ℕ) (meta : Meta) (search : Bool) → AtMostOne (AreSought file meta search) → (recovered : List Member)
    → IsRecovered file meta recovered → (back : List EntryView) (made : Made)
    → IsRepair file meta search back made → (listing : List Member) → IsRepaired file meta search listing → repaired_listing recovered made back ≡ listing
merged_repaired file meta search found_one recovered recovers back made repair listing is =
    ap (λ (ms : List Member). repaired_listing ms made back) (one_recovered file meta recovered repair.recovered recovers repair.recovers)
    ∙ one_repaired file meta search found_one (repaired_listing repair.recovered made back) listing
    (record { back = back; made = made; repair = repair; repaired = refl }) is

-- ---- what is searched for in any case

module _ (file : List ℕ) (meta : Meta) (in_any_case : (found : List ℕ) → AreFound file meta found → AreFoundInAnyCase file meta found)
    (listing : List Member) where
  sought_as : (search other : Bool) → ((found : List ℕ) → AreSought file meta search found → AreSought file meta other found)
      → IsRepaired file meta search listing
      → IsRepaired file meta other listing
  sought_as search other same is =
      let r = is.repair in
      record {
        back = is.back;
        made = is.made;
        repair = record {
          recovered = r.recovered;
          recovers = r.recovers;
          found = r.found;
          are_found = same r.found r.are_found;
          compacted = r.compacted;
          is_compacted = r.is_compacted;
          are_back = r.are_back;
          makes = r.makes;
          makes_meta = r.makes_meta;
        };
        repaired = is.repaired;
      }

  pub search_is : IsRepaired file meta false listing → IsRepaired file meta true listing
  search_is is = sought_as false true in_any_case is

  pub search_was : ((search : Bool) → AtMostOne (AreSought file meta search))
      → ((search : Bool) → (found : List ℕ) × AreSought file meta search found) → IsRepaired file meta true listing
      → IsRepaired file meta false listing
  search_was one some is = sought_as true false (λ found sought.
      let (other, are) = some false in
      subst (AreSought file meta false) (one true other found (in_any_case other are) sought) are) is

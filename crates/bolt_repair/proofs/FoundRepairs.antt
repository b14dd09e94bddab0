-- The repair of a file that was searched.
use Rattle.std.proofs.Common.{◌≡◌, ◌↔◌, ◌∙◌, ◌-◌, ◌≤◌, ◌&&◌, ◌++◌, ℕ, Bool, true, false, List, [], ◌∷◌, Option, Some, None, arith, length, map, not}
use Rattle.std.proofs.Common.{refl, sym, ap, ap₂, subst}
use Rattle.std.proofs.{Math.Logic.∥∥₁_elim, Math.Logic.∥∥₁_map, Props.props, lemmas.List.Elements.All-head, lemmas.List.Elements.All-tail}
use Rattle.std.proofs.lemmas.List.{length-map}
use Rattle.std.specs.{Borrow.Bor, List.All, Option.option_map}
use Rattle.bolt_lemmas.specs.Order.{Rises}
use Rattle.bolt_format.specs.{Elements.LeafElement, Pages.page_at, TreePages.leaves_on, declared.meta.Meta.Meta}
use Rattle.bolt_check.specs.{Keys.Key, declared.finding.Finding.Finding}
use Rattle.bolt_tree.specs.{Entries.Bucket, Entries.EntryView, Entries.Item, Entries.Value, Listing.Member, ShownEntries.item_view}
use Rattle.bolt_recover.proofs.Exports.{has_recovered}
use Rattle.bolt_recover.specs.{Losses.LostView, Losses.everything, Losses.is_nothing, Losses.parts, Lost.IsAllLost, LostAndFound.all_lost}
use Rattle.bolt_recover.specs.{Found.AreFound, Found.AreFoundInAnyCase, Found.AreSought, Found.found_numbers, Recovered.ForRecovered}
use Rattle.bolt_recover.specs.{Refusals.LosesRoot, ShownFound.IsFoundView}
use Rattle.bolt_recover.specs.{Sites.leaves_of, declared.found_page.FoundPage.FoundPage, declared.lost_and_found.LostAndFound.LostAndFound}
use Rattle.bolt_etcd.specs.{declared.wire.revision.Revision.Revision, Wire.ShownRevisions.entry_of, Wire.ShownRevisions.shown_revision}
use Rattle.bolt_etcd.specs.{Store.Compacted.compacted_by}
use Rattle.bolt_repair.specs.Candidates.{without}
use Rattle.bolt_repair.specs.{Candidates.AreCandidates, Candidates.AreSearched, Candidates.found_elements, Candidates.whole_cmp}
use Rattle.bolt_repair.specs.{FullRepairs.IsFullRepair, Repaired.IsRepair, Repaired.MakesMeta, Repaired.elements_on}
use Rattle.bolt_repair.specs.{Repaired.lacks_bucket, Repairs.HasMeta}
use Rattle.bolt_repair.specs.RepairRefusals.{IsRepairRefusal, LacksStore, PutsNoneBack, no_bucket_fault}
use Rattle.bolt_repair.specs.{RecoveredStores.IsStoreNoted, Undisputed.AreKeys, Undisputed.AreUndisputed}
use Rattle.bolt_repair.specs.{WhatGoesBack.ArePutBack}
use Rattle.bolt_repair.specs.declared.recovered_store.RecoveredStore.{RecoveredStore}
use Rattle.bolt_repair.proofs.WholeRepairs.{IsFound, back_least, full_repair, is_nil, repair}

-- the elements of the pages of the code are those of the pages with their numbers
elements_found : (file : List ℕ) (meta : Meta) (found : List FoundPage) → All (IsFoundView file meta) found
    → elements_on file meta (found_numbers found) ≡ found_elements found
elements_found file meta [] views = refl
elements_found file meta (f ∷ found) views =
    let here : leaves_of (page_at file meta f.number) ≡ leaves_on f.page = ap leaves_of (All-head (IsFoundView file meta) f found views).page in
    ap₂ (λ (a b : List LeafElement). a ++ b) here (elements_found file meta found (All-tail (IsFoundView file meta) f found views))

loses_root : (searched : LostAndFound) (x : Finding) → all_lost searched ≡ everything x → ∥ LosesRoot searched.file.now searched.meta x ∥₁
unfolding all_lost
loses_root searched x is = ∥∥₁_map searched.searched (λ facts. subst (IsAllLost searched.file.now searched.meta) is facts.lost)

-- Whether nothing goes back and the bucket is lacking. If not, it is made exactly if it is lacking.
abbrev pub HasNothing : (nothing lacks : Bool) → List Revision → Type 0
HasNothing nothing lacks es = (nothing ≡ true) ↔ ((lacks ≡ true) × (es ≡ []))

pub made_if : (es : List Revision) (nothing lacks : Bool) → HasNothing nothing lacks es → nothing ≡ false
    → lacks ≡ (lacks && not (is_nil (map entry_of es)))
made_if es nothing false says is = refl
made_if [] nothing true says is = absurd (let wrong : nothing ≡ true = says.1 (refl, refl) in cc)
made_if (e ∷ es) nothing true says is = refl

bucket_under : (under : Option Item) (lacks : Bool) → lacks_bucket under ≡ Some lacks → lacks ≡ false
    → (sequence : ℕ) × (under ≡ Some (Bucket sequence))
bucket_under None lacks is lacking = cc
bucket_under (Some (Bucket sequence)) lacks is lacking = (sequence, refl)
bucket_under (Some (Value value)) lacks is lacking = cc

pub has_bucket : (es : List Revision) (nothing lacks : Bool) → HasNothing nothing lacks es → nothing ≡ false → map entry_of es ≡ []
    → (under : Option Item) → lacks_bucket under ≡ Some lacks
    → (sequence : ℕ) × (under ≡ Some (Bucket sequence))
has_bucket es nothing false says is none under under_is = bucket_under under false under_is refl
has_bucket [] nothing true says is none under under_is = absurd (let wrong : nothing ≡ true = says.1 (refl, refl) in cc)
has_bucket (e ∷ es) nothing true says is none under under_is = absurd (cc)

pub none_under : (under : Option Item) → lacks_bucket under ≡ Some true → (item : Item) → under ≡ Some item → ⊥
none_under None is item at = cc
none_under (Some (Bucket sequence)) is item at = cc
none_under (Some (Value value)) is item at = cc

pub refused : (searched : LostAndFound) (search : Bool) → PutsNoneBack searched.file.now searched.meta search → ForRecovered searched.file.now searched.meta LacksStore
    → (v : LostView) → all_lost searched ≡ v
    → IsRepairRefusal searched.file.now searched.meta search (no_bucket_fault v)
unfolding all_lost
refused searched search none lacks (everything x) is = (loses_root searched x is, none)
refused searched search none lacks (parts losses) is =
    (∥∥₁_map searched.searched (λ facts. (subst (IsAllLost searched.file.now searched.meta) is facts.lost).0), lacks, none)

abbrev pub now : Bor Key → Key
now key = key.now

-- the bucket `meta` is made if nothing was noted under its name
meta_if : (recovered : List Member) (has : Bool) → (has ≡ true) ↔ HasMeta recovered → MakesMeta recovered (not has)
meta_if recovered true says = says.0 refl
meta_if recovered false says = λ there. let wrong : false ≡ true = says.1 there in cc

-- ---- the candidates

-- on pages that were looked for though nothing is lost
pub searched_in_any_case : (searched : LostAndFound) (search : Bool) (found : List FoundPage) (es : List EntryView) → search ≡ true
    → AreFoundInAnyCase searched.file.now searched.meta (found_numbers found)
    → All (IsFoundView searched.file.now searched.meta) found → AreCandidates (found_elements found) es → AreSearched searched search es
searched_in_any_case searched search found es is are views candidates =
    let file = searched.file.now in
    let meta = searched.meta in
    ∣ (
      found_numbers found,
      subst (λ (b : Bool). AreSought file meta b (found_numbers found)) (sym is) are,
      subst (λ (elements : List LeafElement). AreCandidates elements es) (sym (elements_found file meta found views)) candidates,
    ) ∣₁

-- If something is lost, the pages were found as if they were looked for in any case.
abbrev FindsInAnyCase : Type 0
FindsInAnyCase =
    (file : List ℕ) (meta : Meta) (lost : LostView) (found : List ℕ) → IsAllLost file meta lost → is_nothing lost ≡ false → AreFound file meta found
    → AreFoundInAnyCase file meta found

lost_sought : FindsInAnyCase → (searched : LostAndFound) (search : Bool) → IsAllLost searched.file.now searched.meta (all_lost searched)
    → AreFound searched.file.now searched.meta (found_numbers searched.found.items)
    → (search ≡ true → is_nothing (all_lost searched) ≡ false) → AreSought searched.file.now searched.meta search (found_numbers searched.found.items)
lost_sought in_any_case searched true loses are some = in_any_case searched.file.now searched.meta (all_lost searched) (found_numbers searched.found.items) loses (some refl) are
lost_sought in_any_case searched false loses are some = are

-- on pages that were found since something is lost
pub searched_lost : FindsInAnyCase → (searched : LostAndFound) (search : Bool) (found : List FoundPage) (es : List EntryView) → found ≡ searched.found.items
    → (search ≡ true → is_nothing (all_lost searched) ≡ false)
    → AreCandidates (found_elements found) es → AreSearched searched search es
unfolding all_lost
searched_lost in_any_case searched search found es at some candidates = ∥∥₁_map searched.searched (λ facts. (
  found_numbers searched.found.items,
  lost_sought in_any_case searched search facts.lost facts.are_found some,
  subst (λ (elements : List LeafElement). AreCandidates elements es)
      (ap found_elements at ∙ sym (elements_found searched.file.now searched.meta searched.found.items facts.views)) candidates,
))

rises_prop : (es : List EntryView) → IsProp (Rises whole_cmp es)
rises_prop [] = hlevel props
rises_prop (e ∷ es) = hlevel (rises_prop es, props)

-- candidates stand by key and value
pub searched_rise : (searched : LostAndFound) (search : Bool) (es : List EntryView) → AreSearched searched search es → Rises whole_cmp es
searched_rise searched search es are = ∥∥₁_elim are (rises_prop es) (λ (found, sought, on_pages). on_pages.rises)

-- What the calls of `Repair::find` leave: the candidates, what is recovered of the store, the candidates that are agreed, and those that go back.
pub record FindsBack (searched : LostAndFound) (search : Bool) (all left back : List Revision) (store : RecoveredStore) : Type 0 where
  pub candidates : AreSearched searched search (map entry_of all)
  pub stores : ForRecovered searched.file.now searched.meta (λ recovered. IsStoreNoted recovered (map entry_of all) store)
  pub agree : AreUndisputed (without (map now store.met.items) (map entry_of all)) (map entry_of left)
  pub put : ArePutBack (compacted_by (option_map now store.compaction)) (map shown_revision store.kept.items) (map entry_of left) (map entry_of back)

module _ {searched : LostAndFound} {search : Bool} {all left back : List Revision} {store : RecoveredStore} (finds : FindsBack searched search all left back store)
  where
    is_found : ∥ IsFound searched.file.now searched.meta search (map entry_of all) (map entry_of left) (map entry_of back) (map now store.met.items)
        (option_map item_view store.bucket) (not store.has_meta) ∥₁
    is_found = ∥∥₁_map finds.candidates (λ (found, sought, on_pages).
        let (recovered, recovers) = has_recovered searched.file.now searched.meta in
        let stores = finds.stores recovered recovers in
        record {
          found = found;
          sought = sought;
          candidates = on_pages;
          recovered = recovered;
          recovers = recovers;
          noted = option_map now store.compaction;
          revisions = map shown_revision store.kept.items;
          store = stores.store;
          agree = finds.agree;
          put = finds.put;
          makes_meta = meta_if recovered store.has_meta stores.meta;
        })

    pub searched_least : (keys : List Key) → AreKeys (without (map now store.met.items) (map entry_of all)) keys → length back ≤ length keys
    searched_least keys are = ∥∥₁_elim is_found (hlevel props) (λ is.
        let long = length-map back entry_of in
        let few = back_least is keys are in
        omega (arith, long, few))

    module _ (lacks : Bool) (is_lacking : lacks_bucket (option_map item_view store.bucket) ≡ Some lacks) (is_made : Bool)
        (made : is_made ≡ (lacks && not (is_nil (map entry_of back)))) where
      pub searched_repair : ∥ IsRepair searched.file.now searched.meta search (map entry_of back) (record { store = is_made; meta = not store.has_meta }) ∥₁
      searched_repair = ∥∥₁_map is_found (λ is. repair is lacks is_lacking is_made made)

      pub searched_full : (keys : List Key) → AreKeys (without (map now store.met.items) (map entry_of all)) keys → (left_out : ℕ)
          → left_out ≡ length keys - length back
          → ∥ IsFullRepair searched.file.now searched.meta search (map entry_of back) (record { store = is_made; meta = not store.has_meta }) left_out ∥₁
      searched_full keys are left_out number = ∥∥₁_map is_found (λ is.
          full_repair is lacks is_lacking is_made made keys are left_out (let long = length-map back entry_of in omega (arith, long, number)))

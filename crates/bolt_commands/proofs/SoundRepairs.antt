-- With sound trees nothing goes back, and what is copied is their listing.
use Rattle.std.proofs.Common.{◌≡◌, ◌∙◌, ℕ, Bool, false, List, [], ◌∷◌, ap, arith, inl, inr, length, refl, subst}
use Rattle.bolt_lemmas.proofs.Exports.{contains_head, contains_none}
use Rattle.bolt_commands.proofs.Vocabulary.{Failure, HasSoundTrees, IsListing, IsMetaOf, LostView, Member, Meta, MetaChoice, parts, props, ∥∥₁_elim}
use Rattle.bolt_commands.proofs.{SoundReads.has_meta, SoundReads.keeps_not_loses, SoundRecovery.Below, SoundRecovery.names_one, SoundRecovery.no_loss}
use Rattle.bolt_commands.proofs.{SoundRecovery.no_losses}
use Rattle.bolt_check.specs.Keys.{Key}
use Rattle.bolt_format.specs.Elements.{LeafElement}
use Rattle.bolt_etcd.specs.Wire.UnreadEntries.{UnreadView}
use Rattle.bolt_recover.proofs.Exports.{one_recovered}
use Rattle.bolt_recover.specs.Found.{AreFound}
use Rattle.bolt_tree.specs.Entries.{EntryView, Value}
use Rattle.bolt_repair.specs.{FullRepairs.AreCandidateKeys, FullRepairs.IsLeftOut, Readable.readable, Readable.unread, RepairRefusals.IsRepairRefusal}
use Rattle.bolt_repair.specs.{Repaired.MakesMeta, Repaired.elements_on, Repairs.store_path}
use Rattle.bolt_repair.specs.declared.repair_fault.RepairFault.{RepairFault}
use Rattle.bolt_repair.specs.declared.repair_fault.RepairFault.TheVariants as faults
use Rattle.bolt_commands.specs.{Alike.IsUnrepairable, Alike.read_listing, Failures.repair_failure, RepairAnswers.IsRepairedUnder, RepairAnswers.IsUnrepairableUnder}

-- ---- nothing is a candidate if nothing is found

no_keys : (recovered : List Member) (keys : List Key) → AreCandidateKeys recovered [] keys → keys ≡ []
no_keys recovered [] are = refl
no_keys recovered (key ∷ keys) are =
    let (e, r, candidate, same) = (are.exact key).0 (contains_head key keys) in absurd (contains_none candidate.element candidate.is_found)

none_counted : (recovered : List Member) (found : List LeafElement) (back : List EntryView) (left_out : ℕ) → found ≡ []
    → IsLeftOut recovered found back left_out
    → (length back ≡ 0) × (left_out ≡ 0)
none_counted recovered found back left_out none (keys, are, number) =
    let empty = ap (λ (ks : List Key). length ks) (no_keys recovered keys (subst (λ (es : List LeafElement). AreCandidateKeys recovered es keys) none are)) in
    (omega (arith, number, empty), omega (arith, number, empty))

-- what is so of a repair is so of the same listing, losses, entries and counts
pub same_repair : (P : List Member → LostView → List UnreadView → (back left_out : ℕ) → Type 0) {a b : List Member} {l m : LostView}
    {o p : List UnreadView} {i j n k : ℕ}
    → a ≡ b → o ≡ p → l ≡ m → i ≡ j → n ≡ k → P a l o i n → P b m p j k
same_repair P listing unread_views lost back left_out holds = rw (listing, unread_views, lost, back, left_out) at holds

module _ (b : Below) (file : List ℕ) (meta : Meta) (trees : HasSoundTrees file meta) where
  none_found : (found : List ℕ) → AreFound file meta found → elements_on file meta found ≡ []
  none_found found are = ap (elements_on file meta) (b.none_found file meta found (no_losses b file meta trees) are)

  pub none_repaired : (choice : MetaChoice) (listing : List Member) (lost : LostView) (unread_views : List UnreadView) (back left_out : ℕ)
      → IsRepairedUnder file choice false meta listing lost unread_views back left_out
      → (own : List Member) × IsListing file meta own × (is_made : Bool) × MakesMeta own is_made × (listing ≡ read_listing is_made own)
      × (unread_views ≡ unread own) × (lost ≡ parts []) × (back ≡ 0) × (left_out ≡ 0)
  none_repaired choice listing lost unread_views back left_out is =
      let repair = is.repairs.repair in
      let none =
      none_counted (readable repair.recovered) (elements_on file meta repair.found) is.entries left_out (none_found repair.found repair.are_found)
      is.repairs.left in
      let (own, lists) = b.has_listing file meta trees in
      let (is_made, makes, same) =
      b.unrepaired file meta own listing trees lists (record { back = is.entries; made = is.made; repair = repair; repaired = is.lists }) in (
        own,
        lists,
        is_made,
        makes,
        same,
        is.leaves ∙ ap unread (one_recovered file meta repair.recovered own repair.recovers (b.recovered file meta own trees lists)),
        no_loss b file meta trees lost is.loses,
        is.counts ∙ none.0,
        none.1,
      )

  unrepairable : (fault : RepairFault) (why : Failure) → IsRepairRefusal file meta false fault → why ≡ repair_failure fault → IsUnrepairable file meta why
  unrepairable (faults.Rootless x) why (loses, none) same = absurd (∥∥₁_elim loses (hlevel props) (keeps_not_loses file meta trees meta x refl))
  unrepairable faults.NoBucket why (keeps, lacks, none) same =
      let (listing, lists) = b.has_listing file meta trees in
      inr (inl (same, λ item holds. lacks listing (b.recovered file meta listing trees lists) item ((lists.exact store_path item).1 holds)))
  unrepairable faults.NotABucket why (value, has) same =
      let (listing, lists) = b.has_listing file meta trees in
      inl (same, (value, (lists.exact store_path (Value value)).0 (has listing (b.recovered file meta listing trees lists))))
  unrepairable faults.Memory why is same = inr (inr same)

  pub none_unrepaired : (choice : MetaChoice) → IsMetaOf file choice meta → (why : Failure) → IsUnrepairableUnder file choice false why
      → IsUnrepairable file meta why
  none_unrepaired choice shown why (inl (other, fault, is, refusal, same)) =
      unrepairable fault why (subst (λ (m : Meta). IsRepairRefusal file m false fault) (names_one b file choice meta shown other is) refusal) same
  none_unrepaired choice shown why (inr (fault, none, same)) = absurd (has_meta file meta trees choice fault shown none)

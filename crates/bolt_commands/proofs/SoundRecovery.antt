-- With sound trees, `--recover` does what is done without it under the same meta, if the accounts don't count there, and `--lost-and-found`
-- does what `--recover` does.
use Rattle.std.proofs.Common.{◌≡◌, ◌≢◌, ◌↔◌, ◌*◌, ◌<◌, ◌^◌, ℕ, Bool, false, List, [], Option, ap, arith, inl, inr, length, refl, rules, subst, sym}
use Rattle.std.proofs.Common.{◌∙◌}
use Rattle.bolt_commands.proofs.Vocabulary.{Active, Answer, AreLosses, Assumed, CheckFault, JobEnding, Extent, Failure, Ghosts, Sound, FoundView}
use Rattle.bolt_commands.proofs.Vocabulary.{HasSoundTrees, InSlot, IsActive, IsFailureOf, IsInSlot, IsListedAnswer, IsListing, IsMetaOf, IsMetasFault}
use Rattle.bolt_commands.proofs.Vocabulary.{IsReadTo, IsReadUnder, IsRecovered, IsJoinedWith, IsUnreadTo, ListForm, LossView, Losses, LostView}
use Rattle.bolt_commands.proofs.Vocabulary.{MakesCopy, Member, Meta, MetaChoice, OtherMeta, PageSize, Path, Slot, bad_hash, everything, has_losses}
use Rattle.bolt_commands.proofs.Vocabulary.{hash_refusal, is_snapshot, parts, props, join_failure, ∥∥₁_elim}
use Rattle.bolt_check.specs.declared.check_fault.CheckFault.TheVariants as check
use Rattle.bolt_commands.specs.declared.failure.Failure.TheVariants as failure
use Rattle.bolt_commands.proofs.OtherMetas.{found_metas, metas_found, no_hidden, none_hidden}
use Rattle.bolt_commands.specs.Alike.{HidesNoState}
use Rattle.bolt_commands.proofs.{ReadFiles.no_accounts, ReadFiles.read_meta, SoundReads.NamesOne, SoundReads.has_meta, SoundReads.keeps_not_loses}
use Rattle.bolt_commands.proofs.{SoundReads.keeps_root, SoundReads.unread, SoundReads.unrecovered}
use Rattle.bolt_job.specs.{declared.choices.CopyKind.CopyKind, declared.choices.Extent.TheVariants.FoundPages}
use Rattle.bolt_recover.specs.{Found.AreFound, JoinRefusals.IsJoinRefusal, Lost.IsAllLost, declared.join_fault.JoinFault.JoinFault}
use Rattle.bolt_recover.specs.declared.join_fault.JoinFault.TheVariants as join
use Rattle.bolt_repair.specs.{Readable.readable, Repaired.IsRepaired, Repaired.MakesMeta, Repairs.meta_path}
use Rattle.bolt_tree.specs.{InBuckets.members_in, Merges.merge}

-- what the laws of the crates below say
pub record Below : Type 0 where
  pub chosen_is_one : (file : List ℕ) (slot : Slot) (meta : Meta) → IsActive file slot meta → (other : Slot) (another : Meta)
      → IsActive file other another
      → (other ≡ slot) × (another ≡ meta)
  pub slot_is_one : (file : List ℕ) (slot : Slot) (a b : Meta) → IsInSlot file slot a → IsInSlot file slot b → a ≡ b
  pub listed : (file : List ℕ) (meta : Meta) (listing : List Member) → HasSoundTrees file meta → IsRecovered file meta listing
      → IsListing file meta listing
  pub recovered : (file : List ℕ) (meta : Meta) (listing : List Member) → HasSoundTrees file meta → IsListing file meta listing
      → IsRecovered file meta listing
  pub none_lost : (file : List ℕ) (meta : Meta) (losses : List LossView) → HasSoundTrees file meta → AreLosses file meta losses → losses ≡ []
  pub has_found : (file : List ℕ) (meta : Meta) → (found : List ℕ) × AreFound file meta found
  pub none_found : (file : List ℕ) (meta : Meta) (found : List ℕ) → AreLosses file meta [] → AreFound file meta found → found ≡ []
  pub has_listing : (file : List ℕ) (meta : Meta) → HasSoundTrees file meta → (listing : List Member) × IsListing file meta listing
  pub unrepaired : (file : List ℕ) (meta : Meta) (listing repaired : List Member) → HasSoundTrees file meta → IsListing file meta listing
      → IsRepaired file meta false repaired
      → (is_made : Bool) × MakesMeta listing is_made × (repaired ≡ merge (readable listing) (members_in is_made meta_path []))

pub names_one : Below → (file : List ℕ) (choice : MetaChoice) (meta : Meta) → IsMetaOf file choice meta → NamesOne file choice meta
names_one b file Active meta (slot, chosen) other (another, is) = (b.chosen_is_one file slot meta chosen another other is).1
names_one b file (InSlot slot) meta lies other is = b.slot_is_one file slot other meta is lies
names_one b file (Assumed assumed) meta same other is = is ∙ sym same

-- ---- two extents, under two choices, to which the same is read

-- what is read to the first is read to the second
pub record Reads (file : List ℕ) (meta : Meta) (from to : Extent) (wanted named : MetaChoice) : Type 0 where
  pub read : (other : Meta) (listing : List Member) (lost : LostView) (found : List FoundView) → IsReadTo from file wanted other listing lost found
      → (other ≡ meta) × IsReadTo to file named meta listing lost found
  pub unread : (why : Failure) → IsUnreadTo from file wanted why → IsUnreadTo to file named why
  pub metas : (other : Option OtherMeta) → IsMetasFault from file wanted other → IsMetasFault to file named other

-- and back
pub record ReadsAlike (file : List ℕ) (meta : Meta) (from to : Extent) (wanted named : MetaChoice) : Type 0 where
  pub there : Reads file meta from to wanted named
  pub back : Reads file meta to from named wanted

module _ {file : List ℕ} {meta : Meta} {from to : Extent} {wanted named : MetaChoice} where
  listed : Reads file meta from to wanted named → (form : ListForm) (path start : Path) (answer : Answer)
      → IsListedAnswer from file wanted form path start answer → IsListedAnswer to file named form path start answer
  listed r form path start answer (inl (other, listing, lost, found, read, lacking, (slot, are, is), ended)) =
      inl (meta, listing, lost, found, (r.read other listing lost found read).1, lacking, (slot, r.metas slot are, is), ended)
  listed r form path start answer (inr (why, unread, is)) = inr (why, r.unread why unread, is)

  module _ {O T : Type 0} (out : Ghosts O) (target : Ghosts T) (out_old out_new : O) (target_old target_new : T) (size : Option PageSize)
      (kind : CopyKind) (ending : JobEnding) where
    copied : Reads file meta from to wanted named
        → hash_refusal from (bad_hash (is_snapshot kind) file) ≡ hash_refusal to (bad_hash (is_snapshot kind) file)
        → MakesCopy out out_old out_new target target_old target_new file wanted size kind from ending
        → MakesCopy out out_old out_new target target_old target_new file named size kind to ending
    copied r same (inl (other, listing, lost, found, read, faults, are, writes)) = grind arith
    copied r same (inr (why, unread, none)) = inr (why, r.unread why unread, none)

-- ---- with sound trees

module _ (b : Below) (file : List ℕ) (meta : Meta) (trees : HasSoundTrees file meta) where
  pub no_losses : AreLosses file meta []
  no_losses = let (losses, are) = has_losses file meta in subst (λ (ls : List LossView). AreLosses file meta ls) (b.none_lost file meta losses trees are) are

  pub no_found : AreFound file meta []
  no_found = let (found, are) = b.has_found file meta in subst (λ (ns : List ℕ). AreFound file meta ns) (b.none_found file meta found no_losses are) are

  pub no_loss : (lost : LostView) → IsAllLost file meta lost → lost ≡ parts []
  no_loss (everything x) loses = absurd (keeps_not_loses file meta trees meta x refl loses)
  no_loss (parts reported) (keeps, all) = ap parts (all [] no_losses)

  only_memory : (choice : MetaChoice) → IsMetaOf file choice meta → (why : Failure) → IsUnreadTo Losses file choice why → why ≡ failure.Memory
  only_memory choice shown why (fault, is, of) =
      let memory = unrecovered file meta trees choice fault (names_one b file choice meta shown) shown is in
      subst (λ (f : CheckFault). IsFailureOf f why) memory of

  -- ---- what is recovered under one choice is read under the other, of which the accounts don't count

  module _ (wanted named : MetaChoice) (shown : IsMetaOf file wanted meta) (shown_named : IsMetaOf file named meta) (hides : HidesNoState file wanted)
      (alone : named ≢ Active) where
    pub under : IsReadUnder file named meta
    under = (shown_named, trees, no_accounts file named meta alone)

    recovered_there : Reads file meta Losses Sound wanted named
    recovered_there = record {
      read = λ other listing lost found ((is, keeps), recovered, (losses, are, told), none).
          (let same = names_one b file wanted meta shown other is in
          let lists = b.listed file meta listing trees (subst (λ (m : Meta). IsRecovered file m listing) same recovered) in
          let empty = b.none_lost file meta losses trees (subst (λ (m : Meta). AreLosses file m losses) same are) in
          (same, (under, lists, told ∙ ap parts empty, none)));
      unread = λ why unread. (check.Memory, tt, only_memory wanted shown why unread);
      metas = none_hidden file wanted hides;
    }

    recovered_back : Reads file meta Sound Losses named wanted
    recovered_back = record {
      read = λ other listing lost found (read, lists, told, none).
          (let same = names_one b file named meta shown_named other (read_meta file named other read) in
          let recovered = b.recovered file meta listing trees (subst (λ (m : Meta). IsListing file m listing) same lists) in
          (same, ((shown, keeps_root file meta trees), recovered, ([], no_losses, told), none)));
      unread = λ why (fault, is, of). (
        check.Memory,
        tt,
        subst (λ (f : CheckFault). IsFailureOf f why) (unread file meta trees named fault (names_one b file named meta shown_named) under is) of,
      );
      metas = λ other none. rw none (no_hidden file wanted meta shown hides);
    }

    pub recovers_alike : ReadsAlike file meta Losses Sound wanted named
    recovers_alike = record { there = recovered_there; back = recovered_back }

  -- ---- if nothing is lost, nothing is found

  module _ (choice : MetaChoice) (shown : IsMetaOf file choice meta) (few : length file < 10 ^ 16 * meta.page_size) where
    joined_with : (listing : List Member) (lost : LostView) (found : List FoundView) → IsJoinedWith file meta listing lost found
        → IsReadTo Losses file choice meta listing lost found
    joined_with listing lost found is =
        let joins = is.joins in
        let none = b.none_found file meta joins.found no_losses joins.are_found in
        let same : listing ≡ joins.recovered = rw none at joins.joined in
        let (numbers, are, pages) = is.finds in (
          (shown, keeps_root file meta trees),
          subst (IsRecovered file meta) (sym same) joins.recovers,
          ([], no_losses, no_loss lost is.loses),
          rw (b.none_found file meta numbers no_losses are) at pages,
        )

    unjoined : (found : List ℕ) (fault : JoinFault) (why : Failure) → AreFound file meta found → IsJoinRefusal file meta found fault
        → why ≡ join_failure fault
        → why ≡ failure.Memory
    unjoined found (join.Rootless x) why are (none, loses) same = absurd (∥∥₁_elim loses (hlevel props) (keeps_not_loses file meta trees meta x refl))
    unjoined found join.Exists why are (some, has) same = absurd (some (b.none_found file meta found no_losses are))
    unjoined found join.TooManyPages why are large same = absurd (omega (arith, few, large))
    unjoined found join.Memory why are is same = same

    found_there : Reads file meta FoundPages Losses choice choice
    found_there = record {
      read = λ other listing lost found (is, all).
          (let same = names_one b file choice meta shown other is in
          (same, joined_with listing lost found (subst (λ (m : Meta). IsJoinedWith file m listing lost found) same all)));
      unread = λ why unread. (
        check.Memory,
        tt,
        elim unread [
          | inl (other, is, (found, fault, are, refusal, same)) ↦
              let one = names_one b file choice meta shown other is in
              unjoined found fault why (rw one at are) (rw one at refusal) same
          | inr (fault, none, same) ↦ absurd (has_meta file meta trees choice fault shown none)
        ],
      );
      metas = found_metas file choice;
    }

    found_back : Reads file meta Losses FoundPages choice choice
    found_back = record {
      read = λ other listing lost found ((is, keeps), recovered, (losses, are, told), none).
          (let same = names_one b file choice meta shown other is in
          let empty : lost ≡ parts [] = told ∙ ap parts (b.none_lost file meta losses trees (subst (λ (m : Meta). AreLosses file m losses) same are)) in
          let all : IsJoinedWith file meta listing (parts []) [] = record {
            joins = record {
              recovered = listing;
              recovers = subst (λ (m : Meta). IsRecovered file m listing) same recovered;
              found = [];
              are_found = no_found;
              joined = refl;
            };
            loses = (keeps_root file meta trees, λ others are_too. sym (b.none_lost file meta others trees are_too));
            finds = ([], no_found, refl);
            apart = λ some. absurd (some refl);
            some = λ x everything_is. absurd (search (rules, everything_is));
          } in
          (same, (shown, rw (empty, none) all)));
      unread = λ why unread. inl (meta, shown, ([], join.Memory, no_found, tt, only_memory choice shown why unread));
      metas = metas_found file choice;
    }

    pub finds_alike : ReadsAlike file meta FoundPages Losses choice choice
    finds_alike = record { there = found_there; back = found_back }

-- ---- `list` and `compact`

pub lists_the_same : {file : List ℕ} {meta : Meta} {from to : Extent} {wanted named : MetaChoice} → ReadsAlike file meta from to wanted named
    → (form : ListForm) (path start : Path) (answer : Answer)
    → IsListedAnswer from file wanted form path start answer ↔ IsListedAnswer to file named form path start answer
lists_the_same r form path start answer = (listed r.there form path start answer, listed r.back form path start answer)

pub copies_the_same : {file : List ℕ} {meta : Meta} {from to : Extent} {wanted named : MetaChoice} → ReadsAlike file meta from to wanted named
    → {O T : Type 0} (out : Ghosts O) (target : Ghosts T) (out_old out_new : O) (target_old target_new : T) (size : Option PageSize) (kind : CopyKind)
    (ending : JobEnding)
    → hash_refusal from (bad_hash (is_snapshot kind) file) ≡ hash_refusal to (bad_hash (is_snapshot kind) file)
    → MakesCopy out out_old out_new target target_old target_new file wanted size kind from ending
    ↔ MakesCopy out out_old out_new target target_old target_new file named size kind to ending
copies_the_same r out target out_old out_new target_old target_new size kind ending same = grind arith

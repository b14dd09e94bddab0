-- What `check` answers to a good copy, and to its proper prefixes.
use Rattle.std.proofs.Common.{arith, ◌≡◌, ◌≢◌, ◌∙◌, ◌&&◌, ◌⊎◌, ◌∷◌, ◌<◌, ℕ, List, [], Bool, true, false, IsTrue, Option, None, Some, Ok, ap, codes}
use Rattle.std.proofs.Common.{inl, inr, length, refl}
use Rattle.std.proofs.Common.{subst, sym, take}
use Rattle.bolt_commands.proofs.Vocabulary.{Active, Answer, AnswersLost, AreGaps, AreLosses, CheckFault, Extent, FileFaults, Sound, HasBothMetas}
use Rattle.bolt_commands.proofs.Vocabulary.{HasNoGaps, HasSoundTrees, IsCheckAnswer, IsCheckAnswerAfter, IsActive, IsFindingsAnswer, IsGoodCopy}
use Rattle.bolt_commands.proofs.Vocabulary.{IsLostAnswer, IsMetaOf, IsMetasFault, IsSnapshot, IsSound, LossView, Losses, Member, Meta, OtherMeta}
use Rattle.bolt_commands.proofs.Vocabulary.{PageGapView, Site, RefusesFile, Slot, cases_lt, check_refusal, copy_of, done, hash_fault}
use Rattle.bolt_commands.proofs.Vocabulary.{asked_hash_fault, loss_at, losses_of, site_at, refused, everything, has_losses, parts}
use Rattle.bolt_commands.proofs.{NoGaps.none_reported, OtherMetas.no_other, ReadFiles.read_active, ReadFiles.refused_active, SoundReads.NamesOne}
use Rattle.bolt_commands.proofs.{SoundReads.keeps_not_loses, SoundReads.unread}
use Rattle.bolt_check.specs.declared.check_fault.CheckFault.TheVariants as check
use Rattle.bolt_etcd.specs.declared.check.snapshot.SnapshotFault.{SnapshotFault}
use Rattle.bolt_etcd.proofs.Exports.{no_fault_iff}
use Rattle.bolt_recover.specs.Surveys.{ForSurveys, LosesNothing, SurveyedWay}
use Rattle.bolt_job.specs.declared.choices.Extent.TheVariants.{FoundPages}
use Rattle.bolt_commands.specs.declared.failure.Failure.TheVariants as failure
use Rattle.bolt_commands.specs.{CheckAnswers.AreFindingsFor, CheckAnswers.bbolt_answer, CheckAnswers.is_right}
use Rattle.bolt_check.specs.{declared.bbolt_file.FileFinding.FileFinding, declared.finding.Finding.Finding}

-- what the laws of the crates below say
pub record Laws : Type 0 where
  pub one : (file : List ℕ) (slot : Slot) (meta : Meta) → IsActive file slot meta → (other : Slot) (another : Meta) → IsActive file other another
      → (other ≡ slot) × (another ≡ meta)
  pub lose : ForSurveys (λ file meta survey. HasSoundTrees file meta → LosesNothing survey)

one_active : Laws → (file : List ℕ) (slot : Slot) (meta : Meta) → IsActive file slot meta → NamesOne file Active meta
one_active laws file slot meta chosen other (another, is) = (laws.one file slot meta chosen another other is).1

-- ---- ways that aren't lost have no losses

none_at : (o : Option Site) → loss_at o None ≡ []
none_at None = refl
none_at (Some p) = refl

none_of : (file : List ℕ) (meta : Meta) (survey : List SurveyedWay) → LosesNothing survey → losses_of file meta survey ≡ []
none_of file meta [] each = refl
none_of file meta (v ∷ survey) each = rw (each v (inl refl), none_at (site_at file meta v.way)) (none_of file meta survey (λ w has. each w (inr has)))

-- ---- what is wrong with a file apart from its pages

abbrev no_faults : FileFaults
no_faults = record { hash = None; other = None }

no_hash_fault : (snapshot : Bool) (file : List ℕ) → (IsTrue snapshot → IsSnapshot file) → asked_hash_fault snapshot file ≡ None
no_hash_fault false file hash = refl
no_hash_fault true file hash = (no_fault_iff file (hash_fault file) refl).1 (hash refl)

no_other_fault : (extent : Extent) (file : List ℕ) → HasBothMetas file → (other : Option OtherMeta) → IsMetasFault extent file Active other
    → other ≡ None
no_other_fault Sound file both other is = is
no_other_fault extent file both other is = no_other file both other is

wrong_hash : (faults : FileFaults) (fault : SnapshotFault) → faults.hash ≡ Some fault
    → (gaps : List PageGapView) (of_file : List FileFinding) (on_ways : List Finding) → (bbolt_answer faults gaps of_file on_ways).ending ≡ Ok 1
wrong_hash faults fault is [] [] [] = rw is refl
wrong_hash faults fault is (gap ∷ gaps) [] [] = refl
wrong_hash faults fault is gaps [] (x ∷ on_ways) = refl
wrong_hash faults fault is gaps (x ∷ of_file) on_ways = refl

-- nothing is found if it isn't looked for what bbolt fails on
pub none_looked_for : (file : List ℕ) (meta : Meta) (of_file : List FileFinding) (on_ways : List Finding)
    → AreFindingsFor false file Active meta of_file on_ways
    → (of_file ≡ []) × (on_ways ≡ [])
none_looked_for file meta of_file on_ways none = none

-- ---- a file that `check` accepts, and nothing else is wrong with it

abbrev IsFine : Answer → Type 0
IsFine answer = (answer ≡ done (codes "OK\n")) ⊎ (answer ≡ refused failure.Memory)

module _ (laws : Laws) (for_bbolt : Bool) (faults : FileFaults) (file : List ℕ) (slot : Slot) (meta : Meta) (answer : Answer) (right : faults ≡ no_faults)
    (chosen : IsActive file slot meta) (sound : IsSound file meta true) (whole : HasNoGaps file meta)
    (clean : (of_file : List FileFinding) (on_ways : List Finding) → AreFindingsFor for_bbolt file Active meta of_file on_ways → (of_file ≡ []) × (on_ways ≡ [])) where
  one : NamesOne file Active meta
  one = one_active laws file slot meta chosen

  looked_for : (own : Meta) (of_file : List FileFinding) (on_ways : List Finding) → IsMetaOf file Active own
      → AreFindingsFor (for_bbolt && is_right faults []) file Active own of_file on_ways → (of_file ≡ []) × (on_ways ≡ [])
  looked_for own of_file on_ways is are = clean of_file on_ways (by for_bbolt (rw (right, one own is) at are))
    where
      by : (asked : Bool) → AreFindingsFor (asked && true) file Active meta of_file on_ways → AreFindingsFor asked file Active meta of_file on_ways
      by true found = found
      by false found = found

  fine_found : IsFindingsAnswer for_bbolt faults file Active [] answer → IsFine answer
  fine_found (inl (own, of_file, on_ways, under, are, said)) = grind (arith, looked_for)
  fine_found (inr (fault, is, said)) =
      inr (said ∙ ap (check_refusal faults []) (unread file meta sound.trees Active fault one (read_active file slot meta chosen sound) is))

  none_lost : (own : Meta) (losses : List LossView) → IsMetaOf file Active own → AreLosses file own losses → losses ≡ []
  none_lost own losses is (survey, surveys, same) = grind (arith, none_of)

  none_gaps : (own : Meta) (gaps : List PageGapView) → IsMetaOf file Active own → AreGaps file own gaps → gaps ≡ []
  none_gaps own gaps is are = none_reported file own (subst (HasNoGaps file) (sym (one own is)) whole) gaps are

  fine_lost : (extent : Extent) → IsLostAnswer extent for_bbolt faults file Active answer → IsFine answer
  fine_lost extent (inl (own, parts reported, gaps, pages, is, (keeps, all), gapped, finds, answers)) =
      let (losses, are) = has_losses file own in
      fine_found (subst (λ (gs : List PageGapView). IsFindingsAnswer for_bbolt faults file Active gs answer) (none_gaps own gaps is gapped)
      (subst (λ (ls : List LossView). AnswersLost for_bbolt faults file Active (parts ls) gaps pages answer)
      (all losses are ∙ none_lost own losses is are) answers))
  fine_lost extent (inl (own, everything x, gaps, pages, is, loses, gapped, finds, said)) =
      absurd (keeps_not_loses file meta sound.trees own x (one own is) loses)
  fine_lost extent (inr (inl (fault, (bad, none), said))) = absurd (none slot meta chosen.valid)
  fine_lost extent (inr (inr (may, said))) = inr said

  fine : (extent : Extent) → IsCheckAnswerAfter extent for_bbolt faults file Active answer → IsFine answer
  fine Sound is = fine_found is
  fine Losses is = fine_lost Losses is
  fine FoundPages is = fine_lost FoundPages is

pub passes : Laws → (extent : Extent) (snapshot for_bbolt : Bool) (layout : List ℕ) (listing : List Member) (answer : Answer)
    → IsGoodCopy snapshot layout listing
    → ((slot : Slot) (meta : Meta) → IsActive (copy_of snapshot layout) slot meta → (of_file : List FileFinding) (on_ways : List Finding)
    → AreFindingsFor for_bbolt (copy_of snapshot layout) Active meta of_file on_ways → (of_file ≡ []) × (on_ways ≡ []))
    → IsCheckAnswer extent snapshot for_bbolt (copy_of snapshot layout) Active answer → (answer ≡ done (codes "OK\n")) ⊎ (answer ≡ refused failure.Memory)
passes laws extent snapshot for_bbolt layout listing answer good clean (faults, are, is) = grind (arith, no_hash_fault, no_other_fault, fine)

-- ---- a file that `check` refuses, or whose hash isn't right

-- no refusal says that the file is sound
not_ok : (faults : FileFaults) (gaps : List PageGapView) (fault : CheckFault) → (check_refusal faults gaps fault).ending ≢ Ok 0
not_ok faults gaps (check.Open fault) same = cc
not_ok faults gaps fault same = cc

ends_so : {answer other : Answer} → answer ≡ other → other.ending ≢ Ok 0 → answer.ending ≢ Ok 0
ends_so said not same = not (sym (ap (λ (a : Answer). a.ending) said) ∙ same)

module _ (laws : Laws) (for_bbolt : Bool) (faults : FileFaults) (file : List ℕ) (answer : Answer) where
  fails_found : (gaps : List PageGapView) → RefusesFile file ⊎ ((fault : SnapshotFault) × (faults.hash ≡ Some fault))
      → IsFindingsAnswer for_bbolt faults file Active gaps answer
      → answer.ending ≢ Ok 0
  fails_found gaps why (inr (fault, is, said)) = ends_so said (not_ok faults gaps fault)
  fails_found gaps (inl (fault, other, is)) (inl (meta, of_file, on_ways, ((slot, chosen), sound, right), are, said)) =
      absurd (other (unread file meta sound Active fault (one_active laws file slot meta chosen) ((slot, chosen), sound, right) (refused_active file fault is)))
  fails_found gaps (inr (fault, wrong)) (inl (meta, of_file, on_ways, under, are, said)) =
      ends_so said (λ same. let ends = wrong_hash faults fault wrong gaps of_file on_ways in cc)

  fails_lost : (extent : Extent) → RefusesFile file ⊎ ((fault : SnapshotFault) × (faults.hash ≡ Some fault))
      → IsLostAnswer extent for_bbolt faults file Active answer → answer.ending ≢ Ok 0
  fails_lost extent why (inl (meta, parts [], gaps, pages, is, all, gapped, finds, answers)) = fails_found gaps why answers
  fails_lost extent why (inl (meta, parts (loss ∷ losses), gaps, pages, is, all, gapped, finds, said)) = ends_so said (λ same. cc)
  fails_lost extent why (inl (meta, everything x, gaps, pages, is, loses, gapped, finds, said)) = ends_so said (λ same. cc)
  fails_lost extent why (inr (inl (fault, none, said))) = ends_so said (λ same. cc)
  fails_lost extent why (inr (inr (may, said))) = ends_so said (λ same. cc)

  fails_after : (extent : Extent) → RefusesFile file ⊎ ((fault : SnapshotFault) × (faults.hash ≡ Some fault))
      → IsCheckAnswerAfter extent for_bbolt faults file Active answer → answer.ending ≢ Ok 0
  fails_after Sound why is = fails_found [] why is
  fails_after Losses why is = fails_lost Losses why is
  fails_after FoundPages why is = fails_lost FoundPages why is

pub fails : Laws → (extent : Extent) (snapshot for_bbolt : Bool) (layout : List ℕ) (listing : List Member) (n : ℕ) (answer : Answer)
    → IsGoodCopy snapshot layout listing
    → n < length (copy_of snapshot layout)
    → IsCheckAnswer extent snapshot for_bbolt (take n (copy_of snapshot layout)) Active answer → answer.ending ≢ Ok 0
fails laws extent snapshot for_bbolt layout listing n answer good less (faults, are, is) =
    fails_after laws for_bbolt faults (take n (copy_of snapshot layout)) answer extent
    (elim (cases_lt n (length layout)) [ inl early ↦ inl (good.cut_layout n early) | inr late ↦ inr (_, are.hash ∙ good.cut_hash n late less) ]) is

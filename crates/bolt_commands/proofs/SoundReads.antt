-- Where the trees are sound for the one meta that a choice names, only memory can be wanting.
use Rattle.std.proofs.Common.{◌≡◌, ℕ, List, [], inl, refl, subst, sym}
use Rattle.bolt_commands.proofs.Vocabulary.{Active, Assumed, CheckFault, Finding, HasSoundTrees, InSlot, IsClaimedBefore, IsFirstFinding, IsMetaOf}
use Rattle.bolt_commands.proofs.Vocabulary.{IsMetaPage, HasRightAccounts, IsReadUnder, IsRefusedUnder, IsUnrecoverableUnder, Meta, MetaChoice}
use Rattle.bolt_commands.proofs.Vocabulary.{MetaFault, node_at}
use Rattle.bolt_job.specs.MetaChoices.{HasNoMetaOf}
use Rattle.bolt_check.proofs.Exports.{passes_fewer, passes_silent, shape_passes, sound_reports_nothing}
use Rattle.bolt_check.specs.Ways.{At_page, reached, root_spot}
use Rattle.bolt_check.specs.declared.check_fault.CheckFault.TheVariants as check
use Rattle.bolt_recover.specs.Refusals.{KeepsRoot, LosesRoot}

-- the choice names no other meta
abbrev pub NamesOne : List ℕ → MetaChoice → Meta → Type 0
NamesOne file choice meta = (other : Meta) → IsMetaOf file choice other → other ≡ meta

module _ (file : List ℕ) (meta : Meta) (trees : HasSoundTrees file meta) where
  pub keeps_root : KeepsRoot file meta
  keeps_root =
      let nodes = node_at file meta in
      let root = At_page (root_spot meta.root) in
      passes_fewer nodes (IsClaimedBefore nodes (reached nodes meta.root) IsMetaPage []) IsMetaPage root (λ n m. inl m)
      ((shape_passes nodes meta.root trees).passes [] root refl)

  pub keeps_not_loses : (other : Meta) (x : Finding) → other ≡ meta → LosesRoot file other x → ⊥
  keeps_not_loses other x same loses =
      passes_silent (node_at file meta) IsMetaPage (At_page (root_spot meta.root)) x keeps_root (subst (λ (m : Meta). LosesRoot file m x) same loses)

  finds_none : (other : Meta) (x : Finding) → other ≡ meta → IsFirstFinding file other x → ⊥
  finds_none other x same first = sound_reports_nothing file meta x trees (subst (λ (m : Meta). IsFirstFinding file m x) same first)

  -- the choice has a meta
  pub has_meta : (choice : MetaChoice) (fault : MetaFault) → IsMetaOf file choice meta → HasNoMetaOf file choice fault → ⊥
  has_meta Active fault (slot, chosen) (has, none) = none slot meta chosen.valid
  has_meta (InSlot slot) fault lies (has, none) = none meta lies
  has_meta (Assumed assumed) fault same none = none

  pub unrecovered : (choice : MetaChoice) (fault : CheckFault) → NamesOne file choice meta → IsMetaOf file choice meta
      → IsUnrecoverableUnder file choice fault
      → fault ≡ check.Memory
  unrecovered choice (check.Open fault) one shown none = absurd (has_meta choice fault shown none)
  unrecovered choice (check.Structure x) one shown (other, is, loses) = absurd (keeps_not_loses other x (one other is) loses)
  unrecovered choice (check.Accounts findings) one shown none = absurd none
  unrecovered choice check.Memory one shown is = refl

  pub unread : (choice : MetaChoice) (fault : CheckFault) → NamesOne file choice meta → IsReadUnder file choice meta
      → IsRefusedUnder file choice fault → fault ≡ check.Memory
  unread choice (check.Open fault) one under none = absurd (has_meta choice fault under.0 none)
  unread choice (check.Structure x) one under (other, is, first) = absurd (finds_none other x (one other is) first)
  unread choice (check.Accounts findings) one (shown, sound, right) (counts, (other, is, (own, wrong, are, some))) =
      absurd (wrong (subst (HasRightAccounts file) (sym (one other is)) (right counts)))
  unread choice check.Memory one under is = refl

-- What is wrong with the meta in the slot that isn't in use, under two choices and to two extents.
use Rattle.std.proofs.Common.{◌≡◌, List, None, Option, Some, inl, inr, refl, ℕ}
use Rattle.bolt_commands.proofs.Vocabulary.{Active, Assumed, HasBothMetas, InSlot, IsMetaOf, IsMetasFault, IsOtherFault, Losses, Meta, MetaChoice}
use Rattle.bolt_commands.proofs.Vocabulary.{OtherMeta}
use Rattle.bolt_commands.specs.Alike.{HidesNoState}
use Rattle.bolt_format.specs.Metas.{other_slot}
use Rattle.bolt_job.specs.declared.choices.Extent.TheVariants.{FoundPages}

pub no_other : (file : List ℕ) → HasBothMetas file → (other : Option OtherMeta) → IsOtherFault file other → other ≡ None
no_other file both None is = refl
no_other file both (Some other) (inl (slot, meta, chosen, (same, has, none))) = let (unused, valid) = both other.slot in absurd (none unused valid)
no_other file both (Some found) (inr (none, same)) = same

-- if no state is hidden, the other meta is refused to no extent
pub none_hidden : (file : List ℕ) (choice : MetaChoice) → HidesNoState file choice → (other : Option OtherMeta)
    → IsMetasFault Losses file choice other → other ≡ None
none_hidden file Active (inl named) other is = absurd (named refl)
none_hidden file Active (inr both) other is = no_other file both other is
none_hidden file (InSlot slot) hides other is = is
none_hidden file (Assumed assumed) hides other is = is

pub no_hidden : (file : List ℕ) (choice : MetaChoice) (meta : Meta) → IsMetaOf file choice meta → HidesNoState file choice
    → IsMetasFault Losses file choice None
no_hidden file Active meta shown (inl named) = absurd (named refl)
no_hidden file Active meta (slot, chosen) (inr both) = inl (slot, meta, chosen, both (other_slot slot))
no_hidden file (InSlot slot) meta shown hides = refl
no_hidden file (Assumed assumed) meta shown hides = refl

-- to the two extents that recover, the same is looked at
pub found_metas : (file : List ℕ) (choice : MetaChoice) (other : Option OtherMeta) → IsMetasFault FoundPages file choice other
    → IsMetasFault Losses file choice other
found_metas file Active other is = is
found_metas file (InSlot slot) other is = is
found_metas file (Assumed assumed) other is = is

pub metas_found : (file : List ℕ) (choice : MetaChoice) (other : Option OtherMeta) → IsMetasFault Losses file choice other
    → IsMetasFault FoundPages file choice other
metas_found file Active other is = is
metas_found file (InSlot slot) other is = is
metas_found file (Assumed assumed) other is = is

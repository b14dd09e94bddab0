-- The other slot is the one that isn't in use.
use Rattle.std.proofs.Common.{◌≡◌, ◌∙◌, ap, inl, sym}
use Rattle.bolt_format.specs.Metas.{other_slot}
use Rattle.bolt_commands.proofs.other_meta.OtherMeta.find.Goals as goal
use Rattle.bolt_commands.proofs.other_meta.OtherMeta.find.Goals.{in-One, in-Zero}

pub returns-in-Ok-slot_meta : goal.returns-in-Ok-slot_meta
returns-in-Ok-slot_meta c =
    let other : c.match-slot.other ≡ other_slot c.in-Ok.slot =
    elim c.match-slot.branch [ in-Zero w ↦ w.other-is ∙ sym (ap other_slot w.in-Zero.is) | in-One w ↦ w.other-is ∙ sym (ap other_slot w.in-One.is) ] in
    inl (c.in-Ok.slot, c.in-Ok.field-0-1, c.in-Ok.ensures.chosen, (c.in-Ok-slot_meta.field-0, rw other at c.in-Ok-slot_meta.ensures.valid))

use Rattle.std.proofs.Common.{arith}
use Rattle.bolt_format.specs.declared.meta.Slot.TheVariants.{One, Zero}
use Rattle.bolt_format.proofs.MetaLemmas.{IsActive-one, IsInSlot-none, lone_chosen, newer_one, no_newer}
use Rattle.bolt_format.proofs.meta.choose.Goals as goal

pub returns-in-Ok-slot_meta-clause-chosen : goal.returns-in-Ok-slot_meta-clause-chosen
returns-in-Ok-slot_meta-clause-chosen c =
    newer_one c.args.file.now c.in-Ok.zero c.in-Ok-slot_meta.one c.in-Ok.ensures.valid c.in-Ok-slot_meta.ensures.valid c.if-one-zero.true

pub returns-in-Ok-slot_meta-clause-only : goal.returns-in-Ok-slot_meta-clause-only
returns-in-Ok-slot_meta-clause-only c =
    IsActive-one c.args.file.now One c.in-Ok-slot_meta.one
    (newer_one c.args.file.now c.in-Ok.zero c.in-Ok-slot_meta.one c.in-Ok.ensures.valid c.in-Ok-slot_meta.ensures.valid c.if-one-zero.true)

pub returns-in_default-clause-chosen : goal.returns-in_default-clause-chosen
returns-in_default-clause-chosen c =
    no_newer c.args.file.now c.in-Ok.zero c.in-Ok-slot_meta.one c.in-Ok.ensures.valid c.in-Ok-slot_meta.ensures.valid (omega (arith, c.if-one-zero.false))

pub returns-in_default-clause-only : goal.returns-in_default-clause-only
returns-in_default-clause-only c =
    IsActive-one c.args.file.now Zero c.in-Ok.zero
    (no_newer c.args.file.now c.in-Ok.zero c.in-Ok-slot_meta.one c.in-Ok.ensures.valid c.in-Ok-slot_meta.ensures.valid (omega (arith, c.if-one-zero.false)))

pub returns-in_default-2-clause-chosen : goal.returns-in_default-2-clause-chosen
returns-in_default-2-clause-chosen c = lone_chosen c.args.file.now Zero c.in-Ok.zero c.in_default.ensures.none c.in-Ok.ensures.valid

pub returns-in_default-2-clause-only : goal.returns-in_default-2-clause-only
returns-in_default-2-clause-only c =
    IsActive-one c.args.file.now Zero c.in-Ok.zero (lone_chosen c.args.file.now Zero c.in-Ok.zero c.in_default.ensures.none c.in-Ok.ensures.valid)

pub returns-in-Ok-slot_meta-2-clause-only : goal.returns-in-Ok-slot_meta-2-clause-only
returns-in-Ok-slot_meta-2-clause-only c =
    IsActive-one c.args.file.now One c.in-Ok-slot_meta-2.one
    (lone_chosen c.args.file.now One c.in-Ok-slot_meta-2.one c.in-Err.ensures.none c.in-Ok-slot_meta-2.ensures.valid)

pub returns-in-Err-slot_meta-clause-none : goal.returns-in-Err-slot_meta-clause-none
returns-in-Err-slot_meta-clause-none c = IsInSlot-none c.args.file.now c.in-Err.ensures.none c.in-Err-slot_meta.ensures.none

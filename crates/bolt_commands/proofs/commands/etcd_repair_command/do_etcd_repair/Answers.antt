-- The copy is made and then reported, or it isn't whole, or there is none.
use Rattle.std.proofs.Common.{◌∙◌, inl, inr, refl, sym}
use Rattle.std.proofs.lemmas.List.{length-map}
use Rattle.bolt_commands.proofs.{Doing.ends_as, RepairAnswers.repair_done, RepairAnswers.repair_failed, RepairAnswers.unsearched_unrepaired}
use Rattle.bolt_repair.specs.declared.repair_fault.RepairFault.TheVariants.{Memory}
use Rattle.bolt_commands.proofs.commands.etcd_repair_command.do_etcd_repair.Goals as goal

pub returns-in_err-searched : goal.returns-in_err-searched
returns-in_err-searched g c =
    inr (_, unsearched_unrepaired _ _ _ c.in_err-searched.ensures.refused c.args.job.now.search, (refl, refl, ends_as _ _ c.from_residual.ensures.1))

pub returns-in_err-repair : goal.returns-in_err-repair
returns-in_err-repair g c =
    let searched = c.in_ok-searched.ensures.searched in
    let why = rw searched.bytes at c.in_err-repair.ensures.refused in
    inr (_, inl (_, _, searched.under, why, refl), (refl, refl, ends_as _ _ c.from_residual-in_err-repair.ensures.1))

pub returns-in_err-copy : goal.returns-in_err-copy
returns-in_err-copy g c =
    let searched = c.in_ok-searched.ensures.searched in
    let found = rw searched.bytes at c.in_ok-repair.ensures.found in
    let ends = ends_as _ _ c.from_residual-in_err-copy.ensures.1 in
    elim c.in_err-copy.ensures [
      | inl copies ↦ inl (repair_failed searched found g.O.Sink _ c.blueprint_of-blueprint.ensures c.of_copy-faults.ensures _ _ copies ends)
      | inr (same, is) ↦ inr (_, inl (_, Memory, searched.under, tt, refl), (refl, same, ends ∙ is))
    ]

pub returns : goal.returns
returns g c =
    let searched = c.in_ok-searched.ensures.searched in
    let found = rw searched.bytes at c.in_ok-repair.ensures.found in
    let counts = c.len.ensures ∙ c.in_ok-repair.repair.back.ok.0 ∙ sym (length-map _ _) in
    let told = rw (c.of.ensures, c.is_some.ensures, c.lost-lost.ensures, c.as_slice-unread.ensures.value) at c.end_copy.ensures in
    elim c.in_ok-copy.ensures [
      | inl copies ↦
          inl (repair_done searched found g.O.Sink _ c.blueprint_of-blueprint.ensures c.of_copy-faults.ensures _ _ _ counts copies told)
      | inr (same, is) ↦ absurd (cc)
    ]
